use Rattle.substitution.proofs.Prelude.{List, ℕ, ap, ◌∙◌, with_bound, bound_to, but_for}
use Rattle.substitution.proofs.NamesFound.{none_hidden}
use Rattle.substitution.proofs.values.Values.with_bound.Goals as goal

pub returns : goal.returns
returns c =
    let env = with_bound c.args.bound.now (bound_to c.args.names.now c.args.values.now) in
    ap (λ (hidden : List ℕ). but_for hidden env) c.new.ensures ∙ none_hidden env
