use Rattle.name_tables.proofs.Prelude.{◌≡◌, ◌++◌, ◌∙◌, ap, parameters, Scope, names_of, names_of-parameters}
use Rattle.name_tables.proofs.ends.ends_under.Goals as goal

pub returns : goal.returns
returns c =
    let xs = c.args.params.now in
    let bound : c.bind_all.new.scope ≡ parameters 0 xs = c.in_ok-bind_all.ensures ∙ ap (λ (s : Scope). s ++ parameters 0 xs) c.new-scope.ensures in
    let named : names_of c.bind_all.new.scope ≡ xs = ap names_of bound ∙ names_of-parameters 0 xs in
    rw named at c.ends_of.ensures
