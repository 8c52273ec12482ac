use Rattle.substitution.proofs.Prelude.{◌≡◌, ◌+◌, ◌-◌, ap, sym, ◌∙◌, arith, given_by, bound_to}
use Rattle.substitution.proofs.NamesFound.{listed_absent, listed_there, not_there}
use Rattle.substitution.proofs.lookup.listed_at.Goals as goal

pub returns-then-name-first : goal.returns-then-name-first
returns-then-name-first c =
    sym (listed_absent c.args.names.now c.args.values.now c.args.name (not_there c.args.first c.args.names.now c.args.name c.requires (λ k lt e. omega (arith, e))))

pub returns-then-place-names : goal.returns-then-place-names
returns-then-place-names c =
    sym (listed_absent c.args.names.now c.args.values.now c.args.name (not_there c.args.first c.args.names.now c.args.name c.requires (λ k lt e. omega (arith, lt, e))))

pub returns : goal.returns
returns c =
    let at : c.args.first + (c.args.name - c.args.first) ≡ c.args.name = omega arith in
    c.item_at.ensures ∙
    (sym (listed_there c.args.first c.args.names.now c.args.values.now (c.args.name - c.args.first) c.requires (omega arith)) ∙
    ap (given_by (bound_to c.args.names.now c.args.values.now)) at)
