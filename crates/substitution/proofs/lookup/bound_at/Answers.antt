use Rattle.substitution.proofs.Prelude.{◌≡◌, ◌+◌, ◌-◌, map, ap, sym, ◌∙◌, arith, length-map, with_bound, given_by}
use Rattle.substitution.proofs.NamesFound.{bound_absent, bound_there, not_there}
use Rattle.substitution.proofs.lookup.bound_at.Goals as goal

pub returns-then-name-first : goal.returns-then-name-first
returns-then-name-first c = λ env.
    bound_absent c.args.bound.now c.args.name env (not_there c.args.first (map (λ b. b.0) c.args.bound.now) c.args.name c.requires (λ k lt e. omega (arith, e)))

pub returns-then-place-bound : goal.returns-then-place-bound
returns-then-place-bound c = λ env.
    let same = length-map c.args.bound.now (λ b. b.0) in
    bound_absent c.args.bound.now c.args.name env
    (not_there c.args.first (map (λ b. b.0) c.args.bound.now) c.args.name c.requires (λ k lt e. omega (arith, same, lt, e)))

pub returns : goal.returns
returns c = λ env.
    let at : c.args.first + (c.args.name - c.args.first) ≡ c.args.name = omega arith in
    ap (given_by (with_bound c.args.bound.now env)) (sym at) ∙
    bound_there c.args.first c.args.bound.now (c.args.name - c.args.first) c.index-bound-place.result env c.requires c.if-place-bound.false
