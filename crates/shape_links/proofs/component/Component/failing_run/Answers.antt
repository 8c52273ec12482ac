use Rattle.shape_links.proofs.Prelude.{◌<◌, ◌≤◌, ℕ, List, length, sym, subst, arith, IsExploration, pair_at, IsFirstFailing, table_of}
use Rattle.shape_links.proofs.Deciding.{decided_run, pair_within}
use Rattle.shape_links.proofs.component.Component.failing_run.Goals as goal

pub first_failing-requires : goal.first_failing-requires
first_failing-requires g c k h =
    let step = g.O.Observer.step c.args.observer.now in
    let explored = subst (λ (ps : List (ℕ × ℕ)). IsExploration (table_of c.args.self.now) step 0 ps) (sym c.pairs.ensures) c.in_ok-explored.ensures.pairs in
    let below : (pair_at c.pairs.result.now k).0 < length (table_of c.args.self.now) = pair_within c.args.self.now c.shape-form.ensures.form step 0 c.pairs.result.now explored k h in
    let many : length (table_of c.args.self.now) ≤ g.R.Requirement.nodes c.args.required.now = c.requires.nodes in
    omega arith

pub returns : goal.returns
returns g c =
    let step = g.O.Observer.step c.args.observer.now in
    let meets = g.R.Requirement.meets c.args.required.now in
    decided_run c.args.self.now c.shape-form.ensures.form step 0 c.in_ok-explored.explored.pairs c.in_ok-explored.ensures.pairs meets c.run_if_any.result c.in_ok-place.place
    (subst (λ (ps : List (ℕ × ℕ)). IsFirstFailing meets ps c.in_ok-place.place) c.pairs.ensures c.in_ok-place.ensures)
    (c.run_if_any.ensures (table_of c.args.self.now) step 0 c.in_ok-explored.ensures.found)
