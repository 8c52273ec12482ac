use Rattle.observed_runs.proofs.Prelude.{◌<◌, ◌≤◌, ℕ, List, [], length, get_or, sym, ap, subst, ◌∙◌, get_or_read, pair_at}
use Rattle.observed_runs.proofs.Growing.{one_step_more, row_read, whole_row}
use Rattle.observed_runs.proofs.exploring.follow.Goals as goal

pub loop-step-preserved : goal.loop-step-preserved
loop-step-preserved g c =
    let step = g.O.Observer.step c.args.observer.now in
    let pairs = c.args.found.now.pairs in
    let place = c.args.place in
    let n = c.loop-step.step-index in
    let x = c.step-item.result in
    let enough = c.requires.enough.rows_are in
    let within = c.requires.explored.nodes place c.requires.place in
    let row = c.as_slice-step-items.ensures ∙ row_read c.args.rows.now c.pairs.result.now pairs place c.index-rows-node.result c.pairs.ensures (subst (λ many. (pair_at pairs place).0 < many) (sym enough.count) within) c.index-rows-node.is in
    one_step_more c.args.part.now step c.requires.enough.events pairs place (get_or c.args.rows.now (pair_at pairs place).0 []) c.requires.form c.requires.place (enough.each (pair_at pairs place).0 within)
    n x c.next-next.result c.loop-step.found c.add.new.self (subst (λ (zs : List (ℕ × ℕ)). n < length zs) row c.loop-step-test.true)
    (get_or_read c.as_slice-step-items.result.now n x c.loop-step-test.true c.step-item.is (0, 0) ∙ ap (λ (zs : List (ℕ × ℕ)). pair_at zs n) row)
    (c.next-next.ensures ∙ ap (λ (ps : List (ℕ × ℕ)). step (pair_at ps place).1 x.0) c.pairs.ensures) c.in_ok-add.ensures c.loop-step.invariant

pub returns-clause-followed : goal.returns-clause-followed
returns-clause-followed g c =
    let step = g.O.Observer.step c.args.observer.now in
    let pairs = c.args.found.now.pairs in
    let place = c.args.place in
    let n = c.loop-step.step-index in
    let enough = c.requires.enough.rows_are in
    let within = c.requires.explored.nodes place c.requires.place in
    let row = c.as_slice-step-items.ensures ∙ row_read c.args.rows.now c.pairs.result.now pairs place c.index-rows-node.result c.pairs.ensures (subst (λ many. (pair_at pairs place).0 < many) (sym enough.count) within) c.index-rows-node.is in
    whole_row c.args.part.now step c.requires.enough.events pairs place (get_or c.args.rows.now (pair_at pairs place).0 []) c.requires.form c.requires.place (enough.each (pair_at pairs place).0 within)
    n c.loop-step.found c.requires.enough.only (subst (λ (zs : List (ℕ × ℕ)). length zs ≤ n) row c.loop-step-test.false) c.loop-step.invariant
