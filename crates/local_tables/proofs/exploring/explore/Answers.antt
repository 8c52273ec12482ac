use Rattle.local_tables.proofs.Prelude.{◌+◌, ◌∙◌, ap, length, refl, arith, Room, LocalTable, fits_stay}
use Rattle.local_tables.proofs.Ending.{local_table}
use Rattle.local_tables.proofs.exploring.explore.Goals as goal

pub loop-at-init : goal.loop-at-init
loop-at-init c = record {
  terms = fits_stay c.args.task.now.program.now c.make_room.new.terms.pool c.begin.new.pool c.make_room.new.terms.evaluated c.in_ok-found.ensures.front c.make_room.ensures;
  up_to = c.in_ok-found.ensures.up_to;
}

pub returns-clause-table : goal.returns-clause-table
returns-clause-table c =
    let made : LocalTable = record { table = c.loop-at.found.table; used = c.new-used.result } in
    local_table c.args.task.now c.loop-at.terms.pool c.loop-at.found c.loop-at.at (omega (arith, c.count.ensures.value, c.loop-at-test.false)) c.loop-at.invariant.up_to
    c.len.ensures.different c.as_slice.ensures.distinct made c.nodes.ensures.few refl (ap (λ (r : Room). r.nodes) c.new-used.ensures)
    (ap (λ (r : Room). r.steps) c.new-used.ensures ∙ (λ i. length (c.silent.ensures.value i) + length (c.steps-2.ensures.value i)))
