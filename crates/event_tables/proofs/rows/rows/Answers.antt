use Rattle.event_tables.proofs.Prelude.{◌≡◌, sym, ap, ◌∙◌, arith, row_count, extended}
use Rattle.csp_program.specs.EventTable as meant
use Rattle.event_tables.proofs.RowLaws.{none_at_all, rows_begin, rows_end, rows_step}
use Rattle.event_tables.proofs.rows.rows.Goals as goal

pub returns-then-row_count-eq0 : goal.returns-then-row_count-eq0
returns-then-row_count-eq0 c =
    let none : row_count c.args.sets.now ≡ 0 = omega (arith, c.row_count.ensures) in
    c.new.ensures.items ∙ sym (none_at_all c.args.sets.now none)

pub loop-set-init : goal.loop-set-init
loop-set-init c = rows_begin c.in_ok-made.made.items c.args.sets.now c.in_ok-made.ensures

pub loop-set-preserved : goal.loop-set-preserved
loop-set-preserved c =
    rows_step c.loop-set.made.items c.in_ok-made-2.made.items c.loop-set.set-index c.args.sets.now c.set-item.result (meant.rows c.args.sets.now) c.loop-set-test.true c.set-item.is
    (c.in_ok-made-2.ensures ∙ ap (extended c.loop-set.made.items) c.as_slice.ensures.members) c.loop-set.invariant

pub returns : goal.returns
returns c = rows_end c.loop-set.made.items c.loop-set.set-index c.args.sets.now (meant.rows c.args.sets.now) c.loop-set-test.false c.loop-set.invariant
