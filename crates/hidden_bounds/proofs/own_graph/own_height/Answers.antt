use Rattle.hidden_bounds.proofs.Prelude.{AreOwnRows}
use Rattle.hidden_bounds.proofs.OwnGraphs.{height_of, round_of}
use Rattle.hidden_bounds.proofs.own_graph.own_height.Goals as goal

pub returns-in-Ok-clause-height : goal.returns-in-Ok-clause-height
returns-in-Ok-clause-height c =
    let rows : AreOwnRows c.args.table.now c.args.events.now c.in_ok-rows.rows = c.in_ok-rows.ensures in
    rw (c.greatest_of.ensures, c.as_slice.ensures) (height_of c.args.table.now c.args.events.now c.in_ok-rows.rows rows c.in-Ok.heights c.count-form.ensures.form.first c.in-Ok.ensures.heights)

pub returns-in-Err-Told-clause-round : goal.returns-in-Err-Told-clause-round
returns-in-Err-Told-clause-round c =
    let rows : AreOwnRows c.args.table.now c.args.events.now c.in_ok-rows.rows = c.in_ok-rows.ensures in
    (c.in-Err-Told._circle, round_of c.args.table.now c.args.events.now c.in_ok-rows.rows rows c.in-Err-Told._circle (rw c.in-Err-Told.field-0-is at c.in-Err-Told.ensures.circle).circle)
