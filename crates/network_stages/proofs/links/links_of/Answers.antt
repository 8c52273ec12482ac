use Rattle.network_stages.proofs.Prelude.{◌≡◌, ◌<◌, length, subst, arith, IsRow}
use Rattle.network_stages.proofs.Reading.{row_read}
use Rattle.network_stages.proofs.links.links_of.Goals as goal

pub loop-left-preserved : goal.loop-left-preserved
loop-left-preserved c parts are =
    let read = row_read c.args.rows.now c.loop-left.left c.index-rows-left.result c.as_slice.result.now c.loop-left-test.true c.index-rows-left.is c.as_slice.ensures in
    let one_each : length c.args.rows.now ≡ length parts = are.one_each in
    let here : c.loop-left.left < length c.args.rows.now = c.loop-left-test.true in
    let row : IsRow parts (length parts) c.loop-left.left c.as_slice.result.now = subst (IsRow parts (length parts) c.loop-left.left) read (are.each c.loop-left.left (omega arith)) in
    c.in_ok-add_links.ensures parts row (c.loop-left.invariant parts are)
