use Rattle.tau_order.proofs.Prelude.{◌<◌, length, silent_at}
use Rattle.tau_order.proofs.silent_runs.silent_rows.Goals as goal

pub add_arc-requires-clause-from : goal.add_arc-requires-clause-from
add_arc-requires-clause-from c =
    let e = c.silent-from-items.ensures.value in
    let below : c.loop-from.from-index < length c.args.table.now.silent = rw e at c.loop-from-test.true in
    rw (e, c.loop-from.invariant.size) (c.silent-from-items.ensures.form.silent_within _ _ (silent_at c.args.table.now c.loop-from.from-index below)).0

pub add_arc-requires-clause-to : goal.add_arc-requires-clause-to
add_arc-requires-clause-to c =
    let e = c.silent-from-items.ensures.value in
    let below : c.loop-from.from-index < length c.args.table.now.silent = rw e at c.loop-from-test.true in
    rw (e, c.loop-from.invariant.size) (c.silent-from-items.ensures.form.silent_within _ _ (silent_at c.args.table.now c.loop-from.from-index below)).1
