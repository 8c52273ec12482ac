use Rattle.std.proofs.Common.{rules}
use Rattle.livelock.proofs.Deciding.{bound_decides, fault_decides}
use Rattle.livelock.proofs.bounding.bound_with.Goals as goal

pub returns-in-Ok : goal.returns-in-Ok
returns-in-Ok c =
    bound_decides c.args.tabled.now.network c.args.events.now c.in-Ok.found (search rules) c.livelock_free.ensures.fits c.livelock_free.result (search rules)

pub returns-in-Err : goal.returns-in-Err
returns-in-Err c = rw c.no_bound.ensures (fault_decides c.args.tabled.now.network c.args.events.now c.in-Err.why (search rules))
