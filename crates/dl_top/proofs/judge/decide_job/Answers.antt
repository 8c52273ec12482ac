use Rattle.dl_top.proofs.Judging.{set_decides}
use Rattle.dl_top.proofs.judge.decide_job.Goals as goal

pub returns-in-Livelock : goal.returns-in-Livelock
returns-in-Livelock c = set_decides c.args.job.now c.args.network.now c.in-Livelock.set c.as_slice.result.now c.bound_hidden.result c.in-Livelock.is c.as_slice.ensures c.bound_hidden.ensures
