use Rattle.dl_top.proofs.Prelude.{arith, take, drop, length, ◌-◌, HasRisen}
use Rattle.dl_top.proofs.Sending.{broken, more_sent}
use Rattle.dl_top.proofs.send.send.Goals as goal

pub loop-sent-preserved : goal.loop-sent-preserved
loop-sent-preserved g c =
    let turn = more_sent _ _ _ c.args.report.now c.loop-sent.sent c.in-Ok.taken (HasRisen (g.O.Sink.faults c.loop-sent.out) (g.O.Sink.faults c.write.new.self))
    c.loop-sent.invariant.within c.loop-sent.invariant.front c.in-Ok.ensures.answer in
    record { within = turn.0; front = turn.1; faults = omega (arith, c.loop-sent.invariant.faults, c.write.ensures.faults_never_fall) }

pub returns-in-Err-clause-err : goal.returns-in-Err-clause-err
returns-in-Err-clause-err g c =
    broken _ _ _ c.args.report.now (take (length c.args.report.now - c.loop-sent.sent) (drop c.loop-sent.sent c.args.report.now)) c.loop-sent.sent
    (HasRisen (g.O.Sink.faults c.loop-sent.out) (g.O.Sink.faults c.write.new.self)) c.in-Err.fault c.loop-sent.invariant.front c.in-Err.ensures.answer
