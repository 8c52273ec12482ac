use Rattle.dl_top.proofs.Prelude.{◌≤◌, ◌-◌, length, take, GrowsBy}
use Rattle.dl_top.proofs.send.send.Given as goal

-- what was sent so far is a front of the report
abbrev pub invariant-loop-sent : goal.invariant-loop-sent
invariant-loop-sent g l =
    let sink = g.O.Sink in
    record {
      within : l.sent ≤ length l.report;
      front : GrowsBy (sink.sent l.fn.out) (sink.sent l.out) (take l.sent l.report);
      faults : sink.faults l.fn.out ≤ sink.faults l.out;
    }

abbrev pub decreases-loop-sent : goal.decreases-loop-sent
decreases-loop-sent g l = length l.report - l.sent
