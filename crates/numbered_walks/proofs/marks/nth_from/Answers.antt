use Rattle.std.proofs.Common.{true, false, arith}
use Rattle.numbered_walks.proofs.Counting.{found_mark, passed_mark}
use Rattle.numbered_walks.proofs.marks.nth_from.Goals as goal
use Rattle.numbered_walks.proofs.marks.nth_from.Goals.{then-marks-number+else-left-eq0, else-marks-number}

pub returns-then-left-eq0-clause-marked : goal.returns-then-left-eq0-clause-marked
returns-then-left-eq0-clause-marked c = found_mark c.args.marks.now c.loop-number.number c.loop-number.left _ c.loop-number-test.true c.if-marks-number.true c.if-left-eq0.true c.loop-number.invariant

pub loop-number-preserved : goal.loop-number-preserved
loop-number-preserved c =
    elim c.if-marks-number.branch [
      | then-marks-number+else-left-eq0 w ↦
          let is = w.left-is in
          let some = w.if-left-eq0.false in
          passed_mark c.args.marks.now c.loop-number.number c.loop-number.left c.if-marks-number.left _ true c.loop-number-test.true w.if-marks-number.true (omega (arith, is, some)) c.loop-number.invariant
      | else-marks-number w ↦
          let is = w.left-is in
          passed_mark c.args.marks.now c.loop-number.number c.loop-number.left c.if-marks-number.left _ false c.loop-number-test.true w.if-marks-number.false (omega (arith, is)) c.loop-number.invariant
    ]
