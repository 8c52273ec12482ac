use Rattle.equal_futures.proofs.Prelude.{on_ok_weaker, IsSplitByEvents, state_of, count_of, IsSplitByMarks}
use Rattle.equal_futures.proofs.Settling.{marks_from}
use Rattle.equal_futures.proofs.splitters.split_by_marks.Goals as goal

pub split_by_events-requires-clause-sources : goal.split_by_events-requires-clause-sources
split_by_events-requires-clause-sources c = marks_from (count_of c.args.partition.now) c.args.marks.now c.in_ok-steps.steps.items c.requires.marks c.in_ok-steps.ensures

pub returns : goal.returns
returns c =
    let n = count_of c.args.partition.now in
    let s = state_of c.args.partition.now in
    let t = state_of c.split_by_events.new.partition in
    let found : IsSplitByEvents n s t c.in_ok-steps.steps.items → IsSplitByMarks n s t c.args.marks.now = λ h. record { steps = c.in_ok-steps.steps.items; exact = c.in_ok-steps.ensures; split = h } in
    on_ok_weaker c.split_by_events.result found c.split_by_events.ensures
