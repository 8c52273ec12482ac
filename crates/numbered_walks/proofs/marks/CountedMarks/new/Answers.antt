use Rattle.std.proofs.Common.{◌+◌, ◌/◌, arith, sym}
use Rattle.numbered_walks.proofs.Counting.{block_to, none_counted, none_marked}
use Rattle.numbered_walks.proofs.marks.CountedMarks.new.Goals as goal

pub invariant_of-result : goal.invariant_of-result
invariant_of-result c =
    let marks = c.in_ok-marks.ensures.items_if_clones_equal (λ y e. e) in
    let counts = c.in_ok-counts.ensures.items_if_clones_equal (λ y e. e) in
    let to = block_to c.args.bound in
    rw (marks, counts) (none_counted c.args.bound (c.args.bound / 64 + 1) (omega (arith, to)), sym (none_marked c.args.bound))
