use Rattle.std.proofs.Common.{rules, arith}
use Rattle.name_faults.proofs.DepthLemmas.{depths_stay, first_depths, more_depths}
use Rattle.name_faults.proofs.depths.depths_of.Goals as goal

pub loop-round-init : goal.loop-round-init
loop-round-init c = search (rules, first_depths)

pub loop-round-preserved : goal.loop-round-preserved
loop-round-preserved c =
    more_depths c.args.limit c.loop-round._round c.args.bodies.now c.loop-round.depths.items c.in_ok-next.next.items c.as_slice.result.now c.loop-round.invariant c.as_slice.ensures.value c.in_ok-next.ensures

pub returns-then-are_same : goal.returns-then-are_same
returns-then-are_same c =
    depths_stay c.args.limit c.loop-round._round c.args.limit c.args.bodies.now c.loop-round.depths.items c.in_ok-next.next.items c.as_slice.result.now c.as_slice-in-loop-round.result.now
    c.as_slice-in-loop-round-2.result.now c.are_same.result (omega arith) c.loop-round.invariant c.as_slice.ensures.value c.in_ok-next.ensures c.as_slice-in-loop-round.ensures.value
    c.as_slice-in-loop-round-2.ensures.value c.are_same.ensures c.if-are_same.true
