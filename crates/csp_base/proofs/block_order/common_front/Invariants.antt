use Rattle.std.proofs.Common.{◌≡◌, ◌≤◌, ◌-◌, length, take}
use Rattle.csp_base.proofs.block_order.common_front.Given as goal

abbrev pub invariant-loop-place : goal.invariant-loop-place
invariant-loop-place l = record {
  in_left : l.place ≤ length l.left;
  in_right : l.place ≤ length l.right;
  same : take l.place l.left ≡ take l.place l.right;
}

abbrev pub decreases-loop-place : goal.decreases-loop-place
decreases-loop-place l = length l.left - l.place
