use Rattle.std.proofs.Common.{◌<◌, ◌+◌, ◌-◌, ◌/◌, ℕ, length, arith}
use Rattle.csp_base.proofs.BlockMembers.{AreBlocksFrom-weaken}
use Rattle.csp_base.proofs.Places.{end_from-take, AreBlocksFrom-at}
use Rattle.csp_base.proofs.blocks.place_of.Goals as goal

pub loop-low-preserved-then-blocks-middle : goal.loop-low-preserved-then-blocks-middle
loop-low-preserved-then-blocks-middle c =
    let middle : ℕ = c.loop-low.low + (c.loop-low.high - c.loop-low.low) / 2 in
    let inside : middle < length c.args.blocks.now = omega arith in
    record {
      ordered = omega arith;
      within = omega arith;
      before = omega (arith, end_from-take 0 c.args.blocks.now middle (0, 0) inside);
      after = c.loop-low.invariant.after;
    }

pub loop-low-preserved : goal.loop-low-preserved
loop-low-preserved c =
    let middle : ℕ = c.loop-low.low + (c.loop-low.high - c.loop-low.low) / 2 in
    let inside : middle < length c.args.blocks.now = omega arith in
    record {
      ordered = omega arith;
      within = omega arith;
      before = c.loop-low.invariant.before;
      after = AreBlocksFrom-weaken _ _ _ c.if-blocks-middle.false (AreBlocksFrom-at 0 c.args.blocks.now middle (0, 0) inside c.requires);
    }
