use Rattle.equal_futures.proofs.Prelude.{nat_eq, refl, arith, eq-eqb}
use Rattle.equal_futures.proofs.Numbered.{numbered_step, all_numbered}
use Rattle.equal_futures.proofs.classes.renumber.Goals as goal

pub loop-block-preserved : goal.loop-block-preserved
loop-block-preserved c = numbered_step nat_eq (λ a. eq-eqb a a refl) _ _ _ _ _ _ _ _ c.loop-block.invariant refl c.in_ok-number.ensures.first c.in_ok-number.ensures.list c.in_ok-push.ensures.items

pub returns : goal.returns
returns c = rw c.len-count.ensures (all_numbered c.args.blocks.now c.loop-block.block-index _ _ (omega arith) c.loop-block.invariant)
