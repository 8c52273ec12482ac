use Rattle.std.proofs.Common.{refl}
use Rattle.hidden_bounds.proofs.Left.{next_left}
use Rattle.hidden_bounds.proofs.standings.left_over.Goals as goal

pub loop-part-preserved : goal.loop-part-preserved
loop-part-preserved c = next_left c.args.standings.now c.loop-part.part _ _ _ _ c.loop-part-test.true refl c.loop-part.invariant c.in_ok-add_left.ensures
