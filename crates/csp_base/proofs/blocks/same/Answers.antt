use Rattle.std.proofs.Common.{◌∙◌}
use Rattle.csp_base.proofs.Sets.{same_blocks}
use Rattle.csp_base.proofs.blocks.same.Goals as goal

pub returns : goal.returns
returns c = c.eq.ensures ∙ same_blocks _ _ c.requires.left_blocks c.requires.right_blocks
