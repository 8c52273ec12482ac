use Rattle.std.proofs.Common.{not, ap, ◌∙◌}
use Rattle.numbered_walks.proofs.Drawing.{restless_is}
use Rattle.numbered_walks.proofs.mover.Mover.is_restless.Goals as goal

pub returns : goal.returns
returns c = ap not c.is_empty.ensures ∙ restless_is c.args.self.now.table c.args.term c.silent_targets.result.now c.silent_targets.ensures.value
