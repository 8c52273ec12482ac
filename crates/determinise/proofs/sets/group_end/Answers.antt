use Rattle.std.proofs.Common.{sym, ◌∙◌, arith}
use Rattle.determinise.proofs.Groups.{greater_events}
use Rattle.determinise.proofs.sets.group_end.Goals as goal

pub returns-then-ne-clause-above : goal.returns-then-ne-clause-above
returns-then-ne-clause-above c k h below = greater_events c.args.moves.now c.args.at c.loop-end.end k _ _ c.requires.order (omega arith) h below (sym c.ne.ensures ∙ c.if-ne.true)
