use Rattle.std.proofs.Common.{sym, ◌∙◌}
use Rattle.comparison.proofs.Naming.{same_names}
use Rattle.comparison.proofs.names.same_constants.Goals as goal

pub returns : goal.returns
returns c h = same_names c.args.names.now c.args.others.now (sym c.eq.ensures ∙ h)
