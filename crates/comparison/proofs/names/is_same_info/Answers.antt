use Rattle.comparison.proofs.Prelude.{sym, ◌∙◌, exact_set}
use Rattle.comparison.proofs.Naming.{same_fields}
use Rattle.comparison.proofs.names.is_same_info.Goals as goal

pub returns : goal.returns
returns c h = same_fields c.args.info.now c.args.other.now c.if-info-other.false (exact_set c.args.info.now.fields c.args.other.now.fields (sym c.eq.ensures ∙ h))
