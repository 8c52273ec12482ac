use Rattle.csp_atoms.proofs.Prelude.{◌∙◌, ap, is_some}
use Rattle.csp_atoms.proofs.SearchLaws.{has_place}
use Rattle.csp_atoms.proofs.sorted.contains.Goals as goal

pub returns : goal.returns
returns c = c.is_some.ensures ∙ ap is_some c.find.ensures ∙ has_place c.args.atoms.now c.args.atom.now
