use Rattle.std.proofs.Common.{sym, ◌∙◌}
use Rattle.csp_atoms.proofs.SearchLaws.{place_some, place_none}
use Rattle.csp_atoms.proofs.sorted.find.Goals as goal

pub returns-then-is_at : goal.returns-then-is_at
returns-then-is_at c = place_some _ _ _ c.requires c.lower_bound-place.ensures (sym c.is_at.ensures ∙ c.if-is_at.true)

pub returns : goal.returns
returns c = place_none _ _ _ c.requires c.lower_bound-place.ensures (sym c.is_at.ensures ∙ c.if-is_at.false)
