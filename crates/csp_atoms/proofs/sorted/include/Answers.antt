use Rattle.std.proofs.Common.{◌∙◌}
use Rattle.csp_atoms.proofs.SearchLaws.{present_in, absent_in, place_within}
use Rattle.csp_atoms.proofs.sorted.include.Goals as goal

pub returns-then-is_at-clause-ok : goal.returns-then-is_at-clause-ok
returns-then-is_at-clause-ok c =
    present_in _ _ _ _ _ _ c.as_slice.ensures c.as_slice-2.ensures c.requires c.lower_bound-place.ensures c.is_at.ensures c.if-is_at.true

pub insert-requires : goal.insert-requires
insert-requires c = place_within _ _ _ _ c.as_slice.ensures c.lower_bound-place.ensures

pub returns-clause-ok : goal.returns-clause-ok
returns-clause-ok c =
    c.in_ok-insert.ensures.ok
    ∙ absent_in _ _ _ _ _ _ c.as_slice.ensures c.as_slice-2.ensures c.requires c.lower_bound-place.ensures c.is_at.ensures c.if-is_at.false
