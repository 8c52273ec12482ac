use Rattle.std.proofs.Common.{sym, ◌∙◌}
use Rattle.csp_atoms.proofs.MemberLaws.{has-union_of}
use Rattle.csp_atoms.proofs.SetLaws.{IsAtomSet-union_of}
use Rattle.csp_atoms.proofs.atom_set.AtomSet.union.Goals as goal

pub invariant_of-result : goal.invariant_of-result
invariant_of-result c =
    rw (c.in_ok-atoms.ensures, c.as_slice-3.ensures, c.as_slice-4.ensures)
    (IsAtomSet-union_of _ _ c.self.invariant c.other.invariant (rw (c.as_slice.ensures, c.as_slice-2.ensures) at (sym c.can_join.ensures ∙ c.if-not-can_join.false)))

pub returns-clause-members : goal.returns-clause-members
returns-clause-members c =
    λ a. rw (c.in_ok-atoms.ensures, c.as_slice-3.ensures, c.as_slice-4.ensures, c.self.view_is, c.other.view_is) (has-union_of _ _ a)

pub returns-clause-set : goal.returns-clause-set
returns-clause-set c =
    rw (c.in_ok-atoms.ensures, c.as_slice-3.ensures, c.as_slice-4.ensures)
    (IsAtomSet-union_of _ _ c.self.invariant c.other.invariant (rw (c.as_slice.ensures, c.as_slice-2.ensures) at (sym c.can_join.ensures ∙ c.if-not-can_join.false)))
