use Rattle.csp_atoms.proofs.MemberLaws.{has-diff_of}
use Rattle.csp_atoms.proofs.SetLaws.{IsAtomSet-filter}
use Rattle.csp_atoms.proofs.atom_set.AtomSet.diff.Goals as goal

pub invariant_of-result : goal.invariant_of-result
invariant_of-result c =
    rw (c.in_ok-atoms.ensures, c.as_slice.ensures, c.as_slice-2.ensures) (IsAtomSet-filter _ _ c.self.invariant)

pub returns-clause-members : goal.returns-clause-members
returns-clause-members c =
    λ a. rw (c.in_ok-atoms.ensures, c.as_slice.ensures, c.as_slice-2.ensures, c.self.view_is, c.other.view_is) (has-diff_of _ _ a)

pub returns-clause-set : goal.returns-clause-set
returns-clause-set c =
    rw (c.in_ok-atoms.ensures, c.as_slice.ensures, c.as_slice-2.ensures) (IsAtomSet-filter _ _ c.self.invariant)
