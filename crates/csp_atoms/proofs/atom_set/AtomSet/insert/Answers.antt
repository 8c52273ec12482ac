use Rattle.csp_atoms.proofs.Prelude.{sym, ◌∙◌, ap, fits}
use Rattle.csp_atoms.proofs.MemberLaws.{has-with_atom}
use Rattle.csp_atoms.proofs.SetLaws.{IsAtomSet-with_atom}
use Rattle.csp_atoms.proofs.atom_set.AtomSet.insert.Goals as goal

pub invariant_of-self-2 : goal.invariant_of-self-2
invariant_of-self-2 c =
    rw c.in_ok-include.ensures.ok
    (IsAtomSet-with_atom _ _ c.self.invariant (ap (λ l. fits l c.args.atom) (sym c.as_slice.ensures) ∙ sym c.can_take.ensures ∙ c.if-not-can_take.false))

pub returns-clause-members : goal.returns-clause-members
returns-clause-members c = λ a. rw (c.in_ok-include.ensures.ok, c.self.view_is) (has-with_atom _ _ a)
