use Rattle.csp_atoms.proofs.Prelude.{ap, option_map}
use Rattle.csp_atoms.proofs.SetLaws.{increasing_slice}
use Rattle.csp_atoms.proofs.atom_set.AtomSet.to_event_set.Goals as goal

pub from_sorted-requires : goal.from_sorted-requires
from_sorted-requires c =
    increasing_slice _ _ _ _ _ c.deref.ensures.value (ap (option_map (λ made. made.items)) c.in-Some.is) c.in_ok-events.ensures c.as_slice.ensures c.self.invariant
