use Rattle.csp_atoms.proofs.Prelude.{◌∙◌, ap, event_number}
use Rattle.csp_atoms.proofs.EventLaws.{one_more_event, all_events, no_event}
use Rattle.csp_atoms.proofs.sorted.events.Goals as goal

pub loop-atom-preserved : goal.loop-atom-preserved
loop-atom-preserved c =
    rw c.in_ok-push-in-Some.ensures.items (one_more_event _ _ _ _ _ c.loop-atom-test.true c.loop-atom.invariant c.atom-item.is c.in-Some.ensures)

pub returns-in-None : goal.returns-in-None
returns-in-None c = no_event _ _ c.atom-item.result c.loop-atom-test.true (c.in-None.ensures ∙ ap event_number c.atom-item.is)

pub returns : goal.returns
returns c = all_events _ _ _ c.loop-atom-test.false c.loop-atom.invariant
