use Rattle.numbered_walks.proofs.Prelude.{◌≡◌, ◌+◌, ℕ, get_or, has, IsAgreement, bit}
use Rattle.numbered_walks.proofs.Agreeing.{AreLeft}
use Rattle.numbered_walks.proofs.agreement.withdraw_all.Given as goal

abbrev pub invariant-loop-event : goal.invariant-loop-event
invariant-loop-event l = record {
  form : IsAgreement l.agreement;
  owners : l.agreement.owners.items ≡ l.initial.agreement.owners.items;
  left : AreLeft l.events l.event-iterator;
  offering : (e : ℕ) → get_or l.agreement.offering.items e 0 + bit (has l.events e) ≡ get_or l.initial.agreement.offering.items e 0 + bit (has l.event-iterator e);
}
