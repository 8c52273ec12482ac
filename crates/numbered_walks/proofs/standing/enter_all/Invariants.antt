use Rattle.numbered_walks.proofs.Prelude.{◌≡◌, ◌<◌, ℕ, false, get_or, length, take, is_unstable, IsAgreement, component_at, offer_count, OwnsItsSteps, first_terms}
use Rattle.numbered_walks.proofs.standing.enter_all.Given as goal

abbrev pub invariant-loop-place : goal.invariant-loop-place
invariant-loop-place l = record {
  form : IsAgreement l.agreement;
  owners : l.agreement.owners.items ≡ l.initial.agreement.owners.items;
  offering : (e : ℕ) → get_or l.agreement.offering.items e 0 ≡ offer_count e (take l.place l.movers) (first_terms (take l.place l.movers));
  marks : length l.restless ≡ length l.movers;
  restless : (i : ℕ) → i < l.place → get_or l.restless i false ≡ is_unstable (component_at l.movers i).table 0;
  within : (i : ℕ) → i < l.place → 0 < (component_at l.movers i).table.count;
  own : (i : ℕ) → i < l.place → OwnsItsSteps (component_at l.movers i).alphabet (component_at l.movers i).table;
}
