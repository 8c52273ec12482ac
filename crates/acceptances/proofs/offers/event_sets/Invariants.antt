use Rattle.acceptances.proofs.Prelude.{◌≡◌, ℕ, ◌<◌, [], ◌&&◌, nat_eq, length, take, get_or, list_any, IsStrictlyIncreasing, has}
use Rattle.acceptances.proofs.offers.event_sets.Given as goal

abbrev pub invariant-loop-step : goal.invariant-loop-step
invariant-loop-step l = record {
  one_each : length l.sets.items ≡ l.table.count;
  events : (n e : ℕ) → n < l.table.count → has (get_or l.sets.items n []) e ≡ list_any (λ step. nat_eq n step.0 && nat_eq e step.1) (take l.step-index l.step-items);
  rising : (n : ℕ) → n < l.table.count → IsStrictlyIncreasing (get_or l.sets.items n []);
}
