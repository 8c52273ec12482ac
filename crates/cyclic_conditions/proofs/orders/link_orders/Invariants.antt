use Rattle.cyclic_conditions.proofs.Prelude.{◌≡◌, ℕ, ◌<◌, length, KeepsPlaces, IsOrder, order_at}
use Rattle.cyclic_conditions.proofs.orders.link_orders.Given as goal

abbrev pub invariant-loop-part : goal.invariant-loop-part
invariant-loop-part l = record {
  count : length l.orders.items ≡ l.part;
  keep : (i : ℕ) → i < l.part → KeepsPlaces l.sorted i;
  each : (i : ℕ) → i < l.part → IsOrder l.sorted i (order_at l.orders.items i);
}
