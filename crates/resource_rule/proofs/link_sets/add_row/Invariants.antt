use Rattle.resource_rule.proofs.Prelude.{◌≡◌, ◌<◌, ◌||◌, ◌&&◌, ℕ, IsTrue, length, nat_eq, list_any, has, has_arc, resource_of}
use Rattle.resource_rule.proofs.link_sets.add_row.Given as goal

abbrev pub invariant-loop-event : goal.invariant-loop-event
invariant-loop-event l = record {
  count : length l.rows ≡ length l.initial.rows;
  within : (x : ℕ) → IsTrue (has l.event-iterator x) → x < length l.setting.shape.links;
  arcs : (j m : ℕ) → (has_arc l.rows j m || (nat_eq l.from j && list_any (λ x. nat_eq (resource_of l.setting x) m) l.event-iterator)) ≡ (has_arc l.initial.rows j m || (nat_eq l.from j && list_any (λ x. nat_eq (resource_of l.setting x) m) l.held));
}
