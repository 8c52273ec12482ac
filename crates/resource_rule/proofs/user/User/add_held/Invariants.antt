use Rattle.resource_rule.proofs.Prelude.{◌≡◌, ◌||◌, ◌&&◌, ℕ, length, list_any, has, has_arc, is_acquiring}
use Rattle.resource_rule.proofs.user.User.add_held.Given as goal

abbrev pub invariant-loop-event : goal.invariant-loop-event
invariant-loop-event l = record {
  count : length l.sets ≡ length l.initial.sets;
  arcs : (k x : ℕ) → (has_arc l.sets k x || (list_any (is_acquiring l.self.setting.now k) l.event-iterator && has l.held x)) ≡ (has_arc l.initial.sets k x || (list_any (is_acquiring l.self.setting.now k) l.offers && has l.held x));
}
