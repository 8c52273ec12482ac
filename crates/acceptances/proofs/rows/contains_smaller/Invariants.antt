use Rattle.acceptances.proofs.Prelude.{◌≡◌, ◌⊎◌, ◌%◌, ℕ, true, false, [], length, get_or, list_any, is_smaller, has}
use Rattle.acceptances.proofs.rows.contains_smaller.Given as goal

abbrev pub invariant-loop-event : goal.invariant-loop-event
invariant-loop-event l = (e : ℕ) → has l.set e ≡ true → (has l.event-iterator e ≡ true) ⊎ (list_any (λ p. is_smaller (get_or l.sets p []) l.set) (get_or l.rows (e % length l.rows) []) ≡ false)
