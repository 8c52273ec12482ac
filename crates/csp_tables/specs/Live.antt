-- Freedom from deadlock and from divergence, with a number. From every state that some run reaches, whatever the
-- order in which components act, at most `bound` silent steps follow one another; and where a reached state has no
-- silent step, it has an event.
use Rattle.std.specs.Prelude.{ℕ, ◌≤◌}
use Rattle.csp_tables.specs.Label.{Label}
use Rattle.csp_tables.specs.Label.Label.{visible}
use Rattle.csp_tables.specs.Path.{Reached, Silently, Stable}

pub record Live {S : Type 0} (Step : S → Label → S → Type 0) (start : S) (bound : ℕ) : Type 0 where
  pub quiet : (s t : S) (n : ℕ) → Reached Step start s → Silently Step n s t → n ≤ bound
  pub moves : (s : S) → Reached Step start s → Stable Step s → (e : ℕ) × (t : S) × Step s (visible e) t
