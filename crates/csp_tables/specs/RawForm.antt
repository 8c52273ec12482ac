-- The form of a numbered table: there is a first term, and each step leads from one of the terms to one of them.
use Rattle.std.specs.Prelude.{ℕ, ◌<◌, ◌≤◌, nat_eq, Bool, ◌&&◌, IsTrue}
use Rattle.std.specs.List.{list_any}
use Rattle.csp_tables.specs.RawTable.{RawTable}

-- whether a silent step from s to t is listed
abbrev pub has_silent : RawTable → ℕ → ℕ → Bool
has_silent raw s t = list_any (λ step. nat_eq s step.0 && nat_eq t step.1) raw.silent

-- whether a step from s by the event e to t is listed
abbrev pub has_step : RawTable → ℕ → ℕ → ℕ → Bool
has_step raw s e t = list_any (λ step. nat_eq s step.0 && nat_eq e step.1 && nat_eq t step.2) raw.steps

pub record HasRawForm (raw : RawTable) : Type 0 where
  pub first : 1 ≤ raw.count
  pub silent_within : (s t : ℕ) → IsTrue (has_silent raw s t) → (s < raw.count) × (t < raw.count)
  pub steps_within : (s e t : ℕ) → IsTrue (has_step raw s e t) → (s < raw.count) × (t < raw.count)
