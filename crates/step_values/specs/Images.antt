-- What events become by a renaming, kept event by event.
use Rattle.std.specs.Prelude.{◌≡◌, ℕ, nat_eq, Option, Some, None, Ok, List, [], map}
use Rattle.csp_base.specs.Standard.{HashMap, get, filter}
use Rattle.csp_program.specs.Outcome.{Outcome}
use Rattle.process_steps.specs.Renaming.{Renamed, images, or_itself}
use Rattle.step_values.specs.declared.images.Images.{Images}

abbrev pub events_or_none : Option (List ℕ) → List ℕ
events_or_none None = []
events_or_none (Some events) = events

-- the events that are kept for the event e
abbrev pub kept_for : {S : Type 0} → HashMap ℕ (List ℕ) S → ℕ → List ℕ
kept_for images e = events_or_none (get nat_eq images e)

-- the new events that the pairs name for e, in their order
abbrev pub named_for : List Renamed → ℕ → List ℕ
named_for renamed e = map (λ r. r.1) (filter (λ r. nat_eq r.0 e) renamed)

-- what the event e becomes
abbrev pub becomes : Images → ℕ → List ℕ
becomes images e = or_itself e (kept_for images.by_event e)

-- each event becomes what the pairs make of it
abbrev pub Keeps : Images → List Renamed → Type 0
Keeps kept renamed = (e : ℕ) → becomes kept e ≡ images renamed e

-- the outcome is pairs, and each event becomes what they make of it
pub record KeepsOutcome (kept : Images) (outcome : Outcome (List Renamed)) : Type 0 where
  pub renamed : List Renamed
  pub same : outcome ≡ Ok renamed
  pub keeps : Keeps kept renamed
