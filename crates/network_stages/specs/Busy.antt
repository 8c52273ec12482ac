-- Where a component of a network stops: after a trace it can come to accept nothing.
use Rattle.std.specs.Prelude.{◌≡◌, ◌<◌, ℕ, List, [], Some, length, get_or, slice_get}
use Rattle.csp_tables.specs.Prelude.{Label, Component, ComponentStep, IsAcceptance, IsBusy, IsRun, acceptances_after, Part, part_at, IsNonEmpty, Shape, RunsTo}
use Rattle.report.specs.declared.answer.Shortfall.{Shortfall}
use Rattle.report.specs.declared.answer.Shortfall.TheVariants as shortfall

-- After the trace s the component in place i can come to accept nothing, and no component before it ever can.
pub record StopsFirstIn {T : Type 0} (Step : T → Label → T → Type 0) (cs : List (Component T)) (i : ℕ) (s : List ℕ) : Type 0 where
  pub component : Component T
  pub listed : slice_get cs i ≡ Some component
  pub stops : IsAcceptance (ComponentStep Step) component s []
  pub first : (j : ℕ) (d : Component T) → j < i → slice_get cs j ≡ Some d → IsBusy (ComponentStep Step) d

-- The rest is for private contracts: the same of the parts of a shape.

-- no acceptance of the part after a run is empty
abbrev pub IsBusyPart : Part → Type 0
IsBusyPart p = (s : List ℕ) (k : ℕ) → IsRun p.table s → k < length (acceptances_after p.table s) → IsNonEmpty (get_or (acceptances_after p.table s) k [])

-- one of the acceptances is empty
pub record HasEmpty (acceptances : List (List ℕ)) : Type 0 where
  pub place : ℕ
  pub within : place < length acceptances
  pub empty : get_or acceptances place [] ≡ []

-- After the run s the part in place i has an empty acceptance, and no part before it ever has one.
pub record StopsFirst (shape : Shape) (i : ℕ) (s : List ℕ) : Type 0 where
  pub runs : RunsTo shape i s
  pub stops : HasEmpty (acceptances_after (part_at shape.parts i).table s)
  pub first : (j : ℕ) → j < i → IsBusyPart (part_at shape.parts j)

abbrev pub PartCanStop : Shape → Shortfall → Type 0
PartCanStop shape s = (i : ℕ) × (trace : List ℕ) × StopsFirst shape i trace × (s ≡ shortfall.Stops i trace)
