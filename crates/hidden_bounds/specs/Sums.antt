-- The bounds of components one after another, and their sums. (For private contracts.)
use Rattle.std.specs.Prelude.{◌≡◌, ◌+◌, ◌<◌, ℕ, Some, List, length, slice_get, slice_index, take}
use Rattle.csp_tables.specs.Network.{Component}
use Rattle.hidden_steps.specs.Order.{bound_over, hidden_bound}
use Rattle.hidden_bounds.specs.Found.{PassesAt}
use Rattle.hidden_bounds.specs.Taking.{taken_at, taken_in}
use Rattle.hidden_bounds.specs.declared.bounding.LoopFault.{LoopFault}
use Rattle.hidden_bounds.specs.declared.bounding.LoopFault.TheVariants as fault
use Rattle.hidden_bounds.specs.declared.ordering.Placed.{Placed}

module _ {T : Type 0} (hidden : List ℕ) (cs : List (Component T)) (order : List Placed) where
  -- the bound of a component in the place k
  abbrev pub bound_at : ℕ → Placed → ℕ
  bound_at k p = bound_over hidden (taken_in cs (take k order)) (taken_at cs p)

  -- the bounds of the first components
  abbrev pub AreBounds : List ℕ → Type 0
  AreBounds bounds = (k : ℕ) (p : Placed) → k < length bounds → slice_get order k ≡ Some p → slice_index bounds k ≡ bound_at k p

  -- what the bounds of the first k components add up to
  abbrev pub sum_before : ℕ → ℕ
  sum_before k = hidden_bound hidden (taken_in cs (take k order))

  -- with the bound of the component in the place k, the bounds add up to this
  pub record IsNextSum (k n total : ℕ) : Type 0 where
    pub bound : (p : Placed) → slice_get order k ≡ Some p → n ≡ bound_at k p
    pub sum : total ≡ sum_before (k + 1)

  abbrev pub TellsSum : LoopFault → Type 0
  TellsSum (fault.NoOrder parts) = ⊥
  TellsSum (fault.BoundLimit part) = PassesAt hidden (taken_in cs order) part
