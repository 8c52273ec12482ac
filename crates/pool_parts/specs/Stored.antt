-- What a store keeps of its parts.
use Rattle.std.specs.Prelude.{◌≡◌, ℕ, Some, List, [], ◌∷◌, slice_get}
use Rattle.csp_program.specs.Free.{Names}
use Rattle.pool_parts.specs.Counting.{capped}
use Rattle.pool_parts.specs.Low.{IsLow}
use Rattle.pool_parts.specs.declared.measure.Measure.{Measure}

-- what a part measures, by its depth, its size and the names that are free in it
pub record IsMeasure {T : Type 0} (depth_of : T → ℕ) (size_of : T → ℕ) (free_of : T → Names) (x : T) (m : Measure) : Type 0 where
  pub depth : m.depth ≡ capped (depth_of x)
  pub size : m.size ≡ capped (size_of x)
  pub low : IsLow m.least (free_of x)

-- the same of each of the first parts, one after another
abbrev pub AreNoted : {T : Type 0} → (T → ℕ) → (T → ℕ) → (T → Names) → List Measure → List T → Type 0
AreNoted depth_of size_of free_of [] xs = Unit {0}
AreNoted depth_of size_of free_of (m ∷ ms) [] = ⊥
AreNoted depth_of size_of free_of (m ∷ ms) (x ∷ xs) = IsMeasure depth_of size_of free_of x m × AreNoted depth_of size_of free_of ms xs

-- x stands nowhere in the list
abbrev pub IsAbsent : {T : Type 0} → List T → T → Type 0
IsAbsent xs x = (k : ℕ) → slice_get xs k ≡ Some x → ⊥

-- what stands in the old list stands at the same place in the new one
abbrev pub IsStart : {T : Type 0} → List T → List T → Type 0
IsStart {T} old new = (k : ℕ) (x : T) → slice_get old k ≡ Some x → slice_get new k ≡ Some x
