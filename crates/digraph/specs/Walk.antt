-- Walks over any relation of arcs: Arc x y says that an arc leads from x to y. The length of a walk is the number of its arcs.
use Rattle.std.specs.Prelude.{◌≡◌, ◌≤◌, ◌<◌, ℕ, zero, suc, List, IsTrue, length, slice_index}
use Rattle.csp_base.specs.Members.{has}

-- n arcs in a row lead from x to y
abbrev pub Walk : {V : Type 0} → (V → V → Type 0) → ℕ → V → V → Type 0
Walk Arc zero x y = x ≡ y
Walk {V} Arc (suc n) x y = (z : V) × Arc x z × Walk Arc n z y

-- some walk leads from x to y
abbrev pub Reaches : {V : Type 0} → (V → V → Type 0) → V → V → Type 0
Reaches Arc x y = (n : ℕ) × Walk Arc n x y

-- some walk from one of the sources leads to y
pub record ReachesFrom (Arc : ℕ → ℕ → Type 0) (sources : List ℕ) (y : ℕ) : Type 0 where
  pub source : ℕ
  pub listed : IsTrue (has sources source)
  pub reaches : Reaches Arc source y

-- h is the greatest number of arcs of a walk from x: some walk has as many, and none has more
pub record IsLongestWalk {V : Type 0} (Arc : V → V → Type 0) (x : V) (h : ℕ) : Type 0 where
  pub end : V
  pub attained : Walk Arc h x end
  pub most : (n : ℕ) (y : V) → Walk Arc n x y → n ≤ h

-- one number for each of the vertices below `count`, the length of the longest walks from it
pub record AreHeights (Arc : ℕ → ℕ → Type 0) (count : ℕ) (heights : List ℕ) : Type 0 where
  pub one_each : length heights ≡ count
  pub each : (v : ℕ) → v < count → IsLongestWalk Arc v (slice_index heights v)
