-- The ranks and laps of a part. (No rule's decider cites this.)
use Rattle.std.specs.Prelude.{◌≡◌, ◌<◌, ◌≤◌, ◌⊎◌, ◌+◌, ◌-◌, ◌*◌, ℕ, ℤ, pos, List, false, IsTrue, length, slice_index}
use Rattle.dl_limits.specs.declared.TheConstants.{MOST_COMPONENTS}
use Rattle.csp_tables.specs.Prelude.{AreApart, IsWithin, use_at}
use Rattle.design_rules.specs.Prelude.{acquires, top_number}
use Rattle.shape_links.specs.Setting.{Setting, IsResourcePart, IsUser, KeepKinds}

-- a resource's number is one more than its height
abbrev pub number_by : List ℕ → ℕ → ℕ
number_by heights j = slice_index heights j + 1

-- the least number of a resource that the set acquires, where there is one, and else one more than the greatest number
pub record IsLeastAcquired (g : Setting) (number : ℕ → ℕ) (top : ℕ) (M : List ℕ) (least : ℕ) : Type 0 where
  pub below : (j : ℕ) → IsTrue (acquires g.uses M j) → least ≤ number j
  pub attained : (least ≡ top + 1) ⊎ ((j : ℕ) × (j < length g.shape.parts) × IsTrue (acquires g.uses M j) × (number j ≡ least))

-- The rank of an acceptance of the part i: of a resource it is told by whether its events acquire it; of a user by the least
-- number of what they acquire.
pub record IsRank (g : Setting) (number : ℕ → ℕ) (top i : ℕ) (M : List ℕ) (rank : ℤ) : Type 0 where
  pub free : IsResourcePart g i → IsWithin M (use_at g.uses i).acquire → rank ≡ pos (2 * top + 2)
  pub held : IsResourcePart g i → AreApart M (use_at g.uses i).acquire → rank ≡ pos (2 * (top - number i) + 1)
  pub acquiring : (j : ℕ) → IsUser g i → j < length g.shape.parts → IsTrue (acquires g.uses M j) → ((m : ℕ) → m < length g.shape.parts → IsTrue (acquires g.uses M m) → number j ≤ number m) → rank ≡ pos (2 * (top - number j) + 2)
  pub not_acquiring : IsUser g i → ((m : ℕ) → m < length g.shape.parts → acquires g.uses M m ≡ false) → rank ≡ pos 0

-- The heights are those of the parts, and the top is the greatest number of a resource.
pub record HaveTop (g : Setting) (heights : List ℕ) (top : ℕ) : Type 0 where
  pub count : length heights ≡ length g.shape.parts
  pub is : top ≡ top_number g.uses (number_by heights) (length g.shape.parts)
  pub above : (j : ℕ) → j < length g.shape.parts → IsResourcePart g j → number_by heights j ≤ top
  pub few : top ≤ MOST_COMPONENTS
  pub small : (j : ℕ) → number_by heights j ≤ MOST_COMPONENTS

-- what is known of a part that can be ranked
pub record CanRank (g : Setting) (heights : List ℕ) (top i : ℕ) : Type 0 where
  pub kinds : KeepKinds g
  pub top_is : HaveTop g heights top
  pub part : i < length g.shape.parts
