-- What holds while walks are followed to their ends. A trail of vertices is being walked. A vertex is new until the trail
-- first comes to it, open while it is on the trail, and done once the heights of all its targets are known.
use Rattle.std.specs.Prelude.{◌≡◌, ◌≢◌, ℕ, ◌+◌, ◌-◌, ◌*◌, ◌^◌, ◌<◌, ◌≤◌, Bool, true, false, List, length, count_by, slice_index, slice_index_or}
use Rattle.std.specs.List.{sum_by}
use Rattle.digraph.specs.declared.walks.Mark.{Mark}
use Rattle.digraph.specs.declared.walks.Mark.TheVariants.{New, Open, Done}
use Rattle.digraph.specs.declared.walks.Search.{Search}
use Rattle.digraph.specs.Digraph.{Digraph, targets_of, HasArc, InRange}
use Rattle.digraph.specs.Walk.{Walk, IsLongestWalk}

-- the mark of a vertex
abbrev pub mark_at : List Mark → ℕ → Mark
mark_at marks v = slice_index_or marks v New

abbrev pub is_open : Mark → Bool
is_open New = false
is_open (Open left height) = true
is_open (Done height) = false

abbrev pub is_done : Mark → Bool
is_done New = false
is_done (Open left height) = false
is_done (Done height) = true

abbrev pub height_of : Mark → ℕ
height_of New = 0
height_of (Open left height) = 0
height_of (Done height) = height

-- how many vertices are done
abbrev pub done_count : List Mark → ℕ
done_count marks = count_by is_done marks

-- a vertex that is open: what was looked at is done and lower, and its height is that of some walk
pub record IsOpen (g : Digraph) (marks : List Mark) (v left height : ℕ) : Type 0 where
  pub within : left ≤ length (targets_of g v)
  pub looked_at : (k : ℕ) → left ≤ k → k < length (targets_of g v) → (h : ℕ) × (mark_at marks (slice_index (targets_of g v) k) ≡ Done h) × (h < height)
  pub end : ℕ
  pub attained : Walk (HasArc g) height v end
  pub counted : height ≤ done_count marks

-- what the mark of a vertex says. There are fewer arcs on a walk than vertices
abbrev pub IsMarked : Digraph → List Mark → ℕ → Mark → Type 0
IsMarked g marks v New = Unit {0}
IsMarked g marks v (Open left height) = IsOpen g marks v left height
IsMarked g marks v (Done height) = IsLongestWalk (HasArc g) v height × (height < done_count marks)

-- the trail is a walk over the open vertices, each once
pub record IsTrail (g : Digraph) (marks : List Mark) (trail : List ℕ) : Type 0 where
  pub arcs : (k : ℕ) → k + 1 < length trail → HasArc g (slice_index trail k) (slice_index trail (k + 1))
  pub distinct : (j k : ℕ) → j < k → k < length trail → slice_index trail j ≢ slice_index trail k
  pub opened : (k : ℕ) → k < length trail → is_open (mark_at marks (slice_index trail k)) ≡ true
  pub listed : (v : ℕ) → is_open (mark_at marks v) ≡ true → (k : ℕ) × (k < length trail) × (slice_index trail k ≡ v)

pub record AreMarks (g : Digraph) (marks : List Mark) (trail : List ℕ) (next : ℕ) : Type 0 where
  pub small : length g < 2 ^ 32
  pub in_range : InRange g
  pub marks_len : length marks ≡ length g
  pub walked : IsTrail g marks trail
  pub each : (v : ℕ) → IsMarked g marks v (mark_at marks v)
  pub met : (v : ℕ) → v < next → mark_at marks v ≢ New

abbrev pub IsSearch : Digraph → Search → Type 0
IsSearch g s = AreMarks g s.marks.items s.trail.items s.next

-- the work that a vertex leaves, where its row has `most` targets at most
abbrev pub mark_work : ℕ → Mark → ℕ
mark_work most New = 2 * most + 2
mark_work most (Open left height) = 2 * left + 1
mark_work most (Done height) = 0

abbrev pub work_left : Digraph → List Mark → ℕ → ℕ
work_left g marks next = sum_by (mark_work (sum_by length g)) marks + (length g - next)

-- the search goes on, with less work left
pub record IsStep (g : Digraph) (before after : Search) : Type 0 where
  pub search : IsSearch g after
  pub less_work : work_left g after.marks.items after.next < work_left g before.marks.items before.next
