-- A digraph, as contracts see it: for each vertex, numbered from 0, the targets of the arcs that leave it.
use Rattle.std.specs.Prelude.{ℕ, ◌<◌, Bool, IsTrue, List, [], length, slice_index_or}
use Rattle.csp_base.specs.Members.{has}

abbrev pub Digraph : Type 0
Digraph = List (List ℕ)

-- the targets of the arcs that leave v
abbrev pub targets_of : Digraph → ℕ → List ℕ
targets_of g v = slice_index_or g v []

-- whether an arc leads from v to w
abbrev pub has_arc : Digraph → ℕ → ℕ → Bool
has_arc g v w = has (targets_of g v) w

-- an arc leads from v to w
abbrev pub HasArc : Digraph → ℕ → ℕ → Type 0
HasArc g v w = IsTrue (has_arc g v w)

-- each arc leads to a vertex
abbrev pub InRange : Digraph → Type 0
InRange g = (v w : ℕ) → HasArc g v w → w < length g
