-- What the search for kinds goes by: the vertex that an arc for an end comes from, and what is found. Only the private contracts of this crate cite it.
use Rattle.std.specs.Prelude.{◌<◌, ◌↔◌, if◌then◌else◌, ℕ, Bool, true, false, nat_eq, nat_lt, IsTrue, Option, Some, None, List, length, slice_index_or}
use Rattle.script_names.specs.Prelude.{LeadsTo}
use Rattle.script_names.specs.declared.kinds.End.{End}
use Rattle.std.specs.List.{list_any}
use Rattle.csp_base.specs.Members.{has}

-- whether an end is the one that is looked for, and no use
abbrev pub is_last : End → End → Bool
is_last End.Data End.Data = true
is_last End.Nothing End.Nothing = true
is_last End.Parallel End.Parallel = true
is_last _ _ = false

-- the vertex that an end comes from: the definition that it uses, or the vertex n for the end that is looked for
abbrev pub source_of : ℕ → End → End → Option ℕ
source_of n target (End.Use d) = if nat_lt d n then Some d else None
source_of n target e = if is_last target e then Some n else None

abbrev pub is_vertex : ℕ → Option ℕ → Bool
is_vertex v None = false
is_vertex v (Some u) = nat_eq v u

abbrev pub comes_from : ℕ → End → ℕ → End → Bool
comes_from n target v e = is_vertex v (source_of n target e)

-- some of these ends comes from v
abbrev pub some_from : ℕ → End → ℕ → List End → Bool
some_from n target v ends = list_any (comes_from n target v) ends

-- whether the definition with the number d is marked
abbrev pub marked : List Bool → ℕ → Bool
marked marks d = slice_index_or marks d false

-- of definitions with these ends, those that lead to the target are the ones that are marked
abbrev pub AreLeading : End → List (List End) → List Bool → Type 0
AreLeading target all marks = (d : ℕ) → d < length all → IsTrue (marked marks d) ↔ LeadsTo target all d

-- and the ones that a search found
abbrev pub AreReached : End → List (List End) → List ℕ → Type 0
AreReached target all found = (d : ℕ) → d < length all → IsTrue (has found d) ↔ LeadsTo target all d
