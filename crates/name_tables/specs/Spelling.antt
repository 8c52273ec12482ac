-- Maps in which bound names are found by their bytes.
use Rattle.std.specs.Prelude.{ℕ, Option, Vec, map}
use Rattle.script_names.specs.Prelude.{Name}
use Rattle.csp_base.specs.Standard.{nat_cmp, BTreeMap, get_by, slice_cmp, Global}

-- a name's bytes, as they are kept
abbrev pub Spelling : Type 0
Spelling = Vec ℕ Global

-- what the map has for the name x
abbrev pub at_name : {X : Type 0} → BTreeMap Spelling X → Name → Option X
at_name m x = get_by (λ k. slice_cmp nat_cmp x k.items) m
