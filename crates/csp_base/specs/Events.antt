-- Sets of events as contracts see them: strictly rising lists of numbers.
-- `has` says which numbers are members (`Members`), and the functions below it give the exact list of an operation.
use Rattle.std.specs.Prelude.{ℕ, ◌==◌, nat_lt, Bool, not, if◌then◌else◌, List, [], ◌∷◌}
use Rattle.std.specs.List.{list_any, list_all, filter}
pub use Rattle.csp_base.specs.Members.{has}

-- the rising list with one more member, or the same where it is there already
abbrev pub with_member : ℕ → List ℕ → List ℕ
with_member x [] = x ∷ []
with_member x (y ∷ ys) = if nat_lt x y then x ∷ y ∷ ys else (if x == y then y ∷ ys else y ∷ with_member x ys)

-- the members of both: where the second list rises, so does the result
abbrev pub union_of : List ℕ → List ℕ → List ℕ
union_of [] ys = ys
union_of (x ∷ xs) ys = with_member x (union_of xs ys)

-- the members of a list in any order, each once, rising
abbrev pub set_of : List ℕ → List ℕ
set_of xs = union_of xs []

-- the members of the first that are members of the second
abbrev pub inter_of : List ℕ → List ℕ → List ℕ
inter_of xs ys = filter (has ys) xs

-- the members of the first that are no members of the second
abbrev pub diff_of : List ℕ → List ℕ → List ℕ
diff_of xs ys = filter (λ x. not (has ys x)) xs

-- whether each member of the first is one of the second
abbrev pub is_subset_of : List ℕ → List ℕ → Bool
is_subset_of xs ys = list_all (has ys) xs

-- whether a member of the first is one of the second
abbrev pub meets_of : List ℕ → List ℕ → Bool
meets_of xs ys = list_any (has ys) xs
