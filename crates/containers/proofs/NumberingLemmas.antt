-- What a look-up finds among values whose equality test is exact.
use Rattle.std.proofs.Common.{◌≡◌, Bool, true, false, cond, List, [], ◌∷◌, Option, Some, slice_get, ℕ, refl, sym, ap, ◌∙◌}
use Rattle.std.specs.List.{find}
use Rattle.containers.specs.Exact.{IsExact}

-- one step of the search, at what the test answers
found_here : {X : Type 0} (test : X → Bool) (x y : X) (rest : Option X) → (rest ≡ Some y → test y ≡ true) → (answer : Bool) → test x ≡ answer → cond answer (Some x) rest ≡ Some y → test y ≡ true
found_here test x y rest later true e h = cc
found_here test x y rest later false e h = later h

-- what is found passes the test
pub passes_where_found : {X : Type 0} (test : X → Bool) (xs : List X) (y : X) → find test xs ≡ Some y → test y ≡ true
passes_where_found test [] y h = cc
passes_where_found test (x ∷ xs) y h = found_here test x y (find test xs) (passes_where_found test xs y) (test x) refl h

-- where the value that is found stands, the value stands that was looked for
pub slice_get-from_find : {X : Type 0} (eq : X → X → Bool) → IsExact eq → (xs : List X) (x y : X) (place : ℕ) → slice_get xs place ≡ Some y → find (eq x) xs ≡ Some y → slice_get xs place ≡ Some x
slice_get-from_find {X} eq exact xs x y place stored found = stored ∙ ap (λ (z : X). Some z) (sym (exact x y (passes_where_found (eq x) xs y found)))
