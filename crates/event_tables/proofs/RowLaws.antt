-- The lists that take one value from each set, made from the first set on.
use Rattle.event_tables.proofs.Prelude.{◌≡◌, ℕ, ◌+◌, ◌<◌, ◌≤◌, List, [], ◌∷◌, ◌++◌, length, map, drop, get_or, refl, sym, ap, ◌∙◌, arith, append_assoc, drop_of_length-le, append-nil, map-append, Atom, row_count, rows, joined, extended, drop_read}

abbrev Row : Type 0
Row = List Atom

-- each list with each of the rest at its end
abbrev pub under : List Row → List Row → List Row
under rs rest = joined (map (λ r. map (λ row. r ++ row) rest) rs)

joined-append : (xs ys : List (List Row)) → joined (xs ++ ys) ≡ joined xs ++ joined ys
joined-append [] ys = refl
joined-append (x ∷ xs) ys = ap (λ z. x ++ z) (joined-append xs ys) ∙ sym (append_assoc x (joined xs) (joined ys))

under-append : (rs more rest : List Row) → under (rs ++ more) rest ≡ under rs rest ++ under more rest
under-append rs more rest =
    ap joined (map-append (λ r. map (λ row. r ++ row) rest) rs more)
    ∙ joined-append (map (λ r. map (λ row. r ++ row) rest) rs) (map (λ r. map (λ row. r ++ row) rest) more)

behind : (r : Row) (a : Atom) (rest : List Row) → map (λ row. r ++ row) (map (λ row. a ∷ row) rest) ≡ map (λ row. (r ++ a ∷ []) ++ row) rest
behind r a [] = refl
behind r a (row ∷ rest) = λ i. sym (append_assoc r (a ∷ []) row) i ∷ behind r a rest i

one_row : (r : Row) (set : List Atom) (rest : List Row)
    → map (λ row. r ++ row) (joined (map (λ a. map (λ row. a ∷ row) rest) set)) ≡ under (map (λ a. r ++ a ∷ []) set) rest
one_row r [] rest = refl
one_row r (a ∷ set) rest =
    map-append (λ row. r ++ row) (map (λ row. a ∷ row) rest) (joined (map (λ a. map (λ row. a ∷ row) rest) set))
    ∙ (λ i. behind r a rest i ++ one_row r set rest i)

-- one more set
pub under_step : (rs : List Row) (set : List Atom) (sets : List (List Atom)) → under rs (rows (set ∷ sets)) ≡ under (extended rs set) (rows sets)
under_step [] set sets = refl
under_step (r ∷ rs) set sets =
    (λ i. one_row r set (rows sets) i ++ under_step rs set sets i)
    ∙ sym (under-append (map (λ a. r ++ a ∷ []) set) (extended rs set) (rows sets))

pub rows_step : (made new : List Row) (i : ℕ) (sets : List (List Atom)) (set : List Atom) (whole : List Row) → i < length sets → set ≡ get_or sets i set
    → new ≡ extended made set → under made (rows (drop i sets)) ≡ whole → under new (rows (drop (i + 1) sets)) ≡ whole
rows_step made new i sets set whole within is new_is so_far =
    ap (λ rs. under rs (rows (drop (i + 1) sets))) new_is
    ∙ sym (under_step made set (drop (i + 1) sets))
    ∙ ap (λ rest. under made (rows rest)) (sym (drop_read sets i set within is))
    ∙ so_far

under_nothing : (rs : List Row) → under rs ([] ∷ []) ≡ rs
under_nothing [] = refl
under_nothing (r ∷ rs) = λ i. append-nil r i ∷ under_nothing rs i

pub rows_end : (made : List Row) (i : ℕ) (sets : List (List Atom)) (whole : List Row) → length sets ≤ i → under made (rows (drop i sets)) ≡ whole → made ≡ whole
rows_end made i sets whole at_end so_far =
    sym (under_nothing made) ∙ ap (λ rest. under made (rows rest)) (sym (drop_of_length-le sets at_end)) ∙ so_far

same_map : (rest : List Row) → map (λ (row : Row). [] ++ row) rest ≡ rest
same_map [] = refl
same_map (row ∷ rest) = ap (λ z. row ∷ z) (same_map rest)

pub rows_begin : (made : List Row) (sets : List (List Atom)) → made ≡ [] ∷ [] → under made (rows sets) ≡ rows sets
rows_begin made sets is = ap (λ rs. under rs (rows sets)) is ∙ append-nil (map (λ row. [] ++ row) (rows sets)) ∙ same_map (rows sets)

no_rows : (set : List Atom) (rest : List Row) → rest ≡ [] → joined (map (λ a. map (λ row. a ∷ row) rest) set) ≡ []
no_rows [] rest none = refl
no_rows (a ∷ set) rest none = λ i. map (λ row. a ∷ row) (none i) ++ no_rows set rest none i

-- there are none where there is no event
pub none_at_all : (sets : List (List Atom)) → row_count sets ≡ 0 → rows sets ≡ []
none_at_all [] h = absurd (omega arith)
none_at_all ([] ∷ sets) h = refl
none_at_all ((a ∷ set) ∷ sets) h =
    let none : row_count sets ≡ 0 = omega arith in
    no_rows (a ∷ set) (rows sets) (none_at_all sets none)
