-- The ways to fill fields, by the values of their events and by the numbers of their events.
use Rattle.csp_steps.proofs.Prelude.{◌≡◌, ℕ, zero, suc, ◌+◌, ◌*◌, ◌^◌, ◌<◌, ◌≤◌, Bool, true, false, cond, Option, Some, None, Ok, Err, List, [], ◌∷◌, ◌++◌, map, length, slice_get, refl, ap, sym, ◌∙◌, subst, append_assoc, append-nil, arith, is_some, if◌then◌else◌, map-append, slice_get_within, Atom, Value, One, Many, row_count, rows, Outcome, and_then, given_by, proc_with, Env, in_field, ValueKind, OutsideChannel, Field, Proc, Content, each_joined, given_under, is_given, value_under, ways_to_fill, where_given, Move, Visible, nth_event, number_with, way_move, ways_by_number, has_place, has_atom, place_of, field_found, length-rows, to_rows, field_place, found_place}
use Rattle.csp_program.specs.declared.processes.Field.TheVariants as field
use Rattle.process_steps.specs.Ways as ways

no_place : (o : Option ℕ) (why : ValueKind) → found_place o ≡ Err why → (o ≡ None) × (OutsideChannel ≡ why)
no_place None why h = (refl, cc)
no_place (Some n) why h = absurd (cc)

outside : (set : List Atom) (v : Value) (why : ValueKind) → field_place set v ≡ Err why → in_field set v ≡ Err why
outside set (One a) why h =
    let none = no_place (place_of set a) why h in
    let has : has_atom set a ≡ false = sym (has_place set a) ∙ ap is_some none.0 in
    ap (λ t. cond t (Ok a) (Err OutsideChannel)) has ∙ ap (λ (z : ValueKind). Err z) none.1
outside set (Many atoms) why h = cc

-- the moves that ways come to
abbrev moved : {W : Type 0} → (W → Move) → Outcome (List W) → Outcome (List Move)
moved f o = and_then o (λ ways. Ok (map f ways))

abbrev then_moves : Outcome (List Move) → Outcome (List Move) → Outcome (List Move)
then_moves first second = and_then first (λ us. and_then second (λ vs. Ok (us ++ vs)))

moved_join : {W : Type 0} (f : W → Move) (x y : Outcome (List W)) → moved f (and_then x (λ ys. and_then y (λ more. Ok (ys ++ more)))) ≡ then_moves (moved f x) (moved f y)
moved_join f (Ok xs) (Ok ys) = ap (λ (l : List Move). Ok l) (map-append f xs ys)
moved_join f (Ok xs) (Err k) = refl
moved_join f (Err k) y = refl

given_same : {W V : Type 0} (f : W → Move) (g : V → Move) (b : Bool) (x : Outcome (List W)) (y : Outcome (List V)) → moved f x ≡ moved g y → moved f (if b then x else Ok []) ≡ moved g (if b then y else Ok [])
given_same f g true x y h = h
given_same f g false x y h = refl

each_moved : {W V : Type 0} (f : W → Move) (g : V → Move) (given : Option (List Atom)) (next : ℕ → Atom → Outcome (List W)) (next' : ℕ → Atom → Outcome (List V)) (k : ℕ) (set : List Atom)
    → ((i : ℕ) (a : Atom) → slice_get set i ≡ Some a → moved f (next (k + i) a) ≡ moved g (next' (k + i) a))
    → moved f (each_joined (where_given given next) k set) ≡ moved g (each_joined (where_given given next') k set)
each_moved f g given next next' k [] same = refl
each_moved f g given next next' k (a ∷ set) same =
    let here : k + 0 ≡ k = omega arith in
    let first : moved f (next k a) ≡ moved g (next' k a) = ap (λ n. moved f (next n a)) (sym here) ∙ same 0 a refl ∙ ap (λ n. moved g (next' n a)) here in
    let rest = each_moved f g given next next' (k + 1) set
    (λ i b at. let there : k + 1 + i ≡ k + suc i = omega arith in ap (λ n. moved f (next n b)) there ∙ same (suc i) b at ∙ ap (λ n. moved g (next' n b)) (sym there)) in
    moved_join f (where_given given next k a) (each_joined (where_given given next) (k + 1) set) ∙
    (λ i. then_moves (given_same f g (is_given given a) (next k a) (next' k a) first i) (rest i)) ∙
    sym (moved_join g (where_given given next' k a) (each_joined (where_given given next') (k + 1) set))

at_least : (m count : ℕ) → 0 < count → m ≤ m * count
at_least m zero h = absurd (omega (arith, h))
at_least m (suc count) h = omega arith

-- an event that is found by values, and by the place of these among all choices of values
module _ (p : Content) (event : List Atom → ℕ) (first : ℕ) (q : Proc) where
  abbrev by_row : ways.Way → Move
  by_row w = (Visible (event w.1), proc_with (given_by w.0) q)

  -- the values before the sets are the row, and have the number n; each event of theirs has a number of 32 bits
  abbrev Counts : List (List Atom) → List Atom → ℕ → Type 0
  Counts sets row n = (j : ℕ) (rest : List Atom) → slice_get (rows sets) j ≡ Some rest → (event (row ++ rest) ≡ first + (n * row_count sets + j)) × (event (row ++ rest) < 2 ^ 32)

  one_more : (set : List Atom) (sets : List (List Atom)) (row : List Atom) (n k : ℕ) (a : Atom) → Counts (set ∷ sets) row n → slice_get set k ≡ Some a → Counts sets (row ++ a ∷ []) (number_with n set k)
  one_more set sets row n k a counts at j rest there =
      let c = counts (k * row_count sets + j) (a ∷ rest) (to_rows set sets k a j rest at there (k * row_count sets + j) refl) in
      let same = ap event (append_assoc row (a ∷ []) rest) in
      let is : event ((row ++ a ∷ []) ++ rest) ≡ first + (n * (length set * row_count sets) + (k * row_count sets + j)) = same ∙ c.0 in
      let few : event ((row ++ a ∷ []) ++ rest) < 2 ^ 32 = subst (λ (e : ℕ). e < 2 ^ 32) (sym same) c.1 in
      let within : j < length (rows sets) = slice_get_within (rows sets) j rest there in
      let count : length (rows sets) ≡ row_count sets = length-rows sets in
      let least : n * length set + k ≤ (n * length set + k) * row_count sets = at_least (n * length set + k) (row_count sets) (omega (arith, within, count)) in
      let exact : number_with n set k ≡ n * length set + k = omega (arith, is, few, least) in
      (is ∙ ap (λ (m : ℕ). first + m) (omega arith) ∙ ap (λ (m : ℕ). first + (m * row_count sets + j)) (sym exact), few)

  abbrev Same : List (List Atom) → List Field → Env → List Atom → ℕ → Type 0
  Same sets fields env row n = moved by_row (ways_to_fill p sets fields env row) ≡ moved (way_move first q) (ways_by_number p sets fields env n)

  at_field : (o : Outcome ℕ) (set : List Atom) (sets : List (List Atom)) (fields : List Field) (env : Env) (row : List Atom) (n : ℕ) (v : Value) → field_place set v ≡ o
      → ((k : ℕ) (a : Atom) → slice_get set k ≡ Some a → Same sets fields env (row ++ a ∷ []) (number_with n set k))
      → moved by_row (and_then (in_field set v) (λ a. ways_to_fill p sets fields env (row ++ a ∷ []))) ≡ moved (way_move first q) (and_then o (λ k. ways_by_number p sets fields env (number_with n set k)))
  at_field (Err why) set sets fields env row n v is rest = ap (λ o. moved by_row (and_then o (λ a. ways_to_fill p sets fields env (row ++ a ∷ [])))) (outside set v why is)
  at_field (Ok k) set sets fields env row n v is rest =
      let found = field_found set v k is in
      ap (λ o. moved by_row (and_then o (λ a. ways_to_fill p sets fields env (row ++ a ∷ [])))) found.3 ∙ rest k found.0 found.2

  at_output : (o : Outcome Value) (set : List Atom) (sets : List (List Atom)) (fields : List Field) (env : Env) (row : List Atom) (n : ℕ)
      → ((k : ℕ) (a : Atom) → slice_get set k ≡ Some a → Same sets fields env (row ++ a ∷ []) (number_with n set k))
      → moved by_row (and_then o (λ v. and_then (in_field set v) (λ a. ways_to_fill p sets fields env (row ++ a ∷ []))))
      ≡ moved (way_move first q) (and_then o (λ v. and_then (field_place set v) (λ k. ways_by_number p sets fields env (number_with n set k))))
  at_output (Err why) set sets fields env row n rest = refl
  at_output (Ok v) set sets fields env row n rest = at_field (field_place set v) set sets fields env row n v refl rest

  at_input : (o : Outcome (Option (List Atom))) (set : List Atom) (sets : List (List Atom)) (x : ℕ) (fields : List Field) (env : Env) (row : List Atom) (n : ℕ)
      → ((k : ℕ) (a : Atom) → slice_get set k ≡ Some a → Same sets fields ((x, One a) ∷ env) (row ++ a ∷ []) (number_with n set k))
      → moved by_row (and_then o (λ given. each_joined (where_given given (λ k a. ways_to_fill p sets fields ((x, One a) ∷ env) (row ++ a ∷ []))) 0 set))
      ≡ moved (way_move first q) (and_then o (λ given. each_joined (where_given given (λ k a. ways_by_number p sets fields ((x, One a) ∷ env) (number_with n set k))) 0 set))
  at_input (Err why) set sets x fields env row n rest = refl
  at_input (Ok given) set sets x fields env row n rest =
      each_moved by_row (way_move first q) given (λ k a. ways_to_fill p sets fields ((x, One a) ∷ env) (row ++ a ∷ []))
      (λ k a. ways_by_number p sets fields ((x, One a) ∷ env) (number_with n set k)) 0 set
      (λ i a at. let here : i ≡ 0 + i = omega arith in
      rest i a at ∙ ap (λ k. moved (way_move first q) (ways_by_number p sets fields ((x, One a) ∷ env) (number_with n set k))) here)

  same_moves : (sets : List (List Atom)) (fields : List Field) (env : Env) (row : List Atom) (n : ℕ) → Counts sets row n → Same sets fields env row n
  same_moves [] [] env row n counts =
      let c = counts 0 [] refl in
      let own = ap event (append-nil row) in
      let number = c.0 in
      let few = c.1 in
      let last : event row ≡ nth_event first n = omega (arith, own, number, few) in
      ap (λ (e : ℕ). Ok ((Visible e, proc_with (given_by env) q) ∷ [])) last
  same_moves [] (f ∷ fields) env row n counts = refl
  same_moves (set ∷ sets) [] env row n counts = refl
  same_moves (set ∷ sets) (field.Put e ∷ fields) env row n counts =
      at_output (value_under p env e) set sets fields env row n (λ k a at. same_moves sets fields env (row ++ a ∷ []) (number_with n set k) (one_more set sets row n k a counts at))
  same_moves (set ∷ sets) (field.Get x s ∷ fields) env row n counts =
      at_input (given_under p env s) set sets x fields env row n
      (λ k a at. same_moves sets fields ((x, One a) ∷ env) (row ++ a ∷ []) (number_with n set k) (one_more set sets row n k a counts at))

  pub moves_by_number : (sets : List (List Atom)) (fields : List Field) → ((i : ℕ) (row : List Atom) → slice_get (rows sets) i ≡ Some row → event row ≡ first + i) → first + row_count sets ≤ 2 ^ 32
      → moved by_row (ways_to_fill p sets fields [] []) ≡ moved (way_move first q) (ways_by_number p sets fields [] 0)
  moves_by_number sets fields is few =
      same_moves sets fields [] [] 0
      (λ j row at.
      let e : event row ≡ first + j = is j row at in
      let within : j < length (rows sets) = slice_get_within (rows sets) j row at in
      let count : length (rows sets) ≡ row_count sets = length-rows sets in
      (omega (arith, e), omega (arith, e, within, count, few)))
