-- The number of the first fields of an event, and the rows that begin with them.
use Rattle.value_laws.proofs.Prelude.{◌≡◌, ℕ, zero, suc, ◌+◌, ◌*◌, Bool, true, false, cond, Option, Some, None, Ok, List, [], ◌∷◌, ◌++◌, map, length, take, drop, refl, sym, ◌∙◌, ap, subst, arith, Err, is_some, slice_get, option_map, length-map, slice_get-map, slice_get_within, less, same, AllAbove, IsRising, has_atom, one_more, place_of, Atom, Value, One, Many, same_exact, same_itself, before_from_less, row_count, rows, Outcome, and_then, Env, Meaning, in_field, row_of, values_of, ValueKind, OutsideChannel, AllRise, events_each, field_place, fields_number, found_place, HaveValues, came_through, has_place}
use Rattle.value_laws.proofs.Lists.{same_outcome, length-joined, get_joined, from_joined}

-- ---- the place of a value among the values of a field

one_more_at : {X : Type 0} (o : Option ℕ) (k : ℕ) (x y : X) (xs : List X) → one_more o ≡ Some k → ((j : ℕ) → o ≡ Some j → slice_get xs j ≡ Some y) → slice_get (x ∷ xs) k ≡ Some y
one_more_at None k x y xs h rest = absurd (cc)
one_more_at (Some j) k x y xs h rest =
    let e : j + 1 ≡ k = cc in
    let s : suc j ≡ k = omega arith in
    subst (λ n. slice_get (x ∷ xs) n ≡ Some y) s (rest j refl)

place_cases : (t : Bool) (b a : Atom) (bs : List Atom) (k : ℕ) → same b a ≡ t → cond t (Some 0) (one_more (place_of bs a)) ≡ Some k → ((j : ℕ) → place_of bs a ≡ Some j → slice_get bs j ≡ Some a) → slice_get (b ∷ bs) k ≡ Some a
place_cases true b a bs k e h rest =
    let z : 0 ≡ k = cc in
    subst (λ n. slice_get (b ∷ bs) n ≡ Some a) z (ap (λ (c : Atom). Some c) (same_exact b a e))
place_cases false b a bs k e h rest = one_more_at (place_of bs a) k b a bs h rest

-- at the place of an atom the atom stands
pub at_place : (set : List Atom) (a : Atom) (k : ℕ) → place_of set a ≡ Some k → slice_get set k ≡ Some a
at_place [] a k h = absurd (cc)
at_place (b ∷ bs) a k h = place_cases (same b a) b a bs k refl h (λ j e. at_place bs a j e)

above_at : (b : Atom) (bs : List Atom) (k : ℕ) (a : Atom) → AllAbove b bs → slice_get bs k ≡ Some a → less b a ≡ true
above_at b [] k a r h = absurd (cc)
above_at b (c ∷ bs) zero a r h = let e : c ≡ a = cc in subst (λ d. less b d ≡ true) e r.0
above_at b (c ∷ bs) (suc k) a r h = above_at b bs k a r.1 h

-- in a rising list an atom has its place
pub place_at : (set : List Atom) (k : ℕ) (a : Atom) → IsRising set → slice_get set k ≡ Some a → place_of set a ≡ Some k
place_at [] k a r h = absurd (cc)
place_at (b ∷ bs) zero a r h = let e : b ≡ a = cc in subst (λ d. place_of (b ∷ bs) d ≡ Some 0) e (rw (same_itself b))
place_at (b ∷ bs) (suc k) a r h =
    let f = before_from_less b a (above_at b bs k a r.0 h) in
    let n : k + 1 ≡ suc k = omega arith in
    rw f.not_same (ap one_more (place_at bs k a r.1 h) ∙ ap (λ (m : ℕ). Some m) n)

found_back : (o : Option ℕ) (k : ℕ) → found_place o ≡ Ok k → o ≡ Some k
found_back None k h = absurd (cc)
found_back (Some n) k h = cc

none_back : (o : Option ℕ) (why : ValueKind) → found_place o ≡ Err why → (o ≡ None) × (OutsideChannel ≡ why)
none_back None why h = (refl, cc)
none_back (Some n) why h = absurd (cc)

-- a field's value that has a place is an atom of the field's set
pub field_found : (set : List Atom) (v : Value) (k : ℕ) → field_place set v ≡ Ok k → (a : Atom) × (v ≡ One a) × (slice_get set k ≡ Some a) × (in_field set v ≡ Ok a)
field_found set (One a) k h =
    let at = found_back (place_of set a) k h in
    let has : has_atom set a ≡ true = sym (has_place set a) ∙ ap is_some at in
    (a, refl, at_place set a k at, ap (λ t. cond t (Ok a) (Err OutsideChannel)) has)
field_found set (Many atoms) k h = absurd (cc)

-- and one that has none is refused
field_refused : (set : List Atom) (v : Value) (why : ValueKind) → field_place set v ≡ Err why → in_field set v ≡ Err why
field_refused set (One a) why h =
    let none = none_back (place_of set a) why h in
    let has : has_atom set a ≡ false = sym (has_place set a) ∙ ap is_some none.0 in
    ap (λ t. cond t (Ok a) (Err OutsideChannel)) has ∙ ap (λ (z : ValueKind). Err z) none.1
field_refused set (Many atoms) why h = cc

-- ---- rows

abbrev with_first : (rest : List (List Atom)) → Atom → List (List Atom)
with_first rest a = map (λ row. a ∷ row) rest

length-with_first : (rest : List (List Atom)) (a : Atom) → length (with_first rest a) ≡ length rest
length-with_first rest a = length-map rest (λ row. a ∷ row)

pub length-rows : (sets : List (List Atom)) → length (rows sets) ≡ row_count sets
length-rows [] = refl
length-rows (set ∷ sets) =
    length-joined (with_first (rows sets)) (length (rows sets)) (length-with_first (rows sets)) set ∙ ap (λ n. length set * n) (length-rows sets)

mapped_back : (o : Option (List Atom)) (a : Atom) (row : List Atom) → option_map (λ r. a ∷ r) o ≡ Some row → (r : List Atom) × (o ≡ Some r) × (a ∷ r ≡ row)
mapped_back None a row h = absurd (cc)
mapped_back (Some r) a row h = (r, refl, cc)

-- where a row of one more field stands
pub record InRows (set : List Atom) (sets : List (List Atom)) (i : ℕ) (row : List Atom) : Type 0 where
  pub block : ℕ
  pub within : ℕ
  pub first : Atom
  pub others : List Atom
  pub block_at : slice_get set block ≡ Some first
  pub place : i ≡ block * row_count sets + within
  pub at : slice_get (rows sets) within ≡ Some others
  pub is : first ∷ others ≡ row

pub from_rows : (set : List Atom) (sets : List (List Atom)) (i : ℕ) (row : List Atom) → slice_get (rows (set ∷ sets)) i ≡ Some row → InRows set sets i row
from_rows set sets i row h =
    let f = from_joined (with_first (rows sets)) (length (rows sets)) (length-with_first (rows sets)) set i row h in
    let m = mapped_back (slice_get (rows sets) f.within) f.of row (sym (slice_get-map (λ r. f.of ∷ r) (rows sets) f.within) ∙ f.at) in
    record {
      block = f.block;
      within = f.within;
      first = f.of;
      others = m.0;
      block_at = f.block_at;
      place = f.place ∙ ap (λ n. f.block * n + f.within) (length-rows sets);
      at = m.1;
      is = m.2;
    }

pub to_rows : (set : List Atom) (sets : List (List Atom)) (block : ℕ) (a : Atom) (within : ℕ) (row : List Atom) → slice_get set block ≡ Some a → slice_get (rows sets) within ≡ Some row
    → (i : ℕ) → i ≡ block * row_count sets + within → slice_get (rows (set ∷ sets)) i ≡ Some (a ∷ row)
to_rows set sets block a within row h g i e =
    get_joined (with_first (rows sets)) (length (rows sets)) (length-with_first (rows sets)) set block a h within (slice_get_within (rows sets) within row g) i
    (e ∙ ap (λ n. block * n + within) (sym (length-rows sets))) ∙
    slice_get-map (λ r. a ∷ r) (rows sets) within ∙
    ap (option_map (λ r. a ∷ r)) g

-- only a channel without fields has an event without values
pub no_fields : (sets : List (List Atom)) (i : ℕ) → slice_get (rows sets) i ≡ Some [] → sets ≡ []
no_fields [] i h = refl
no_fields (set ∷ sets) i h = let r = from_rows set sets i [] h in let e : r.first ∷ r.others ≡ [] = r.is in absurd (cc)

split_count : (l : ℕ) (sets : List (List Atom)) → row_count sets ≡ row_count (take l sets) * row_count (drop l sets)
split_count zero sets = omega arith
split_count (suc l) [] = refl
split_count (suc l) (set ∷ sets) = let h = split_count l sets in ap (λ n. length set * n) h ∙ (omega arith)

-- ---- the number of the first fields

-- the fields have values, and the rows that begin with them stand one after another
pub record Numbered (fields : List Meaning) (sets : List (List Atom)) (env : Env) (n : ℕ) (number : ℕ) : Type 0 where
  pub row : List Atom
  pub values : HaveValues fields env row
  pub found : row_of fields sets env ≡ Ok row
  pub own : ℕ
  pub is : number ≡ n * row_count (take (length fields) sets) + own
  pub at : (j : ℕ) (rest : List Atom) → slice_get (rows (drop (length fields) sets)) j ≡ Some rest → (i : ℕ) → i ≡ own * events_each fields sets + j → slice_get (rows sets) i ≡ Some (row ++ rest)

numbered_more : (e : Meaning) (fields : List Meaning) (set : List Atom) (sets : List (List Atom)) (env : Env) (n number k : ℕ) (v : Value)
    → e env ≡ Ok v → field_place set v ≡ Ok k → Numbered fields sets env (n * length set + k) number → Numbered (e ∷ fields) (set ∷ sets) env n number
numbered_more e fields set sets env n number k v h f r =
    let found = field_found set v k f in
    let value : e env ≡ Ok (One found.0) = h ∙ ap (λ (w : Value). Ok w) found.1 in
    let values : values_of fields env ≡ Ok (map (λ a. One a) r.row) = r.values in
    let count = row_count (take (length fields) sets) in
    let each = events_each fields sets in
    let split : row_count sets ≡ count * each = split_count (length fields) sets in
    let is : number ≡ (n * length set + k) * count + r.own = r.is in
    record {
      row = found.0 ∷ r.row;
      values = rw (value, values) refl;
      found = ap (λ o. and_then o (λ w. and_then (in_field set w) (λ a. and_then (row_of fields sets env) (λ row. Ok (a ∷ row))))) h ∙
          (ap (λ o. and_then o (λ a. and_then (row_of fields sets env) (λ row. Ok (a ∷ row)))) found.3 ∙ ap (λ o. and_then o (λ row. Ok (found.0 ∷ row))) r.found);
      own = k * count + r.own;
      is = omega arith;
      at = λ j rest g i at. to_rows set sets k found.0 (r.own * each + j) (r.row ++ rest) found.2 (r.at j rest g (r.own * each + j) refl) i (rw split (omega arith));
    }

pub numbered : (fields : List Meaning) (sets : List (List Atom)) (env : Env) (n number : ℕ) → fields_number fields sets env n ≡ Ok number → Numbered fields sets env n number
numbered [] sets env n number h =
    let e : n ≡ number = cc in
    record {
      row = [];
      values = refl;
      found = refl;
      own = 0;
      is = omega arith;
      at = λ j rest g i at. let same_place : j ≡ i = omega arith in subst (λ m. slice_get (rows sets) m ≡ Some rest) same_place g;
    }
numbered (e ∷ fields) [] env n number h = absurd (cc)
numbered (e ∷ fields) (set ∷ sets) env n number h =
    let first = came_through (e env) (λ v. and_then (field_place set v) (λ k. fields_number fields sets env (n * length set + k))) number h in
    let second = came_through (field_place set first.0) (λ k. fields_number fields sets env (n * length set + k)) number first.2 in
    numbered_more e fields set sets env n number second.0 first.0 first.1 second.1 (numbered fields sets env (n * length set + second.0) number second.2)

refused_place : (o : Outcome ℕ) (set : List Atom) (v : Value) → field_place set v ≡ o → (fields : List Meaning) (sets : List (List Atom)) (env : Env) (n : ℕ) (why : ValueKind)
    → ((m : ℕ) → fields_number fields sets env m ≡ Err why → row_of fields sets env ≡ Err why) → and_then o (λ k. fields_number fields sets env (n * length set + k)) ≡ Err why
    → and_then (in_field set v) (λ a. and_then (row_of fields sets env) (λ row. Ok (a ∷ row))) ≡ Err why
refused_place (Err other) set v is fields sets env n why rest h =
    ap (λ o. and_then o (λ a. and_then (row_of fields sets env) (λ row. Ok (a ∷ row)))) (field_refused set v other is) ∙ cc
refused_place (Ok k) set v is fields sets env n why rest h =
    let found = field_found set v k is in
    ap (λ o. and_then o (λ a. and_then (row_of fields sets env) (λ row. Ok (a ∷ row)))) found.3 ∙ ap (λ o. and_then o (λ row. Ok (found.0 ∷ row))) (rest (n * length set + k) h)

refused_value : (o : Outcome Value) (set : List Atom) (fields : List Meaning) (sets : List (List Atom)) (env : Env) (n : ℕ) (why : ValueKind)
    → ((m : ℕ) → fields_number fields sets env m ≡ Err why → row_of fields sets env ≡ Err why) → and_then o (λ v. and_then (field_place set v) (λ k. fields_number fields sets env (n * length set + k))) ≡ Err why
    → and_then o (λ v. and_then (in_field set v) (λ a. and_then (row_of fields sets env) (λ row. Ok (a ∷ row)))) ≡ Err why
refused_value (Err other) set fields sets env n why rest h = cc
refused_value (Ok v) set fields sets env n why rest h = refused_place (field_place set v) set v refl fields sets env n why rest h

-- where there is no number, there is no row, for the same reason
pub refused : (fields : List Meaning) (sets : List (List Atom)) (env : Env) (n : ℕ) (why : ValueKind) → fields_number fields sets env n ≡ Err why → row_of fields sets env ≡ Err why
refused [] sets env n why h = absurd (cc)
refused (e ∷ fields) [] env n why h = cc
refused (e ∷ fields) (set ∷ sets) env n why h = refused_value (e env) set fields sets env n why (λ m g. refused fields sets env m why g) h

-- the number of the first fields of a row, from the place of the row
pub record Placed (fields : List Meaning) (sets : List (List Atom)) (env : Env) (n : ℕ) (i : ℕ) (rest : List Atom) : Type 0 where
  pub own : ℕ
  pub beyond : ℕ
  pub place : i ≡ own * events_each fields sets + beyond
  pub rest_at : slice_get (rows (drop (length fields) sets)) beyond ≡ Some rest
  pub number : fields_number fields sets env n ≡ Ok (n * row_count (take (length fields) sets) + own)

-- a list of values with one more
pub record FirstValue (e : Meaning) (fields : List Meaning) (env : Env) (row : List Atom) : Type 0 where
  pub first : Atom
  pub others : List Atom
  pub is : row ≡ first ∷ others
  pub value : e env ≡ Ok (One first)
  pub values : HaveValues fields env others

first_cases : (e : Meaning) (fields : List Meaning) (env : Env) (v : Value) (vs : List Value) (row : List Atom)
    → e env ≡ Ok v → values_of fields env ≡ Ok vs → v ∷ vs ≡ map (λ a. One a) row → FirstValue e fields env row
first_cases e fields env v vs [] h g is = absurd (cc)
first_cases e fields env v vs (a ∷ row) h g is =
    let f : v ≡ One a = cc in
    let r : vs ≡ map (λ a. One a) row = cc in
    record { first = a; others = row; is = refl; value = h ∙ ap (λ (w : Value). Ok w) f; values = g ∙ ap (λ (w : List Value). Ok w) r }

first_value : (e : Meaning) (fields : List Meaning) (env : Env) (row : List Atom) → HaveValues (e ∷ fields) env row → FirstValue e fields env row
first_value e fields env row h =
    let first = came_through (e env) (λ v. and_then (values_of fields env) (λ vs. Ok (v ∷ vs))) (map (λ a. One a) row) h in
    let second = came_through (values_of fields env) (λ vs. Ok (first.0 ∷ vs)) (map (λ a. One a) row) first.2 in
    first_cases e fields env first.0 second.0 row first.1 second.1 (same_outcome second.2)

placed_more : (e : Meaning) (fields : List Meaning) (set : List Atom) (sets : List (List Atom)) (env : Env) (n i k within : ℕ) (a : Atom) (rest : List Atom)
    → e env ≡ Ok (One a) → place_of set a ≡ Some k → i ≡ k * row_count sets + within → Placed fields sets env (n * length set + k) within rest → Placed (e ∷ fields) (set ∷ sets) env n i rest
placed_more e fields set sets env n i k within a rest h f place r =
    let count = row_count (take (length fields) sets) in
    let each = events_each fields sets in
    let split : row_count sets ≡ count * each = split_count (length fields) sets in
    let inner : within ≡ r.own * each + r.beyond = r.place in
    let outer : i ≡ k * (count * each) + within = place ∙ ap (λ c. k * c + within) split in
    let sum : (n * length set + k) * count + r.own ≡ n * (length set * count) + (k * count + r.own) = omega arith in
    record {
      own = k * count + r.own;
      beyond = r.beyond;
      place = omega arith;
      rest_at = r.rest_at;
      number = rw (h, f) (r.number ∙ ap (λ (m : ℕ). Ok m) sum);
    }

no_values : (row : List Atom) → [] ≡ map (λ a. One a) row → row ≡ []
no_values [] h = refl
no_values (a ∷ row) h = absurd (cc)

pub placed : (fields : List Meaning) (sets : List (List Atom)) (env : Env) → AllRise sets → (row rest : List Atom) → HaveValues fields env row
    → (i : ℕ) → slice_get (rows sets) i ≡ Some (row ++ rest) → (n : ℕ) → Placed fields sets env n i rest
placed [] sets env rise row rest h i g n =
    let none : row ≡ [] = no_values row (same_outcome h) in
    let sum : n ≡ n * 1 + 0 = omega arith in
    record { own = 0; beyond = i; place = omega arith; rest_at = g ∙ ap (λ (r : List Atom). Some (r ++ rest)) none; number = ap (λ (m : ℕ). Ok m) sum }
placed (e ∷ fields) [] env rise row rest h zero g n =
    let f = first_value e fields env row h in
    let is : row ≡ f.first ∷ f.others = f.is in
    let long : [] ≡ (f.first ∷ f.others) ++ rest = subst (λ r. [] ≡ r ++ rest) is (cc) in
    absurd (cc)
placed (e ∷ fields) [] env rise row rest h (suc i) g n = absurd (cc)
placed (e ∷ fields) (set ∷ sets) env rise row rest h i g n =
    let f = first_value e fields env row h in
    let r = from_rows set sets i (row ++ rest) g in
    let row_is : row ≡ f.first ∷ f.others = f.is in
    let is : r.first ∷ r.others ≡ (f.first ∷ f.others) ++ rest = r.is ∙ ap (λ (l : List Atom). l ++ rest) row_is in
    let first : r.first ≡ f.first = cc in
    let others : r.others ≡ f.others ++ rest = cc in
    placed_more e fields set sets env n i r.block r.within f.first rest f.value
    (place_at set r.block f.first rise.0 (r.block_at ∙ ap (λ (a : Atom). Some a) first)) r.place
    (placed fields sets env rise.1 f.others rest f.values r.within (r.at ∙ ap (λ (l : List Atom). Some l) others) (n * length set + r.block))
