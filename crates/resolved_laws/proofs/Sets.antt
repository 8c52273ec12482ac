-- The field sets that the types of channels have are in order, there is one for each field, and the event table of the channels with them is numbered
-- by its places.
use Rattle.resolved_laws.proofs.Sources.{◌≡◌, ℕ, zero, suc, ◌+◌, Bool, true, false, ◌&&◌, nat_eq, IsTrue, Some, Ok, Err, List, [], ◌∷◌, ◌++◌, length, map, replicate, refl, sym, ◌∙◌, ap, subst, arith, Result, if◌then◌else◌, slice_get, flat_map, length-map, sum-map, sum_by-cons, first_event, row_count, event_of, events_from_channel, rows, IsInOrder, atom_in_order, channel_in_order, expr_in_order, has_sets, is_field_value, set_in_order, sets_in_order, value_in_order, all_true, Outcome, and_then, value_of, channels_of, Meanings, Name, all_events, field_set, field_sets, may_be_field, with_sets, exprs, reading, Atom, Channel, Content, Decl, Expr, Many, One, Tree, Value, ValueKind, is_and}
use Rattle.std.proofs.Common.{length-append}
use Rattle.csp_base.proofs.Standard.{false≢true, eq-eqb}
use Rattle.csp_atoms.specs.Prelude.{is_set}
use Rattle.csp_program.specs.declared.kinds.ValueKind.TheVariants.{Kind}
use Rattle.resolved_laws.proofs.Sources.{Kind as DefinitionKind}
use Rattle.resolved_laws.proofs.Whole.{SameTypes}
use Rattle.value_laws.proofs.RowNumbers.{length-rows}
use Rattle.value_laws.proofs.ValuesInOrder.{values_are_in_order}
use Rattle.typed_laws.proofs.Back.{SetsFor, ok_is}
use Rattle.resolved_laws.proofs.Booleans.{two}

-- ---- outcomes and answers

record IsNext {A B E : Type 0} (a : Result A E) (next : A → Result B E) (b : B) : Type 0 where
  pub first : A
  pub is : a ≡ Ok first
  pub after : next first ≡ Ok b

then_ok : {A B : Type 0} (o : Outcome A) (next : A → Outcome B) (b : B) → and_then o next ≡ Ok b → IsNext o next b
then_ok (Ok x) next b h = record { first = x; is = refl; after = h }
then_ok (Err f) next b h = absurd (cc)

if_ok : {A : Type 0} (b : Bool) (x y : A) (k : ValueKind) → (if b then Ok x else Err k) ≡ Ok y → IsTrue b × (x ≡ y)
if_ok true x y k h = (refl, cc)
if_ok false x y k h = absurd (cc)

-- ---- the values of a field

module _ (p : Content) where
  value_ordered : (a : Atom) → IsTrue (may_be_field a) → IsTrue (atom_in_order p a) → IsTrue (is_field_value p a)
  value_ordered (Atom.Num n) h g = refl
  value_ordered (Atom.Const k) h g = g
  value_ordered _ h g = absurd (false≢true h)

  values_ordered : (atoms : List Atom) → IsTrue (all_true (map may_be_field atoms)) → IsTrue (all_true (map (atom_in_order p) atoms))
      → IsTrue (all_true (map (is_field_value p) atoms))
  values_ordered [] h g = refl
  values_ordered (a ∷ atoms) h g =
      let h' = two (may_be_field a) (all_true (map may_be_field atoms)) h in
      let g' = two (atom_in_order p a) (all_true (map (atom_in_order p) atoms)) g in
      is_and (is_field_value p a) (all_true (map (is_field_value p) atoms)) (value_ordered a h'.0 g'.0) (values_ordered atoms h'.1 g'.1)

  set_ordered : (v : Value) (set : List Atom) → field_set v ≡ Ok set → IsTrue (value_in_order p v) → IsTrue (set_in_order p set)
  set_ordered (One a) set h g = absurd (cc)
  set_ordered (Many atoms) set h g =
      let w = if_ok (all_true (map may_be_field atoms)) atoms set Kind h in
      let g' = two (all_true (map (atom_in_order p) atoms)) (is_set atoms) g in
      subst (λ z. IsTrue (set_in_order p z)) w.1 (is_and (all_true (map (is_field_value p) atoms)) (is_set atoms) (values_ordered atoms w.0 g'.0) g'.1)

  pub record AreSets (n : ℕ) (sets : List (List Atom)) : Type 0 where
    pub count : length sets ≡ n
    pub ordered : IsTrue (all_true (map (set_in_order p) sets))

  module _ (whole : IsInOrder p) where
    sets_ordered : (es : List Expr) (sets : List (List Atom)) → IsTrue (all_true (map (expr_in_order p) es)) → field_sets p es ≡ Ok sets
        → AreSets (length es) sets
    sets_ordered [] sets o h = let e : [] ≡ sets = ok_is h in subst (AreSets 0) e (record { count = refl; ordered = refl })
    sets_ordered (t ∷ es) sets o h =
        let o' = two (expr_in_order p t) (all_true (map (expr_in_order p) es)) o in
        let a = then_ok (value_of p t) (λ v. and_then (field_set v) (λ set. and_then (field_sets p es) (λ rest. Ok (set ∷ rest)))) sets h in
        let b = then_ok (field_set a.first) (λ set. and_then (field_sets p es) (λ rest. Ok (set ∷ rest))) sets a.after in
        let c = then_ok (field_sets p es) (λ rest. Ok (b.first ∷ rest)) sets b.after in
        let r = sets_ordered es c.first o'.1 c.is in
        subst (AreSets (suc (length es))) (ok_is c.after) (record {
          count = ap (λ k. suc k) r.count;
          ordered = is_and (set_in_order p b.first) (all_true (map (set_in_order p) c.first))
              (set_ordered a.first b.first b.is (values_are_in_order p whole (length p.defs) t o'.0 [] tt a.first a.is)) r.ordered;
        })

-- each channel has a set for each of its fields
abbrev pub HaveSets : Content → List Channel → List (List (List Atom)) → Type 0
HaveSets p [] [] = Unit {0}
HaveSets p (c ∷ cs) (sets ∷ all) = AreSets p (length c.types) sets × HaveSets p cs all
HaveSets p [] (sets ∷ all) = ⊥
HaveSets p (c ∷ cs) [] = ⊥

module _ (p : Content) (whole : IsInOrder p) (m : Meanings) (ks : List DefinitionKind) where
  abbrev types_read : List Tree → List Expr
  types_read types = exprs (map (reading m ks) types) [] 0

  sets_here : (xs : List Name) (types : List Tree) (sets : List (List Atom)) (rest : List Channel) (all : List (List (List Atom)))
      → IsTrue (all_true (map (channel_in_order p) (channels_of m ks (Decl.Channel xs types) ++ rest))) → field_sets p (types_read types) ≡ Ok sets
      → (IsTrue (all_true (map (channel_in_order p) rest)) → HaveSets p rest all) → HaveSets p (channels_of m ks (Decl.Channel xs types) ++ rest)
      (replicate (length xs) sets ++ all)
  sets_here [] types sets rest all o h k = k o
  sets_here (x ∷ xs) types sets rest all o h k =
      let o' = two (all_true (map (expr_in_order p) (types_read types)) && true)
      (all_true (map (channel_in_order p) (channels_of m ks (Decl.Channel xs types) ++ rest))) o in (
        sets_ordered p whole (types_read types) sets ((two (all_true (map (expr_in_order p) (types_read types))) true o'.0).0) h,
        sets_here xs types sets rest
            all o'.1 h k,
      )

  pub have_sets : (decls : List Decl) (all : List (List (List Atom))) → IsTrue (all_true (map (channel_in_order p) (flat_map (channels_of m ks) decls)))
      → SetsFor (λ types sets. field_sets p types ≡ Ok sets) types_read decls all → HaveSets p (flat_map (channels_of m ks) decls) all
  have_sets [] all o h = subst (HaveSets p []) h tt
  have_sets (Decl.Channel xs types ∷ decls) all o h =
      subst (HaveSets p (channels_of m ks (Decl.Channel xs types) ++ flat_map (channels_of m ks) decls)) h.4
      (sets_here xs types h.0 (flat_map (channels_of m ks) decls) h.1 o h.2 (λ z. have_sets decls h.1 z h.3))
  have_sets (_ ∷ decls) all o h = have_sets decls all o h

-- ---- the channels with these sets

one_more_set : (sets : List (List Atom)) (all : List (List (List Atom))) → row_count sets + all_events all ≡ all_events (sets ∷ all)
one_more_set sets all =
    sym (sum-map row_count (sets ∷ all) ∙ (sum_by-cons row_count sets all ∙ ap (λ z. row_count sets + z) (sym (sum-map row_count all))))

plus : (a b c : ℕ) → a + b + c ≡ a + (b + c)
plus a b c = omega arith

module _ (p : Content) where
  pub sets_same : (first : ℕ) (cs : List Channel) (all : List (List (List Atom))) → HaveSets p cs all → SameTypes (with_sets first cs all) cs
  sets_same first [] [] h = tt
  sets_same first (c ∷ cs) (sets ∷ all) h = (refl, sets_same (first + row_count sets) cs all h.1)
  sets_same first _ _ h = absurd h

  pub sets_in_place : (first : ℕ) (cs : List Channel) (all : List (List (List Atom))) → HaveSets p cs all
      → IsTrue (all_true (map (λ c. sets_in_order p (length c.types) c.fields) (with_sets first cs all)))
  sets_in_place first [] [] h = refl
  sets_in_place first (c ∷ cs) (sets ∷ all) h =
      is_and (sets_in_order p (length c.types) (Some sets))
      (all_true (map (λ c. sets_in_order p (length c.types) c.fields) (with_sets (first + row_count sets) cs all)))
      (is_and (nat_eq (length sets) (length c.types)) (all_true (map (set_in_order p) sets)) (eq-eqb (length sets) (length c.types) h.0.count) h.0.ordered)
      (sets_in_place (first + row_count sets) cs all h.1)
  sets_in_place first _ _ h = absurd h

  pub have_all : (first : ℕ) (cs : List Channel) (all : List (List (List Atom))) → HaveSets p cs all → IsTrue (all_true (map has_sets (with_sets first cs all)))
  have_all first [] [] h = refl
  have_all first (c ∷ cs) (sets ∷ all) h = have_all (first + row_count sets) cs all h.1
  have_all first _ _ h = absurd h

  pub firsts_kept : (first : ℕ) (cs : List Channel) (all : List (List (List Atom))) → HaveSets p cs all → (i : ℕ) (c : Channel)
      → slice_get (with_sets first cs all) i ≡ Some c
      → c.first ≡ first + first_event (with_sets first cs all) i
  firsts_kept first [] [] h i c g = absurd (cc)
  firsts_kept first (d ∷ cs) (sets ∷ all) h zero c g =
      let e : record d { fields = Some sets; first = first } ≡ c = cc in
      let n : first ≡ first + 0 = omega arith in
      ap (λ (z : Channel). z.first) (sym e) ∙ n
  firsts_kept first (d ∷ cs) (sets ∷ all) h (suc i) c g =
      firsts_kept (first + row_count sets) cs all h.1 i c g ∙ plus first (row_count sets) (first_event (with_sets (first + row_count sets) cs all) i)
  firsts_kept first _ _ h i c g = absurd h

  pub count_events : (k first : ℕ) (cs : List Channel) (all : List (List (List Atom))) → HaveSets p cs all
      → length (events_from_channel k (with_sets first cs all)) ≡ all_events all
  count_events k first [] [] h = refl
  count_events k first (c ∷ cs) (sets ∷ all) h =
      length-append (map (event_of k) (rows sets)) (events_from_channel (k + 1) (with_sets (first + row_count sets) cs all)) ∙
      (ap (λ z. z + length (events_from_channel (k + 1) (with_sets (first + row_count sets) cs all))) (length-map (rows sets) (event_of k) ∙ length-rows sets) ∙
      (ap (λ z. row_count sets + z) (count_events (k + 1) (first + row_count sets) cs all h.1) ∙ one_more_set sets all))
  count_events k first _ _ h = absurd h
