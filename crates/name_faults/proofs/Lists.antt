-- Rows of parts: what they say and bind so far, and one more.
use Rattle.name_faults.proofs.Prelude.{◌≡◌, ℕ, zero, suc, ◌+◌, ◌<◌, ◌≤◌, List, [], ◌∷◌, ◌++◌, length, map, take, get_or, refl, ap, sym, ◌∙◌, append_assoc, arith, length-append, map-append, take-append_seam, append-nil, FieldTree, GenTree, PartTree, Tree, Entities, Name, first_of, Binder, Said, all_say, in_turn, Place, field_binder, gen_binder, under, field_names, field_said, fields_said, gen_names, gen_said, gens_said, pair_said, pairs_said, part_said, parts_said, tree_said, trees_said, under_fields, under_gens}

all_say-append : (ss ts : List Said) (place : Place) (names : List Name) → all_say (ss ++ ts) place names ≡ all_say ss place names ++ all_say ts place names
all_say-append [] ts place names = refl
all_say-append (s ∷ ss) ts place names = rw (all_say-append ss ts place names, append_assoc)

under-append : (bs cs : List Binder) (names : List Name) → under (bs ++ cs) names ≡ under cs (under bs names)
under-append [] cs names = refl
under-append (b ∷ bs) cs names = under-append bs cs (names ++ b.names)

in_turn-append : (bs cs : List Binder) (place : Place) (names : List Name) → in_turn (bs ++ cs) place names ≡ in_turn bs place names ++ in_turn cs place (under bs names)
in_turn-append [] cs place names = refl
in_turn-append (b ∷ bs) cs place names = rw (in_turn-append bs cs place (names ++ b.names), append_assoc)

-- the first so many of a row, and one more
first_more : {X Y : Type 0} (f : X → Y) (xs : List X) (i : ℕ) (x : X) → i < length xs → x ≡ get_or xs i x → map f (take (i + 1) xs) ≡ map f (take i xs) ++ f x ∷ []
first_more f [] i x within is = absurd (omega arith)
first_more f (y ∷ xs) zero x within is = ap (λ z. f z ∷ []) (sym is)
first_more f (y ∷ xs) (suc i) x within is = let e : suc i + 1 ≡ suc (i + 1) = omega arith in rw e (ap (λ ys. f y ∷ ys) (first_more f xs i x (omega arith) is))

-- what is bound later stands behind
more_under : List Binder → List Name
more_under [] = []
more_under (b ∷ bs) = b.names ++ more_under bs

under_is : (bs : List Binder) (names : List Name) → under bs names ≡ names ++ more_under bs
unfolding more_under
under_is [] names = sym (append-nil names)
under_is (b ∷ bs) names = under_is bs (names ++ b.names) ∙ append_assoc names b.names (more_under bs)

left_under : (bs : List Binder) (names : List Name) → take (length names) (under bs names) ≡ names
left_under bs names = ap (take (length names)) (under_is bs names) ∙ take-append_seam names (more_under bs)

fits_under : (bs : List Binder) (names : List Name) → length names ≤ length (under bs names)
fits_under bs names = let e : length (under bs names) ≡ length names + length (more_under bs) = ap length (under_is bs names) ∙ length-append names (more_under bs) in omega arith

module _ (e : Entities) where
  pub left_gens : (gs : List GenTree) (names : List Name) → take (length names) (under_gens e gs names) ≡ names
  unfolding under_gens
  left_gens gs names = left_under (map (gen_binder (first_of e)) gs) names

  pub fits_gens : (gs : List GenTree) (names : List Name) → length names ≤ length (under_gens e gs names)
  unfolding under_gens
  fits_gens gs names = fits_under (map (gen_binder (first_of e)) gs) names

  pub left_fields : (fs : List FieldTree) (names : List Name) → take (length names) (under_fields e fs names) ≡ names
  unfolding under_fields
  left_fields fs names = left_under (map (field_binder (first_of e)) fs) names

  pub fits_fields : (fs : List FieldTree) (names : List Name) → length names ≤ length (under_fields e fs names)
  unfolding under_fields
  fits_fields fs names = fits_under (map (field_binder (first_of e)) fs) names

  pub trees-more : (ts : List Tree) (i : ℕ) (t : Tree) (place : Place) (names : List Name) → i < length ts → t ≡ get_or ts i t
      → trees_said e (take (i + 1) ts) place names ≡ trees_said e (take i ts) place names ++ tree_said e t place names
  unfolding trees_said tree_said
  trees-more ts i t place names within is = rw (first_more _ ts i t within is, all_say-append) (rw append-nil)

  pub parts-more : (xs : List PartTree) (i : ℕ) (x : PartTree) (place : Place) (names : List Name) → i < length xs → x ≡ get_or xs i x
      → parts_said e (take (i + 1) xs) place names ≡ parts_said e (take i xs) place names ++ part_said e x place names
  unfolding parts_said part_said
  parts-more xs i x place names within is = rw (first_more _ xs i x within is, map-append, all_say-append) (rw append-nil)

  pub pairs-more : (xs : List (PartTree × PartTree)) (i : ℕ) (x : PartTree × PartTree) (place : Place) (names : List Name) → i < length xs → x ≡ get_or xs i x
      → pairs_said e (take (i + 1) xs) place names ≡ pairs_said e (take i xs) place names ++ pair_said e x place names
  unfolding pairs_said pair_said
  pairs-more xs i x place names within is = rw (first_more _ xs i x within is, map-append, all_say-append) (rw append-nil)

  pub fields-more : (xs : List FieldTree) (i : ℕ) (x : FieldTree) (place : Place) (names : List Name) → i < length xs → x ≡ get_or xs i x
      → fields_said e (take (i + 1) xs) place names ≡ fields_said e (take i xs) place names ++ field_said e x place (under_fields e (take i xs) names)
  unfolding fields_said field_said under_fields
  fields-more xs i x place names within is = rw (first_more _ xs i x within is, in_turn-append) (rw append-nil)

  pub under_fields-more : (xs : List FieldTree) (i : ℕ) (x : FieldTree) (names : List Name) → i < length xs → x ≡ get_or xs i x
      → under_fields e (take (i + 1) xs) names ≡ under_fields e (take i xs) names ++ field_names e x
  unfolding under_fields field_names
  under_fields-more xs i x names within is = rw (first_more _ xs i x within is, under-append)

  pub gens-more : (xs : List GenTree) (i : ℕ) (x : GenTree) (place : Place) (names : List Name) → i < length xs → x ≡ get_or xs i x
      → gens_said e (take (i + 1) xs) place names ≡ gens_said e (take i xs) place names ++ gen_said e x place (under_gens e (take i xs) names)
  unfolding gens_said gen_said under_gens
  gens-more xs i x place names within is = rw (first_more _ xs i x within is, in_turn-append) (rw append-nil)

  pub under_gens-more : (xs : List GenTree) (i : ℕ) (x : GenTree) (names : List Name) → i < length xs → x ≡ get_or xs i x
      → under_gens e (take (i + 1) xs) names ≡ under_gens e (take i xs) names ++ gen_names e x
  unfolding under_gens gen_names
  under_gens-more xs i x names within is = rw (first_more _ xs i x within is, under-append)

  pub trees-none : (place : Place) (names : List Name) → trees_said e [] place names ≡ []
  unfolding trees_said
  trees-none place names = refl

  pub parts-none : (place : Place) (names : List Name) → parts_said e [] place names ≡ []
  unfolding parts_said
  parts-none place names = refl

  pub pairs-none : (place : Place) (names : List Name) → pairs_said e [] place names ≡ []
  unfolding pairs_said
  pairs-none place names = refl

  pub fields-none : (place : Place) (names : List Name) → fields_said e [] place names ≡ []
  unfolding fields_said
  fields-none place names = refl

  pub under_fields-none : (names : List Name) → under_fields e [] names ≡ names
  unfolding under_fields
  under_fields-none names = refl

  pub gens-none : (place : Place) (names : List Name) → gens_said e [] place names ≡ []
  unfolding gens_said
  gens-none place names = refl

  pub under_gens-none : (names : List Name) → under_gens e [] names ≡ names
  unfolding under_gens
  under_gens-none names = refl

pub left_one : (names more : List Name) → take (length names) (names ++ more) ≡ names
left_one names more = take-append_seam names more

pub ruleset left_lists = (left_gens, fits_gens, left_fields, fits_fields, left_one, append_assoc)

pub ruleset said_lists = (trees-none, parts-none, pairs-none, fields-none, under_fields-none, gens-none, under_gens-none, append-nil, trees-more, parts-more, pairs-more, fields-more, under_fields-more, gens-more, under_gens-more, append_assoc)
