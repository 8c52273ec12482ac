-- Names that are declared, bound or annotated once: what passes of their occurrences, both ways.
use Rattle.typed_laws.proofs.Sources.{◌≡◌, Notes, ℕ, zero, suc, ◌+◌, Bool, true, false, ◌||◌, Some, None, List, [], ◌∷◌, ◌++◌, length, map, refl, sym, ◌∙◌, ap, subst, append_assoc, append-nil, slice_get, Decides, Decides-eqb, map-append, list_any-append, slice_eq-Decides, or_first_false, or_second_false, EachOnce, AreParameters, is_constant, when, Counts, Meanings, Name, channels_from, constants_from, counted, declared_from, is_among, names_declared, none_yet, same_name, AreOnce, with_roles, with_uses, declared_after, parameters_after, MayBind, Decl, Entity, Kind, flat_map, flat_map_push}
use Rattle.typed_laws.proofs.DeclPasses.{or_is}
use Rattle.typed_laws.proofs.Passing.{AllPass, Passes}
use Rattle.typed_laws.proofs.Uses.{when_none}
use Rattle.typed_laws.proofs.Senses.{no_constant}

same_decides : (x y : Name) → Decides (same_name x y) (x ≡ y)
same_decides x y = slice_eq-Decides Decides-eqb x y (same_name x y) refl

-- none of these is among those before it, and none is among these others
abbrev pub FreshFrom : List Name → List Name → Type 0
FreshFrom before [] = Unit {0}
FreshFrom before (x ∷ xs) = (is_among before x ≡ false) × FreshFrom (before ++ x ∷ []) xs

apart_of : (xs ys : List Name) (x : Name) → is_among (xs ++ ys) x ≡ false → is_among xs x ≡ false
apart_of xs ys x h = or_first_false (is_among xs x) (is_among ys x) (sym (list_any-append (same_name x) xs ys) ∙ h)

-- a name is not among names of which it is the last
last_among : (xs : List Name) (x : Name) → is_among (xs ++ x ∷ []) x ≡ false → ⊥
last_among xs x h =
    let one = or_second_false (is_among xs x) (is_among (x ∷ []) x) (sym (list_any-append (same_name x) xs (x ∷ [])) ∙ h) in
    let same : same_name x x ≡ true = (same_decides x x).1 refl in
    let other : same_name x x ≡ false = or_first_false (same_name x x) false one in
    cc

fresh_apart : (before xs : List Name) → FreshFrom before xs → (k : ℕ) (y : Name) → slice_get xs k ≡ Some y → is_among before y ≡ false
fresh_apart before [] h k y g = absurd (cc)
fresh_apart before (x ∷ xs) h zero y g = let e : x ≡ y = cc in subst (λ z. is_among before z ≡ false) e h.0
fresh_apart before (x ∷ xs) h (suc k) y g = apart_of before (x ∷ []) y (fresh_apart (before ++ x ∷ []) xs h.1 k y g)

fresh_once : (before xs : List Name) → FreshFrom before xs → EachOnce xs
fresh_once before [] h j k z g g' = absurd (cc)
fresh_once before (x ∷ xs) h zero zero z g g' = refl
fresh_once before (x ∷ xs) h zero (suc k) z g g' =
    let e : x ≡ z = cc in
    absurd (last_among before z (subst (λ y. is_among (before ++ y ∷ []) z ≡ false) e (fresh_apart (before ++ x ∷ []) xs h.1 k z g')))
fresh_once before (x ∷ xs) h (suc j) zero z g g' =
    let e : x ≡ z = cc in
    absurd (last_among before z (subst (λ y. is_among (before ++ y ∷ []) z ≡ false) e (fresh_apart (before ++ x ∷ []) xs h.1 j z g)))
fresh_once before (x ∷ xs) h (suc j) (suc k) z g g' = ap (λ i. suc i) (fresh_once (before ++ x ∷ []) xs h.1 j k z g g')

tail_once : (x : Name) (xs : List Name) → EachOnce (x ∷ xs) → EachOnce xs
tail_once x xs h j k z g g' = let e : suc j ≡ suc k = h (suc j) (suc k) z g g' in cc

other_name : (x y : Name) (b : Bool) → same_name y x ≡ b → (y ≡ x → ⊥) → b ≡ false
other_name x y true is h = absurd (h ((same_decides y x).0 is))
other_name x y false is h = refl

once_fresh : (before xs : List Name) → EachOnce xs → ((k : ℕ) (y : Name) → slice_get xs k ≡ Some y → is_among before y ≡ false) → FreshFrom before xs
once_fresh before [] h apart = tt
once_fresh before (x ∷ xs) h apart = (
  apart 0 x refl,
  once_fresh (before ++ x ∷ []) xs (tail_once x xs h) (λ k y g. list_any-append (same_name y) before (x ∷ []) ∙ or_is (is_among before y) (is_among (x ∷ []) y) (apart (suc k) y g)
      (or_is (same_name y x) false (other_name x y (same_name y x) refl (λ e. let s : 0 ≡ suc k = h 0 (suc k) y (ap Some (sym e)) g in cc)) refl)),
)

fresh_two : (before xs ys : List Name) → FreshFrom before (xs ++ ys) → FreshFrom before xs × FreshFrom (before ++ xs) ys
fresh_two before [] ys h = (tt, subst (λ z. FreshFrom z ys) (sym (append-nil before)) h)
fresh_two before (x ∷ xs) ys h =
    let w = fresh_two (before ++ x ∷ []) xs ys h.1 in
    ((h.0, w.0), subst (λ z. FreshFrom z ys) (append_assoc before (x ∷ []) xs) w.1)

fresh_join : (before xs ys : List Name) → FreshFrom before xs → FreshFrom (before ++ xs) ys → FreshFrom before (xs ++ ys)
fresh_join before [] ys h g = subst (λ z. FreshFrom z ys) (append-nil before) g
fresh_join before (x ∷ xs) ys h g = (h.0, fresh_join (before ++ x ∷ []) xs ys h.1 (subst (λ z. FreshFrom z ys) (sym (append_assoc before (x ∷ []) xs)) g))

-- ---- one declaration after another

abbrev pub EachFresh : (Decl → List Name) → List Decl → List Decl → Type 0
EachFresh names earlier [] = Unit {0}
EachFresh names earlier (d ∷ rest) = FreshFrom (flat_map names earlier) (names d) × EachFresh names (earlier ++ d ∷ []) rest

all_fresh : (names : Decl → List Name) (earlier rest : List Decl) → EachFresh names earlier rest → FreshFrom (flat_map names earlier) (flat_map names rest)
all_fresh names earlier [] h = tt
all_fresh names earlier (d ∷ rest) h =
    fresh_join (flat_map names earlier) (names d) (flat_map names rest) h.0
    (subst (λ z. FreshFrom z (flat_map names rest)) (flat_map_push names earlier d) (all_fresh names (earlier ++ d ∷ []) rest h.1))

each_fresh : (names : Decl → List Name) (earlier rest : List Decl) → FreshFrom (flat_map names earlier) (flat_map names rest) → EachFresh names earlier rest
each_fresh names earlier [] h = tt
each_fresh names earlier (d ∷ rest) h =
    let w = fresh_two (flat_map names earlier) (names d) (flat_map names rest) h in
    (w.0, each_fresh names (earlier ++ d ∷ []) rest (subst (λ z. FreshFrom z (flat_map names rest)) (sym (flat_map_push names earlier d)) w.1))

-- the names that a declaration declares
abbrev pub names_of_decl : Decl → List Name
names_of_decl (Decl.Channel xs types) = xs
names_of_decl (Decl.Datatype x ks) = x ∷ ks
names_of_decl (Decl.Nametype x t) = x ∷ []
names_of_decl (Decl.Define x params t) = x ∷ []
names_of_decl _ = []

channel_names : (n fields : ℕ) (xs : List Name) → map (λ e. e.0) (channels_from n fields xs) ≡ xs
channel_names n fields [] = refl
channel_names n fields (x ∷ xs) = ap (λ z. x ∷ z) (channel_names (n + 1) fields xs)

constant_names : (n : ℕ) (xs : List Name) → map (λ e. e.0) (constants_from n xs) ≡ xs
constant_names n [] = refl
constant_names n (x ∷ xs) = ap (λ z. x ∷ z) (constant_names (n + 1) xs)

map_two : (xs ys : List (Name × Entity)) (zs : List Name) (ws : List Name) → map (λ e. e.0) xs ≡ zs → map (λ e. e.0) ys ≡ ws
    → map (λ e. e.0) (xs ++ ys) ≡ zs ++ ws
map_two xs ys zs ws h g = map-append (λ (e : Name × Entity). e.0) xs ys ∙ (λ i. h i ++ g i)

names_from : (n : Counts) (decls : List Decl) → map (λ e. e.0) (declared_from n decls) ≡ flat_map names_of_decl decls
names_from n [] = refl
names_from n (Decl.Channel xs types ∷ decls) =
    map_two (channels_from n.channels (length types) xs) (declared_from (counted n (Decl.Channel xs types)) decls) xs (flat_map names_of_decl decls)
    (channel_names n.channels (length types) xs) (names_from (counted n (Decl.Channel xs types)) decls)
names_from n (Decl.Datatype x cs ∷ decls) =
    ap (λ z. x ∷ z) (map_two (constants_from n.constants cs) (declared_from (counted n (Decl.Datatype x cs)) decls) cs (flat_map names_of_decl decls)
    (constant_names n.constants cs) (names_from (counted n (Decl.Datatype x cs)) decls))
names_from n (Decl.Nametype x t ∷ decls) = ap (λ z. x ∷ z) (names_from (counted n (Decl.Nametype x t)) decls)
names_from n (Decl.Define x params t ∷ decls) = ap (λ z. x ∷ z) (names_from (counted n (Decl.Define x params t)) decls)
names_from n (_ ∷ decls) = names_from n decls

pub names_are : (decls : List Decl) → names_declared decls ≡ flat_map names_of_decl decls
names_are decls = names_from none_yet decls

-- what these declarations declare and annotate stands once, and in none of those before them
pub record AllFresh (earlier rest : List Decl) : Type 0 where
  pub names : EachFresh names_of_decl earlier rest
  pub roles : EachFresh with_roles earlier rest
  pub uses : EachFresh with_uses earlier rest

pub later_fresh : {earlier rest : List Decl} {d : Decl} → AllFresh earlier (d ∷ rest) → AllFresh (earlier ++ d ∷ []) rest
later_fresh h = record { names = h.names.1; roles = h.roles.1; uses = h.uses.1 }

pub are_once : (script : List Decl) → AllFresh [] script → AreOnce script
are_once script h = record {
  names = subst (λ z. EachOnce z) (sym (names_are script)) (fresh_once [] (flat_map names_of_decl script) (all_fresh names_of_decl [] script h.names));
  roles = fresh_once [] (flat_map with_roles script) (all_fresh with_roles [] script h.roles);
  resources = fresh_once [] (flat_map with_uses script) (all_fresh with_uses [] script h.uses);
}

pub once_all : (script : List Decl) → AreOnce script → AllFresh [] script
once_all script h = record {
  names = fresh names_of_decl (subst (λ z. EachOnce z) (names_are script) h.names);
  roles = fresh with_roles h.roles;
  uses = fresh with_uses h.resources;
}
  where
    fresh : (names : Decl → List Name) → EachOnce (flat_map names script) → EachFresh names [] script
    fresh names once = each_fresh names [] script (once_fresh [] (flat_map names script) once (λ k y g. refl))

-- ---- what passes

or_parts : (a b : Bool) (x : Name) → when (a || b) x ≡ None → (a ≡ false) × (b ≡ false)
or_parts false false x h = (refl, refl)
or_parts true b x h = absurd (cc)
or_parts false true x h = absurd (cc)

constant_free : (m : Meanings) (ks : List Kind) (x : Name) → is_constant (m x) ≡ false → MayBind m ks x
constant_free m ks x h k is = let e : true ≡ false = ap is_constant (sym is) ∙ h in cc

module _ (m : Meanings) (ks : List Kind) where
  pub declared_fresh : (before xs : List Name) → AllPass m ks (declared_after before xs) → FreshFrom before xs
  declared_fresh before [] h = tt
  declared_fresh before (x ∷ xs) h = (when_none (is_among before x) x h.0.once, declared_fresh (before ++ x ∷ []) xs h.1)

  fresh_declared : (before xs : List Name) → FreshFrom before xs → AllPass m ks (declared_after before xs)
  fresh_declared before [] h = tt
  fresh_declared before (x ∷ xs) h = (
    record { known = refl; once = ap (λ b. when b x) h.0; kind = refl; count = refl; inside = refl },
    fresh_declared (before ++ x ∷ []) xs h.1,
  )

  -- names that are fresh after declarations, and the process of an annotation that is
  pub names_said : (earlier : List Decl) (xs : List Name) → FreshFrom (flat_map names_of_decl earlier) xs → AllPass m ks (declared_after (names_declared earlier) xs)
  names_said earlier xs h = fresh_declared (names_declared earlier) xs (subst (λ z. FreshFrom z xs) (sym (names_are earlier)) h)

  pub note_passes : (x : Name) (b : Bool) → b ≡ false → Passes m ks (Notes x b)
  note_passes x b h = record { known = refl; once = ap (λ z. when z x) h; kind = refl; count = refl; inside = refl }

  parameters_fresh : (before xs : List Name) → AllPass m ks (parameters_after before xs) → FreshFrom before xs
  parameters_fresh before [] h = tt
  parameters_fresh before (x ∷ xs) h = ((or_parts (is_among before x) (is_constant (m x)) x h.0.once).0, parameters_fresh (before ++ x ∷ []) xs h.1)

  parameters_free : (before xs : List Name) → AllPass m ks (parameters_after before xs) → (k : ℕ) (y : Name) → slice_get xs k ≡ Some y → MayBind m ks y
  parameters_free before [] h k y g = absurd (cc)
  parameters_free before (x ∷ xs) h zero y g =
      let e : x ≡ y = cc in
      subst (λ z. MayBind m ks z) e (constant_free m ks x (or_parts (is_among before x) (is_constant (m x)) x h.0.once).1)
  parameters_free before (x ∷ xs) h (suc k) y g = parameters_free (before ++ x ∷ []) xs h.1 k y g

  pub are_parameters : (xs : List Name) → AllPass m ks (parameters_after [] xs) → AreParameters m ks xs
  are_parameters xs h = record { once = fresh_once [] xs (parameters_fresh [] xs h); free = λ x at. parameters_free [] xs h at.0 x at.1 }

  parameters_from : (before xs : List Name) → FreshFrom before xs → ((k : ℕ) (y : Name) → slice_get xs k ≡ Some y → MayBind m ks y)
      → AllPass m ks (parameters_after before xs)
  parameters_from before [] h free = tt
  parameters_from before (x ∷ xs) h free = (
    record {
      known = refl;
      kind = refl;
      count = refl;
      inside = refl;
      once = λ i. when (h.0 i || no_constant (m x) (free 0 x refl) i) x;
    },
    parameters_from (before ++ x ∷ []) xs h.1 (λ k y g. free (suc k) y g),
  )

  pub parameters_pass : (xs : List Name) → AreParameters m ks xs → AllPass m ks (parameters_after [] xs)
  parameters_pass xs h = parameters_from [] xs (once_fresh [] xs h.once (λ k y g. refl)) (λ k y g. h.free y (k, g))
