-- The different values of a list, in the order in which they first stand there.
use Rattle.csp_steps.proofs.Prelude.{◌≡◌, ◌⊎◌, inl, inr, zero, suc, ◌<◌, Some, List, [], ◌∷◌, ◌++◌, map, length, refl, ap, sym, ◌∙◌, subst, append-nil, arith, EachOnce, StandsIn, joined, at_place, from_map, in_either, in_left, in_map, in_right, placed, AreFirsts, AreFirstsAfter, none, again, first}

-- ---- what stands in a list

pub stands_first : {X : Type 0} (y x : X) (ys : List X) → y ≡ x → StandsIn (y ∷ ys) x
stands_first y x ys e = (zero, ap (λ z. Some z) e)

pub stands_later : {X : Type 0} (y x : X) (ys : List X) → StandsIn ys x → StandsIn (y ∷ ys) x
stands_later y x ys h = (suc h.0, h.1)

pub stands_cases : {X : Type 0} (y x : X) (ys : List X) → StandsIn (y ∷ ys) x → (y ≡ x) ⊎ StandsIn ys x
stands_cases y x ys (zero, h) = inl cc
stands_cases y x ys (suc k, h) = inr (k, h)

pub stands_none : {X : Type 0} (x : X) → StandsIn [] x → ⊥
stands_none x (k, h) = cc

pub stands_left : {X : Type 0} (xs ys : List X) (x : X) → StandsIn xs x → StandsIn (xs ++ ys) x
stands_left xs ys x h = placed (xs ++ ys) x (in_left xs ys x (at_place xs h.0 x h.1))

pub stands_right : {X : Type 0} (xs ys : List X) (x : X) → StandsIn ys x → StandsIn (xs ++ ys) x
stands_right xs ys x h = placed (xs ++ ys) x (in_right xs ys x (at_place ys h.0 x h.1))

pub stands_either : {X : Type 0} (xs ys : List X) (x : X) → StandsIn (xs ++ ys) x → StandsIn xs x ⊎ StandsIn ys x
stands_either xs ys x h = elim (in_either xs ys x (at_place (xs ++ ys) h.0 x h.1)) [ inl a ↦ inl (placed xs x a) | inr b ↦ inr (placed ys x b) ]

pub stands_map : {X Y : Type 0} (f : X → Y) (xs : List X) (x : X) → StandsIn xs x → StandsIn (map f xs) (f x)
stands_map f xs x h = placed (map f xs) (f x) (in_map f xs x (at_place xs h.0 x h.1))

-- a value of the list that f turns into y
pub record IsImage {X Y : Type 0} (f : X → Y) (xs : List X) (y : Y) : Type 0 where
  pub source : X
  pub stands : StandsIn xs source
  pub made : f source ≡ y

pub map_stands : {X Y : Type 0} (f : X → Y) (xs : List X) (y : Y) → StandsIn (map f xs) y → IsImage f xs y
map_stands f xs y h =
    let i = from_map f xs y (at_place (map f xs) h.0 y h.1) in
    record { source = i.source; stands = placed xs i.source i.among; made = i.made }

-- the first list has nothing that the second hasn't
abbrev pub Inside : {X : Type 0} → List X → List X → Type 0
Inside {X = X} xs ys = (x : X) → StandsIn xs x → StandsIn ys x

inside_first : {X : Type 0} (x : X) (xs ys : List X) → Inside xs ys → Inside (x ∷ xs) (x ∷ ys)
inside_first x xs ys h z s = elim (stands_cases x z xs s) [
  | inl e ↦ stands_first x z ys e
  | inr g ↦ stands_later x z ys (h z g)
]

-- ---- a list has its firsts only once

pub firsts_one : {X : Type 0} (xs seen ys zs : List X) → AreFirstsAfter xs seen ys → AreFirstsAfter xs seen zs → ys ≡ zs
firsts_one [] seen ys zs (none a) (none b) = refl
firsts_one (x ∷ xs) seen ys zs (again a b c d h f) (again e i j k g m) = firsts_one xs seen ys zs f m
firsts_one (x ∷ xs) seen ys zs (again a b c d h f) (first e i j k g m) = absurd (g h)
firsts_one (x ∷ xs) seen ys zs (first a b c d h f) (again e i j k g m) = absurd (h g)
firsts_one (x ∷ xs) seen ys zs (first a b c d h f) (first e i j k g m) = ap (λ us. x ∷ us) (firsts_one xs (x ∷ seen) d k f m)

-- ---- they are the values of the list, each once

pub firsts_back : {X : Type 0} (xs seen ys : List X) → AreFirstsAfter xs seen ys → Inside ys xs
firsts_back [] seen ys (none a) z s = s
firsts_back (x ∷ xs) seen ys (again a b c d h f) z s = stands_later x z xs (firsts_back xs seen ys f z s)
firsts_back (x ∷ xs) seen ys (first a b c d h f) z s = inside_first x d xs (firsts_back xs (x ∷ seen) d f) z s

pub firsts_there : {X : Type 0} (xs seen ys : List X) → AreFirstsAfter xs seen ys → (z : X) → StandsIn xs z → StandsIn seen z ⊎ StandsIn ys z
firsts_there [] seen ys (none a) z s = inr s
firsts_there (x ∷ xs) seen ys (again a b c d h f) z s = elim (stands_cases x z xs s) [
  | inl e ↦ inl (subst (λ w. StandsIn seen w) e h)
  | inr g ↦ firsts_there xs seen ys f z g
]
firsts_there (x ∷ xs) seen ys (first a b c d h f) z s = elim (stands_cases x z xs s) [
  | inl e ↦ inr (stands_first x z d e)
  | inr g ↦ elim (firsts_there xs (x ∷ seen) d f z g) [
    | inl old ↦ elim (stands_cases x z seen old) [
      | inl e ↦ inr (stands_first x z d e)
      | inr older ↦ inl older
    ]
    | inr new ↦ inr (stands_later x z d new)
  ]
]

pub firsts_new : {X : Type 0} (xs seen ys : List X) → AreFirstsAfter xs seen ys → (z : X) → StandsIn ys z → StandsIn seen z → ⊥
firsts_new [] seen ys (none a) z s g = stands_none z s
firsts_new (x ∷ xs) seen ys (again a b c d h f) z s g = firsts_new xs seen ys f z s g
firsts_new (x ∷ xs) seen ys (first a b c d h f) z s g = elim (stands_cases x z d s) [
  | inl e ↦ h (subst (λ w. StandsIn seen w) (sym e) g)
  | inr more ↦ firsts_new xs (x ∷ seen) d f z more (stands_later x z seen g)
]

once_first : {X : Type 0} (x : X) (ys : List X) → (StandsIn ys x → ⊥) → EachOnce ys → EachOnce (x ∷ ys)
once_first x ys new once zero zero z h g = refl
once_first x ys new once zero (suc k) z h g = let e : x ≡ z = cc in absurd (new (k, g ∙ ap (λ w. Some w) (sym e)))
once_first x ys new once (suc j) zero z h g = let e : x ≡ z = cc in absurd (new (j, h ∙ ap (λ w. Some w) (sym e)))
once_first x ys new once (suc j) (suc k) z h g = ap suc (once j k z h g)

pub firsts_once : {X : Type 0} (xs seen ys : List X) → AreFirstsAfter xs seen ys → EachOnce ys
firsts_once [] seen ys (none a) = λ j k z h g. cc
firsts_once (x ∷ xs) seen ys (again a b c d h f) = firsts_once xs seen ys f
firsts_once (x ∷ xs) seen ys (first a b c d h f) =
    once_first x d (λ s. firsts_new xs (x ∷ seen) d f x s (stands_first x x seen refl)) (firsts_once xs (x ∷ seen) d f)

-- ---- of what was seen only the values count

pub firsts_seen : {X : Type 0} (xs old new ys : List X) → Inside old new → Inside new old → AreFirstsAfter xs old ys → AreFirstsAfter xs new ys
firsts_seen [] old new ys f g (none a) = none new
firsts_seen (x ∷ xs) old new ys f g (again a b c d h r) = again x xs new ys (f x h) (firsts_seen xs old new ys f g r)
firsts_seen (x ∷ xs) old new ys f g (first a b c d h r) =
    first x xs new d (λ s. h (g x s)) (firsts_seen xs (x ∷ old) (x ∷ new) d (inside_first x old new f) (inside_first x new old g) r)

-- ---- lists one after another

-- what was seen before a value that was taken, and after it
to_front : {X : Type 0} (x : X) (seen ys : List X) → Inside (seen ++ x ∷ ys) ((x ∷ seen) ++ ys)
to_front x seen ys z s = elim (stands_either seen (x ∷ ys) z s) [
  | inl old ↦ stands_later x z (seen ++ ys) (stands_left seen ys z old)
  | inr later ↦ elim (stands_cases x z ys later) [
    | inl e ↦ stands_first x z (seen ++ ys) e
    | inr new ↦ stands_later x z (seen ++ ys) (stands_right seen ys z new)
  ]
]

from_front : {X : Type 0} (x : X) (seen ys : List X) → Inside ((x ∷ seen) ++ ys) (seen ++ x ∷ ys)
from_front x seen ys z s = elim (stands_cases x z (seen ++ ys) s) [
  | inl e ↦ stands_right seen (x ∷ ys) z (stands_first x z ys e)
  | inr later ↦ elim (stands_either seen ys z later) [
    | inl old ↦ stands_left seen (x ∷ ys) z old
    | inr new ↦ stands_right seen (x ∷ ys) z (stands_later x z ys new)
  ]
]

pub firsts_append : {X : Type 0} (xs us seen ys zs : List X) → AreFirstsAfter xs seen ys → AreFirstsAfter us (seen ++ ys) zs → AreFirstsAfter (xs ++ us) seen (ys ++ zs)
firsts_append [] us seen ys zs (none a) g = subst (λ ss. AreFirstsAfter us ss zs) (append-nil seen) g
firsts_append (x ∷ xs) us seen ys zs (again a b c d h f) g = again x (xs ++ us) seen (ys ++ zs) h (firsts_append xs us seen ys zs f g)
firsts_append (x ∷ xs) us seen ys zs (first a b c d h f) g =
    first x (xs ++ us) seen (d ++ zs) h
    (firsts_append xs us (x ∷ seen) d zs f (firsts_seen us (seen ++ x ∷ d) ((x ∷ seen) ++ d) zs (to_front x seen d) (from_front x seen d) g))

-- what the first of two lists gives, and then the second
pub record AreSplit {X : Type 0} (xs us seen zs : List X) : Type 0 where
  pub front : List X
  pub rest : List X
  pub whole : zs ≡ front ++ rest
  pub before : AreFirstsAfter xs seen front
  pub after : AreFirstsAfter us (seen ++ front) rest

pub firsts_split : {X : Type 0} (xs us seen zs : List X) → AreFirstsAfter (xs ++ us) seen zs → AreSplit xs us seen zs
firsts_split [] us seen zs f = record { front = []; rest = zs; whole = refl; before = none seen; after = subst (λ ss. AreFirstsAfter us ss zs) (sym (append-nil seen)) f }
firsts_split (x ∷ xs) us seen zs (again a b c d h f) =
    let s = firsts_split xs us seen zs f in
    record { front = s.front; rest = s.rest; whole = s.whole; before = again x xs seen s.front h s.before; after = s.after }
firsts_split (x ∷ xs) us seen zs (first a b c d h f) =
    let s = firsts_split xs us (x ∷ seen) d f in
    record {
      front = x ∷ s.front;
      rest = s.rest;
      whole = ap (λ ys. x ∷ ys) s.whole;
      before = first x xs seen s.front h s.before;
      after = firsts_seen us ((x ∷ seen) ++ s.front) (seen ++ x ∷ s.front) s.rest (from_front x seen s.front) (to_front x seen s.front) s.after;
    }

-- a list that was seen is left out
pub firsts_known : {X : Type 0} (xs us seen zs : List X) → Inside xs seen → AreFirstsAfter us seen zs → AreFirstsAfter (xs ++ us) seen zs
firsts_known [] us seen zs h f = f
firsts_known (x ∷ xs) us seen zs h f = again x (xs ++ us) seen zs (h x (stands_first x x xs refl)) (firsts_known xs us seen zs (λ z s. h z (stands_later x z xs s)) f)

-- ---- what is made of each value: it is enough to go through the firsts

module _ {X Y : Type 0} (f : X → List Y) where
  -- what is made of the values seen was seen
  abbrev Covers : List Y → List X → Type 0
  Covers ss seen = (x : X) → StandsIn seen x → Inside (f x) ss

  pub joined_firsts : (xs seen ys : List X) (ss zs : List Y) → AreFirstsAfter xs seen ys → Covers ss seen → AreFirstsAfter (joined (map f ys)) ss zs → AreFirstsAfter (joined (map f xs)) ss zs
  joined_firsts [] seen ys ss zs (none a) covers g = g
  joined_firsts (x ∷ xs) seen ys ss zs (again a b c d h r) covers g = firsts_known (f x) (joined (map f xs)) ss zs (covers x h) (joined_firsts xs seen ys ss zs r covers g)
  joined_firsts (x ∷ xs) seen ys ss zs (first a b c d h r) covers g =
      let s = firsts_split (f x) (joined (map f d)) ss zs g in
      let more : Covers (ss ++ s.front) (x ∷ seen) = λ w there. covered s.front s.before w (stands_cases x w seen there) in
      subst (λ us. AreFirstsAfter (f x ++ joined (map f xs)) ss us) (sym s.whole)
      (firsts_append (f x) (joined (map f xs)) ss s.front s.rest s.before (joined_firsts xs (x ∷ seen) d (ss ++ s.front) s.rest r more s.after))
    where
      covered : (front : List Y) → AreFirstsAfter (f x) ss front → (w : X) → (x ≡ w) ⊎ StandsIn seen w → Inside (f w) (ss ++ front)
      covered front before w (inl e) y there = elim (firsts_there (f x) ss front before y (subst (λ v. StandsIn (f v) y) (sym e) there)) [
        | inl old ↦ stands_left ss front y old
        | inr new ↦ stands_right ss front y new
      ]
      covered front before w (inr s) y there = stands_left ss front y (covers w s y there)

module _ {X Y : Type 0} (f : X → Y) where
  joined_single : (xs : List X) → joined (map (λ x. f x ∷ []) xs) ≡ map f xs
  joined_single [] = refl
  joined_single (x ∷ xs) = ap (λ ys. f x ∷ ys) (joined_single xs)

  pub map_firsts : (xs ys : List X) (ss zs : List Y) → AreFirsts xs ys → AreFirstsAfter (map f ys) ss zs → AreFirstsAfter (map f xs) ss zs
  map_firsts xs ys ss zs r g =
      subst (λ us. AreFirstsAfter us ss zs) (joined_single xs)
      (joined_firsts (λ x. f x ∷ []) xs [] ys ss zs r (λ x s. absurd (stands_none x s)) (subst (λ us. AreFirstsAfter us ss zs) (sym (joined_single ys)) g))

  -- different values are made of different ones
  pub firsts_map : (P : X → Type 0) → ((a b : X) → P a → P b → f a ≡ f b → a ≡ b) → (xs seen ys : List X)
      → ((x : X) → StandsIn xs x → P x) → ((x : X) → StandsIn seen x → P x) → AreFirstsAfter xs seen ys → AreFirstsAfter (map f xs) (map f seen) (map f ys)
  firsts_map P apart [] seen ys all known (none a) = none (map f seen)
  firsts_map P apart (x ∷ xs) seen ys all known (again a b c d h r) =
      again (f x) (map f xs) (map f seen) (map f ys) (stands_map f seen x h) (firsts_map P apart xs seen ys (λ z s. all z (stands_later x z xs s)) known r)
  firsts_map P apart (x ∷ xs) seen ys all known (first a b c d h r) =
      let here : P x = all x (stands_first x x xs refl) in
      first (f x) (map f xs) (map f seen) (map f d)
      (λ s. let i = map_stands f seen (f x) s in h (subst (λ z. StandsIn seen z) (apart i.source x (known i.source i.stands) here i.made) i.stands))
      (firsts_map P apart xs (x ∷ seen) d (λ z s. all z (stands_later x z xs s)) (λ z s. still here z (stands_cases x z seen s)) r)
    where
      still : P x → (z : X) → (x ≡ z) ⊎ StandsIn seen z → P z
      still here z (inl e) = subst P e here
      still here z (inr s) = known z s

-- a list of less than two values has no doubles
pub firsts_few : {X : Type 0} (xs : List X) → length xs < 2 → AreFirsts xs xs
firsts_few [] h = none []
firsts_few (x ∷ []) h = first x [] [] [] (stands_none x) (none (x ∷ []))
firsts_few (x ∷ y ∷ ys) h = absurd (omega (arith, h))
