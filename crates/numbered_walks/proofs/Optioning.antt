-- The marked components and the marked events are the options of a state, in their order.
use Rattle.numbered_walks.proofs.Prelude.{◌≡◌, ◌↔◌, ℕ, zero, suc, ◌+◌, ◌-◌, ◌<◌, ◌≤◌, ◌⊎◌, inl, inr, Bool, true, false, nat_eq, List, [], ◌∷◌, ◌++◌, length, map, take, get_or, slice_get, Some, refl, ap, subst, ◌∙◌, arith, option_map, eq-eqb, eqb-true, none-some, same_Some, length-append, length-map, slice_get-map, slice_get_within, mark_count, marked, AreOptions, IsBefore, options, HasNone, Move, slice_get-append_left, StandsIn}
use Rattle.numbered_walks.proofs.Places.{as_many, marked_is, place_of_mark, places_rise}
use Rattle.numbered_walks.specs.declared.moves.Move.TheVariants as move

back_at : {X : Type 0} (xs ys : List X) (k : ℕ) (v : X) → slice_get ys k ≡ Some v → slice_get (xs ++ ys) (length xs + k) ≡ Some v
back_at [] ys k v at = let place : k ≡ 0 + k = omega arith in subst (λ j. slice_get ys j ≡ Some v) place at
back_at (x ∷ xs) ys k v at = let place : suc (length xs + k) ≡ suc (length xs) + k = omega arith in subst (λ j. slice_get (x ∷ xs ++ ys) j ≡ Some v) place (back_at xs ys k v at)

mapped_at : {X Y : Type 0} (f : X → Y) (xs : List X) (k : ℕ) (v : X) → slice_get xs k ≡ Some v → slice_get (map f xs) k ≡ Some (f v)
mapped_at f xs k v at = slice_get-map f xs k ∙ ap (option_map f) at

-- a value of two lists stands in one of them
record InBack {X : Type 0} (xs ys : List X) (k : ℕ) (v : X) : Type 0 where
  place : ℕ
  is : k ≡ length xs + place
  at : slice_get ys place ≡ Some v

split_at : {X : Type 0} (xs ys : List X) (k : ℕ) (v : X) → slice_get (xs ++ ys) k ≡ Some v → (slice_get xs k ≡ Some v) ⊎ InBack xs ys k v
split_at [] ys k v at = inr (record { place = k; is = omega arith; at = at })
split_at (x ∷ xs) ys zero v at = inl at
split_at (x ∷ xs) ys (suc k) v at = elim (split_at xs ys k v at) [
  | inl front ↦ inl front
  | inr back ↦ inr (record { place = back.place; is = (let is = back.is in omega (arith, is)); at = back.at })
]

record Mapped {X Y : Type 0} (f : X → Y) (xs : List X) (k : ℕ) (v : Y) : Type 0 where
  value : X
  at : slice_get xs k ≡ Some value
  is : f value ≡ v

mapped_from : {X Y : Type 0} (f : X → Y) (xs : List X) (k : ℕ) (v : Y) → slice_get (map f xs) k ≡ Some v → Mapped f xs k v
mapped_from f [] k v at = absurd (none-some v at)
mapped_from f (x ∷ xs) zero v at = record { value = x; at = refl; is = same_Some (f x) v at }
mapped_from f (x ∷ xs) (suc k) v at = let rest = mapped_from f xs k v at in record { value = rest.value; at = rest.at; is = rest.is }

module _ (restless agreed : List Bool) where
  abbrev silents : List Move
  silents = map (λ i. move.Silent i) (marked restless)

  abbrev events : List Move
  events = map (λ e. move.Event e) (marked agreed)

  silent_count : length silents ≡ mark_count restless
  silent_count = length-map (marked restless) (λ i. move.Silent i) ∙ as_many 0 restless

  event_count : length events ≡ mark_count agreed
  event_count = length-map (marked agreed) (λ e. move.Event e) ∙ as_many 0 agreed

  pub option_count : length (options restless agreed) ≡ mark_count restless + mark_count agreed
  option_count = let all = length-append silents events in let s = silent_count in let e = event_count in omega (arith, all, s, e)

  pub silent_option : (k i : ℕ) → slice_get (marked restless) k ≡ Some i → slice_get (options restless agreed) k ≡ Some (move.Silent i)
  silent_option k i at = slice_get-append_left silents events k (move.Silent i) (mapped_at (λ i. move.Silent i) (marked restless) k i at)

  pub event_option : (k e : ℕ) → mark_count restless ≤ k → slice_get (marked agreed) (k - mark_count restless) ≡ Some e → slice_get (options restless agreed) k ≡ Some (move.Event e)
  event_option k e low at =
      let there = back_at silents events (k - mark_count restless) (move.Event e) (mapped_at (λ e. move.Event e) (marked agreed) (k - mark_count restless) e at) in
      let place : length silents + (k - mark_count restless) ≡ k = (let s = silent_count in omega (arith, s, low)) in
      subst (λ j. slice_get (options restless agreed) j ≡ Some (move.Event e)) place there

  module _ (Has : Move → Type 0) (silent : (i : ℕ) → (get_or restless i false ≡ true) ↔ Has (move.Silent i)) (event : (e : ℕ) → (get_or agreed e false ≡ true) ↔ Has (move.Event e)) where
    pub sound : (m : Move) (k : ℕ) → slice_get (options restless agreed) k ≡ Some m → Has m
    sound m k at = elim (split_at silents events k m at) [
      | inl front ↦ let from = mapped_from (λ i. move.Silent i) (marked restless) k m front in subst Has from.is ((silent from.value).0 (marked_is restless k from.value from.at))
      | inr back ↦ let from = mapped_from (λ e. move.Event e) (marked agreed) back.place m back.at in subst Has from.is ((event from.value).0 (marked_is agreed back.place from.value from.at))
    ]

    complete : (m : Move) → Has m → StandsIn (options restless agreed) m
    complete (move.Silent i) h = (mark_count (take i restless), silent_option (mark_count (take i restless)) i (place_of_mark restless i ((silent i).1 h)))
    complete (move.Event e) h =
        let place = mark_count (take e agreed) in
        (length silents + place, back_at silents events place (move.Event e) (mapped_at (λ e. move.Event e) (marked agreed) place e (place_of_mark agreed e ((event e).1 h))))

    order : (j k : ℕ) (m n : Move) → j < k → slice_get (options restless agreed) j ≡ Some m → slice_get (options restless agreed) k ≡ Some n → IsBefore m n
    order j k m n less at there = elim (split_at silents events j m at) [
      | inl front ↦ elim (split_at silents events k n there) [
        | inl front-2 ↦
            let from = mapped_from (λ i. move.Silent i) (marked restless) j m front in
            let to = mapped_from (λ i. move.Silent i) (marked restless) k n front-2 in
            subst (λ (x : Move). IsBefore x n) from.is (subst (λ (y : Move). IsBefore (move.Silent from.value) y) to.is (places_rise 0 restless j k from.value to.value less from.at to.at))
        | inr back ↦
            let from = mapped_from (λ i. move.Silent i) (marked restless) j m front in
            let to = mapped_from (λ e. move.Event e) (marked agreed) back.place n back.at in
            subst (λ (x : Move). IsBefore x n) from.is (subst (λ (y : Move). IsBefore (move.Silent from.value) y) to.is tt)
      ]
      | inr back ↦ elim (split_at silents events k n there) [
        | inl front ↦ absurd (let low = back.is in let high = slice_get_within silents k n front in omega (arith, low, high, less))
        | inr back-2 ↦
            let from = mapped_from (λ e. move.Event e) (marked agreed) back.place m back.at in
            let to = mapped_from (λ e. move.Event e) (marked agreed) back-2.place n back-2.at in
            let later : back.place < back-2.place = (let a = back.is in let b = back-2.is in omega (arith, a, b, less)) in
            subst (λ (x : Move). IsBefore x n) from.is (subst (λ (y : Move). IsBefore (move.Event from.value) y) to.is (places_rise 0 agreed back.place back-2.place from.value to.value later from.at to.at))
      ]
    ]

    pub options_are : AreOptions Has (options restless agreed)
    options_are = record { sound = λ m at. sound m at.0 at.1; complete = complete; order = order }

    -- the state is stuck exactly where there are so many as none
    pub none_left : (n : ℕ) → n ≡ length (options restless agreed) → (nat_eq n 0 ≡ true) ↔ HasNone Has
    none_left n count = (
      λ zero m h. let at = complete m h in omega (arith, slice_get_within (options restless agreed) at.0 m at.1, count, eqb-true n 0 zero),
      λ none. eq-eqb n 0 (count ∙ empty (options restless agreed) (λ k m at. none m (sound m k at))),
    )
      where
        empty : (ms : List Move) → ((k : ℕ) (m : Move) → slice_get ms k ≡ Some m → ⊥) → length ms ≡ 0
        empty [] none = refl
        empty (m ∷ ms) none = absurd (none 0 m refl)
