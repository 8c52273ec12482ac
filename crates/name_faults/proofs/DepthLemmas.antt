-- Depths by rounds: they are those of the definition, and once a round changes nothing no later one does.
use Rattle.name_faults.proofs.Prelude.{◌≡◌, ℕ, zero, suc, ◌+◌, ◌-◌, ◌≤◌, ◌<◌, max, min, Bool, true, IsTrue, ◌↔◌, Option, Some, None, List, [], ◌∷◌, ◌++◌, map, slice_get, slice_index, nat_lt, add-one, refl, sym, ap, ◌∙◌, subst, arith, lt-ltb, ltb-true, ltb_from_iff, slice_get-map, flat_map, option_map, below, deepest, depth_within, reach, said_by, Name, Occurrence, Binds, Notes, Uses, Form, Parallel, Declares, Body, body_of, greatest_level, level_of, use_of, used, deepest_if, deepest_of, deepest_use, Entity, Use, Sense, AreWithin, within}

-- how deep what a body says reaches, from what is kept of it
module _ (f : ℕ → ℕ) where
  deepest_use-append : (us vs : List (ℕ × ℕ)) → deepest_use f (us ++ vs) ≡ max (deepest_use f us) (deepest_use f vs)
  deepest_use-append [] vs = omega arith
  deepest_use-append (u ∷ us) vs =
      let rest : deepest_use f (us ++ vs) ≡ max (deepest_use f us) (deepest_use f vs) = deepest_use-append us vs in
      omega arith

  use_reaches : (s : Sense) (level : ℕ) → level + below f s ≡ max level (deepest_use f (used s level))
  use_reaches Sense.Bound level = omega arith
  use_reaches (Sense.Declared (Entity.Channel c n)) level = omega arith
  use_reaches (Sense.Declared (Entity.Constant k)) level = omega arith
  use_reaches (Sense.Declared (Entity.Definition d n)) level = omega arith
  use_reaches (Sense.Declared (Entity.Set d)) level = omega arith
  use_reaches Sense.Unknown level = omega arith

  reaches : (o : Occurrence Name) → reach f o ≡ max (level_of o) (deepest_use f (use_of o))
  reaches (Declares x b) = refl
  reaches (Binds x b) = refl
  reaches (Notes x b) = refl
  reaches (Uses x s (Use.Alone place)) = use_reaches s place.level
  reaches (Uses x s (Use.Called n place)) = use_reaches s place.level
  reaches (Uses x s (Use.Dotted n)) = refl
  reaches (Uses x s (Use.Heads n)) = refl
  reaches (Uses x s (Use.Begins n)) = refl
  reaches (Uses x s (Use.Renamed n new m)) = refl
  reaches (Uses x s Use.Annotated) = refl
  reaches (Uses x s (Use.Annotates process)) = refl
  reaches (Form c place) = omega arith
  reaches (Parallel place) = omega arith

  deepest_is : (os : List (Occurrence Name)) → deepest_of f (body_of os) ≡ deepest f os
  deepest_is [] = refl
  deepest_is (o ∷ os) =
      let rest : max (greatest_level os) (deepest_use f (flat_map use_of os)) ≡ deepest f os = deepest_is os in
      let here : reach f o ≡ max (level_of o) (deepest_use f (use_of o)) = reaches o in
      let both : deepest_use f (use_of o ++ flat_map use_of os) ≡ max (deepest_use f (use_of o)) (deepest_use f (flat_map use_of os)) = deepest_use-append (use_of o) (flat_map use_of os) in
      omega arith

  deepest_if_is : (o : Option (List (Occurrence Name))) → deepest_if f (option_map body_of o) ≡ deepest f (said_by o)
  deepest_if_is None = refl
  deepest_if_is (Some os) = deepest_is os

pub depth_is : (n : ℕ) (bodies : List (List (Occurrence Name))) (d : ℕ) → within n (map body_of bodies) d ≡ depth_within n bodies d
unfolding within
depth_is zero bodies d = refl
depth_is (suc n) bodies d =
    let depths : within n (map body_of bodies) ≡ depth_within n bodies = λ i e. depth_is n bodies e i in
    ap (deepest_if (within n (map body_of bodies))) (slice_get-map body_of bodies d)
    ∙ deepest_if_is (within n (map body_of bodies)) (slice_get bodies d)
    ∙ ap (λ (f : ℕ → ℕ). deepest f (said_by (slice_get bodies d))) depths

-- depths that are counted as far as a limit
module _ (limit : ℕ) where
  module _ (f g : ℕ → ℕ) (same : (d : ℕ) → min (f d) limit ≡ min (g d) limit) where
    uses_agree : (us : List (ℕ × ℕ)) → min (deepest_use f us) limit ≡ min (deepest_use g us) limit
    uses_agree [] = refl
    uses_agree (u ∷ us) =
        let here : min (f u.0) limit ≡ min (g u.0) limit = same u.0 in
        let rest : min (deepest_use f us) limit ≡ min (deepest_use g us) limit = uses_agree us in
        omega arith

    bodies_agree : (b : Body) → min (deepest_of f b) limit ≡ min (deepest_of g b) limit
    bodies_agree b =
        let rest : min (deepest_use f b.uses) limit ≡ min (deepest_use g b.uses) limit = uses_agree b.uses in
        omega arith

    round_at : (bodies : List Body) (d : ℕ) → slice_index (map (λ b. min (deepest_of f b) limit) bodies) d ≡ min (deepest_if g (slice_get bodies d)) limit
    round_at [] zero = omega arith
    round_at [] (suc d) = omega arith
    round_at (b ∷ bodies) zero = bodies_agree b
    round_at (b ∷ bodies) (suc d) = round_at bodies d

  -- a round over these depths
  abbrev round : List ℕ → List Body → List ℕ
  round depths bodies = map (λ b. min (deepest_of (λ d. slice_index depths d) b) limit) bodies

  index_nothing : (d : ℕ) → slice_index [] d ≡ min 0 limit
  index_nothing zero = omega arith
  index_nothing (suc d) = omega arith

  no_round : (bodies : List Body) → AreWithin limit 0 bodies []
  unfolding AreWithin within
  no_round bodies d = index_nothing d

  capped_twice : (x y : ℕ) → x ≡ min y limit → min x limit ≡ min y limit
  capped_twice x y h = omega arith

  -- one more round
  next_depths : (n : ℕ) (bodies : List Body) (depths next : List ℕ) → AreWithin limit n bodies depths → next ≡ round depths bodies
      → AreWithin limit (suc n) bodies next
  unfolding AreWithin within
  next_depths n bodies depths next are made d =
      ap (λ (xs : List ℕ). slice_index xs d) made
      ∙ round_at (λ d. slice_index depths d) (within n bodies) (λ e. capped_twice (slice_index depths e) (within n bodies e) (are e)) bodies d

  -- a round that changes nothing
  stay_so : (k n : ℕ) (bodies : List Body) (depths : List ℕ) → AreWithin limit n bodies depths → depths ≡ round depths bodies
      → AreWithin limit (k + n) bodies depths
  stay_so zero n bodies depths are fixed =
      let P : ℕ → Type 0 = λ m. AreWithin limit m bodies depths in let e : n ≡ 0 + n = omega arith in subst P e are
  stay_so (suc k) n bodies depths are fixed =
      let P : ℕ → Type 0 = λ m. AreWithin limit m bodies depths in
      let e : suc (k + n) ≡ suc k + n = omega arith in
      subst P e (next_depths (k + n) bodies depths depths (stay_so k n bodies depths are fixed) fixed)

  pub depths_stay : (n m : ℕ) (bodies : List Body) (depths next slice a b : List ℕ) (r : Bool) → n ≤ m → AreWithin limit n bodies depths → slice ≡ depths
      → next ≡ round slice bodies → a ≡ next → b ≡ depths → (IsTrue r ↔ (a ≡ b)) → r ≡ true → AreWithin limit m bodies depths
  depths_stay n m bodies depths next slice a b r within_m are slice_is made a_is b_is test holds =
      let P : ℕ → Type 0 = λ k. AreWithin limit k bodies depths in
      let e : (m - n) + n ≡ m = omega arith in
      let same : depths ≡ next = sym b_is ∙ sym (test.0 holds) ∙ a_is in
      let fixed : depths ≡ round depths bodies = same ∙ made ∙ ap (λ (xs : List ℕ). round xs bodies) slice_is in
      subst P e (stay_so (m - n) n bodies depths are fixed)

  pub depths_along : (n : ℕ) (b1 b2 : List Body) (d1 d2 : List ℕ) → AreWithin limit n b1 d1 → b1 ≡ b2 → d2 ≡ d1 → AreWithin limit n b2 d2
  depths_along n b1 b2 d1 d2 are bodies depths =
      subst (λ (ds : List ℕ). AreWithin limit n b2 ds) (sym depths) (subst (λ (bs : List Body). AreWithin limit n bs d1) bodies are)

  pub first_depths : (bodies : List Body) (depths : List ℕ) → depths ≡ [] → AreWithin limit 0 bodies depths
  first_depths bodies depths none = subst (AreWithin limit 0 bodies) (sym none) (no_round bodies)

  pub more_depths : (n : ℕ) (bodies : List Body) (depths next slice : List ℕ) → AreWithin limit n bodies depths → slice ≡ depths
      → next ≡ round slice bodies → AreWithin limit (n + 1) bodies next
  more_depths n bodies depths next slice are slice_is made =
      rw add-one (next_depths n bodies depths next are (made ∙ ap (λ (xs : List ℕ). round xs bodies) slice_is))

-- whether a depth is over the most is seen as far as one more
module _ (most : ℕ) where
  above : (x : ℕ) → nat_lt most x ≡ true → most < min x (most + 1)
  above x h = let k : most < x = ltb-true most x h in omega arith

  below_it : (x : ℕ) → most < min x (most + 1) → nat_lt most x ≡ true
  below_it x h = let k : most < x = omega arith in lt-ltb most x k

  over_is : (x : ℕ) → nat_lt most x ≡ nat_lt most (min x (most + 1))
  over_is x = ltb_from_iff {b = nat_lt most x} {m = most} {n = min x (most + 1)} (above x, below_it x)

  pub over_depth : (n : ℕ) (bodies : List (List (Occurrence Name))) (depths : List ℕ) (d : ℕ) → AreWithin (most + 1) n (map body_of bodies) depths
      → nat_lt most (depth_within n bodies d) ≡ nat_lt most (slice_index depths d)
  unfolding AreWithin
  over_depth n bodies depths d are =
      over_is (depth_within n bodies d) ∙ ap (λ x. nat_lt most x) (ap (λ x. min x (most + 1)) (sym (depth_is n bodies d)) ∙ sym (are d))
