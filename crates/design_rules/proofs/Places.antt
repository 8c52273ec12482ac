-- A part that keeps places comes to each link that it reaches at one place of its lap, and with numbers that rise along its
-- order as many of its links stand before that link.
use Rattle.design_rules.proofs.Prelude.{◌≡◌, ℕ, ◌+◌, ◌%◌, ◌<◌, ◌≤◌, inl, inr, List, [], ◌∷◌, ◌++◌, length, false, ◌&&◌, nat_lt, IsTrue, refl, sym, ap, subst, ◌∙◌, arith, ltb-true, lt-ltb, cases_Bool, cases_eq, cases_lt, cases_order, and_parts, and_from, false≢true, mod_below, mod-eq_of_lt, mod-le, has, IsRun, end_of, part_at, Shape, is_end, IsWellFormed, RunsTo, part_form, IsReachedAt, count_below, links_of, ReachesLink, place_after, SamePlace, KeepsPlaces, MustPrecede, place_of}
use Rattle.design_rules.proofs.Counts.{count_placed, count_strict, count_push_more, count_push_same}
use Rattle.design_rules.proofs.Runs.{possible_after, run_induction, possible_within}
use Rattle.design_rules.proofs.Shapes.{some_link}

-- what stands throughout
pub record Keeping (shape : Shape) (i : ℕ) : Type 0 where
  pub form : IsWellFormed shape
  pub keeps : KeepsPlaces shape i

-- the same place has one link
pub one_link_at : (shape : Shape) (i l m : ℕ) (s t : List ℕ) (e f : ℕ) → KeepsPlaces shape i → ReachesLink shape i l s e → ReachesLink shape i m t f → SamePlace shape i s t → l ≡ m
one_link_at shape i l m s t e f keeps a b = (keeps l m s t e f a b).1

-- the same link has one place
pub one_place_of : (shape : Shape) (i l : ℕ) (s t : List ℕ) (e f : ℕ) → KeepsPlaces shape i → ReachesLink shape i l s e → ReachesLink shape i l t f → SamePlace shape i s t
one_place_of shape i l s t e f keeps a b = (keeps l l s t e f a b).0 refl

-- ---- earlier places

pub reached_at : (shape : Shape) (i l : ℕ) (s : List ℕ) (e : ℕ) → ReachesLink shape i l s e → IsReachedAt shape i (place_after shape s) l
reached_at shape i l s e a = record { run = s; event = e; reaches = a; place = refl }

-- at each earlier place the part reached some link
pub earlier : (shape : Shape) (i : ℕ) → IsWellFormed shape → (s : List ℕ) → RunsTo shape i s → (q : ℕ) → q < place_after shape s → (l : ℕ) × IsReachedAt shape i q l
earlier shape i w s runs = run_induction (part_at shape.parts i).table (λ u. (q : ℕ) → q < place_after shape u → (l : ℕ) × IsReachedAt shape i q l) (λ q h. absurd (omega arith)) step s runs.follows
  where
    step : (u : List ℕ) (e : ℕ) → IsRun (part_at shape.parts i).table u → IsTrue (possible_after (part_at shape.parts i).table u e) → ((q : ℕ) → q < place_after shape u → (l : ℕ) × IsReachedAt shape i q l) → (q : ℕ) → q < place_after shape (u ++ e ∷ []) → (l : ℕ) × IsReachedAt shape i q l
    step u e r possible rest q h =
        elim (cases_Bool (has shape.vocabulary e)) [
          | inl v ↦
              let more : place_after shape (u ++ e ∷ []) ≡ place_after shape u + 1 = count_push_more shape.vocabulary u e v in
              elim (cases_eq q (place_after shape u)) [
                | inl now ↦
                    let owned = possible_within (part_at shape.parts i) (end_of (part_at shape.parts i).table 0 u) e (part_form shape.parts i runs.part w.form) possible in
                    let l = some_link shape i e w runs.part owned v in
                    (l.0, record { run = u; event = e; reaches = record { possible = record { runs = record { part = runs.part; follows = r }; next = possible }; on = l.1 }; place = sym now })
                | inr before ↦ rest q (omega arith)
              ]
          | inr hidden ↦
              let same : place_after shape (u ++ e ∷ []) ≡ place_after shape u = count_push_same shape.vocabulary u e hidden in
              rest q (omega arith)
        ]

-- a part with a link has some links
pub some_links : (shape : Shape) (i l : ℕ) → l < length shape.links → IsTrue (is_end shape i l) → 0 < links_of shape i
some_links shape i l h end =
    let more : count_below (λ m. false && is_end shape i m) (length shape.links) < links_of shape i =
    count_strict (λ m. false && is_end shape i m) (λ m. is_end shape i m) (length shape.links) l (λ m _ k. absurd (false≢true k)) h refl end in
    omega arith

-- a link that is reached is reached in the first lap, at its own place
pub first_lap : (shape : Shape) (i l : ℕ) (s : List ℕ) (e : ℕ) → Keeping shape i → ReachesLink shape i l s e → IsReachedAt shape i (place_after shape s % links_of shape i) l
first_lap shape i l s e g a =
    let k = links_of shape i in
    let c = place_after shape s in
    let some : 0 < links_of shape i = some_links shape i l a.on.within a.on.end in
    let below : place_after shape s % links_of shape i < links_of shape i = mod_below (place_after shape s) (links_of shape i) some in
    elim (cases_lt (place_after shape s % links_of shape i) (place_after shape s)) [
      | inl less ↦
          let x = earlier shape i g.form s a.possible.runs (place_after shape s % links_of shape i) less in
          let same : SamePlace shape i x.1.run s = ap (λ n. n % links_of shape i) x.1.place ∙ mod-eq_of_lt below in
          subst (IsReachedAt shape i (place_after shape s % links_of shape i)) (one_link_at shape i x.0 l x.1.run s x.1.event e g.keeps x.1.reaches a same) x.1
      | inr most ↦
          let small : place_after shape s < links_of shape i = lap_zero (place_after shape s) (links_of shape i) (omega arith) below in
          subst (λ q. IsReachedAt shape i q l) (sym (mod-eq_of_lt small)) (reached_at shape i l s e a)
    ]
  where
    lap_zero : (c k : ℕ) → c ≤ c % k → c % k < k → c < k
    lap_zero c k h b = omega arith

-- a link that is reached at a place of the first lap is reached at no earlier place
pub no_earlier : (shape : Shape) (i l q : ℕ) (t : List ℕ) (f : ℕ) → Keeping shape i → q < links_of shape i → IsReachedAt shape i q l → ReachesLink shape i l t f → (place_after shape t % links_of shape i ≡ q) × (q ≤ place_after shape t)
no_earlier shape i l q t f g below x a =
    let same : SamePlace shape i t x.run = one_place_of shape i l t x.run f x.event g.keeps a x.reaches in
    let is : place_after shape t % links_of shape i ≡ q = same ∙ ap (λ n. n % links_of shape i) x.place ∙ mod-eq_of_lt below in
    (is, least (place_after shape t) (links_of shape i) q is)
  where
    least : (c k q : ℕ) → c % k ≡ q → q ≤ c
    least c k q h = let r : c % k ≤ c = mod-le c k in omega arith

-- ---- numbers that rise

-- the numbers rise along the order of the part
abbrev pub RiseAt : Shape → ℕ → (ℕ → ℕ) → Type 0
RiseAt shape i number = (l m : ℕ) → (before : MustPrecede shape l m) → before.part ≡ i → number l < number m

-- of two links that are reached in the first lap, the one at the earlier place must come before the other
pub precedes : (shape : Shape) (i q r l m : ℕ) → Keeping shape i → q < r → r < links_of shape i → IsReachedAt shape i q l → IsReachedAt shape i r m → MustPrecede shape l m
precedes shape i q r l m g less below x y = record {
  part = i;
  run = x.run;
  event = x.event;
  reaches = x.reaches;
  within = y.reaches.on.within;
  end = y.reaches.on.end;
  later = λ t f a. let at = no_earlier shape i m r t f g below y a in let more : r ≤ place_after shape t = at.1 in let place : place_after shape x.run ≡ q = x.place in omega arith;
}

-- a link of the part that is at no place up to that of l must come after l
pub precedes_rest : (shape : Shape) (i p l m : ℕ) → Keeping shape i → p < links_of shape i → IsReachedAt shape i p l → m < length shape.links → IsTrue (is_end shape i m) → (l ≡ m → ⊥) → ((q : ℕ) → q < p → IsReachedAt shape i q m → ⊥) → MustPrecede shape l m
precedes_rest shape i p l m g below x within end other none = record {
  part = i;
  run = x.run;
  event = x.event;
  reaches = x.reaches;
  within = within;
  end = end;
  later = λ t f a. let place : place_after shape x.run ≡ p = x.place in let after : p < place_after shape t = later t f a in omega arith;
}
  where
    later : (t : List ℕ) (f : ℕ) → ReachesLink shape i m t f → p < place_after shape t
    later t f a =
        let y = first_lap shape i m t f g a in
        let r : place_after shape t % links_of shape i ≤ place_after shape t = mod-le (place_after shape t) (links_of shape i) in
        elim (cases_order (place_after shape t % links_of shape i) p) [
          | inl same ↦ absurd (other (one_link_at shape i l m x.run t x.event f g.keeps x.reaches a (ap (λ n. n % links_of shape i) x.place ∙ mod-eq_of_lt below ∙ sym same)))
          | inr order ↦ elim order [ inl less ↦ absurd (none (place_after shape t % links_of shape i) less y) | inr more ↦ omega arith ]
        ]

-- the place of a reached link by the numbers is the place where it is reached
pub place_is : (shape : Shape) (number : ℕ → ℕ) (i l : ℕ) (s : List ℕ) (e : ℕ) → Keeping shape i → RiseAt shape i number → ReachesLink shape i l s e → place_of shape number i l ≡ place_after shape s % links_of shape i
unfolding precedes precedes_rest
place_is shape number i l s e g rise a =
    let p = place_after shape s % links_of shape i in
    let below : place_after shape s % links_of shape i < links_of shape i = mod_below (place_after shape s) (links_of shape i) (some_links shape i l a.on.within a.on.end) in
    let own = first_lap shape i l s e g a in
    count_placed (λ m. is_end shape i m && nat_lt (number m) (number l)) (length shape.links) (λ q m. IsReachedAt shape i q m) p
    (record {
      some = λ q h. earlier shape i g.form own.run own.reaches.possible.runs q (let place : place_after shape own.run ≡ place_after shape s % links_of shape i = own.place in omega arith);
      one = λ q m n h x y. one_link_at shape i m n x.run y.run x.event y.event g.keeps x.reaches y.reaches (ap (λ c. c % links_of shape i) (x.place ∙ sym y.place));
      apart = λ q r m h k x y. sym (mod-eq_of_lt (below_lap q h below)) ∙ sym (ap (λ c. c % links_of shape i) x.place) ∙ one_place_of shape i m x.run y.run x.event y.event g.keeps x.reaches y.reaches ∙ ap (λ c. c % links_of shape i) y.place ∙ mod-eq_of_lt (below_lap r k below);
      passes = λ q m h x. (x.reaches.on.within, and_from _ _ x.reaches.on.end (lt-ltb (number m) (number l) (rise m l (precedes shape i q p m l g h below x own) refl)));
      only = λ m h test none. let parts = and_parts (is_end shape i m) (nat_lt (number m) (number l)) test in not_above m h parts.0 (ltb-true (number m) (number l) parts.1) below own none;
    })
  where
    below_lap : (q : ℕ) → q < place_after shape s % links_of shape i → place_after shape s % links_of shape i < links_of shape i → q < links_of shape i
    below_lap q h b = omega arith

    not_above : (m : ℕ) → m < length shape.links → IsTrue (is_end shape i m) → number m < number l → place_after shape s % links_of shape i < links_of shape i → IsReachedAt shape i (place_after shape s % links_of shape i) l → ((q : ℕ) → q < place_after shape s % links_of shape i → IsReachedAt shape i q m → ⊥) → ⊥
    not_above m h end less below own none =
        let more : number l < number m = rise l m (precedes_rest shape i (place_after shape s % links_of shape i) l m g below own h end (λ same. let e : number l ≡ number m = ap number same in omega arith) none) refl in
        omega arith

-- links of a part share a number only where it reaches none of them
pub reached_differ : (shape : Shape) (number : ℕ → ℕ) (i l m : ℕ) (s : List ℕ) (e : ℕ) → Keeping shape i → RiseAt shape i number → ReachesLink shape i l s e → m < length shape.links → IsTrue (is_end shape i m) → (l ≡ m → ⊥) → number l ≡ number m → ⊥
unfolding precedes precedes_rest
reached_differ shape number i l m s e g rise a h end other same =
    let below : place_after shape s % links_of shape i < links_of shape i = mod_below (place_after shape s) (links_of shape i) (some_links shape i l a.on.within a.on.end) in
    let own = first_lap shape i l s e g a in
    let none = λ (q : ℕ) (less : q < place_after shape s % links_of shape i) (x : IsReachedAt shape i q m). let before : number m < number l = rise m l (precedes shape i q (place_after shape s % links_of shape i) m l g less below x own) refl in lower before in
    let after : number l < number m = rise l m (precedes_rest shape i (place_after shape s % links_of shape i) l m g below own h end other none) refl in
    omega arith
  where
    lower : number m < number l → ⊥
    lower before = omega arith
