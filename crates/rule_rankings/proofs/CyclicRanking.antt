-- The ranks and the laps of a cyclic network.
use Rattle.rule_rankings.proofs.Prelude.{◌≡◌, ℕ, zero, suc, ◌+◌, ◌<◌, ◌≤◌, inl, inr, pos, List, [], ◌∷◌, ◌++◌, length, get_or, Bool, ◌&&◌, cond, max, IsTrue, nat_eq, nat_lt, sym, ap, subst, ◌∙◌, arith, eq-eqb, ne_eqb, lt-ltb, length-append, get_or_append_left, get_or-append_seam, cases_Bool, cases_eq, cases_lt, cond-true, cond-false, and_from, both_ways, get_or_from_slice_get, slice_get_within, has, node_at, is_possible, part_at, alphabets_of, TripleDisjoint, Shape, is_end, IsWellFormed, Ranking, count_below, above_all, links_of, ReachesLink, AllKeepPlaces, NumbersRise, place_of, ends_lap, AreCyclicRanks, ends_of, slice_index, AreTops, IsGreatest, IsLap, AreAllRanked, IsRanked, ends_sound, ends_complete, has_place, place_in, some_at, on_one, count_mono, link_shared, reached_differ, earlier_place, place_below}
use Rattle.rule_rankings.proofs.RowsBelow.{fits, rank_is, others_zero, lap_is, lap_none, possible_node}
use Rattle.rule_rankings.specs.CyclicRanks.{IsRank}

-- ---- the greatest number

pub record IsGreatestBelow (number : ℕ → ℕ) (links : List ℕ) (n top : ℕ) : Type 0 where
  pub above : (k : ℕ) → k < n → number (get_or links k 0) ≤ top
  pub none : n ≡ 0 → top ≡ 0
  pub attained : 0 < n → (k : ℕ) × (k < n) × (number (get_or links k 0) ≡ top)

pub greatest_more : (number : ℕ → ℕ) (links : List ℕ) (n top new : ℕ) → IsGreatestBelow number links n top → new ≡ max (number (get_or links n 0)) top → IsGreatestBelow number links (n + 1) new
greatest_more number links n top new g is = record {
  above = λ k h. elim (cases_lt k n) [
    | inl old ↦ let small : number (get_or links k 0) ≤ top = g.above k old in omega arith
    | inr now ↦ subst (λ j. number (get_or links j 0) ≤ new) (let same : n ≡ k = omega arith in same) (omega arith)
  ];
  none = λ h. absurd (omega arith);
  attained = λ h. elim (cases_lt (number (get_or links n 0)) top) [
    | inl less ↦ elim (cases_eq n 0) [
      | inl none ↦ absurd (let z : top ≡ 0 = g.none none in omega arith)
      | inr some ↦ let x = g.attained (omega arith) in (x.0, (let b : x.0 < n = x.1 in omega arith), x.2 ∙ (let e : top ≡ new = omega arith in e))
    ]
    | inr most ↦ (n, omega arith, (let e : number (get_or links n 0) ≡ new = omega arith in e))
  ];
}

pub is_greatest : (number : ℕ → ℕ) (links : List ℕ) (n top : ℕ) → length links ≤ n → n ≤ length links → IsGreatestBelow number links n top → IsGreatest number links top
is_greatest number links n top h k g = record {
  above = λ l m. let x = place_in links l m in let w = slice_get_within links x.0 l x.1 in subst (λ j. number j ≤ top) (get_or_from_slice_get links x.0 l 0 x.1) (g.above x.0 (omega arith));
  attained = λ l m.
      let x = place_in links l m in
      let w = slice_get_within links x.0 l x.1 in
      let y = g.attained (omega arith) in
      let b : y.0 < n = y.1 in
      let z = some_at links y.0 (omega arith) in
      (z.0, has_place links y.0 z.0 z.1, sym (ap number (get_or_from_slice_get links y.0 z.0 0 z.1)) ∙ y.2);
}

-- ---- the last place of a lap

counted_most : (f g : ℕ → Bool) (n x : ℕ) → ((m : ℕ) → m < n → IsTrue (f m) → (m ≡ x → ⊥) → IsTrue (g m)) → count_below f n ≤ count_below g n + 1
counted_most f g zero x h = omega arith
counted_most f g (suc n) x h =
    elim (cases_eq n x) [
      | inl here ↦
          let rest : count_below f n ≤ count_below g n = count_mono f g n (λ m l k. h m (omega arith) k (λ same. omega arith)) in
          let a : count_below f (suc n) ≤ count_below f n + 1 = step_most f n in
          let b : count_below g n ≤ count_below g (suc n) = step_least g n in
          omega arith
      | inr other ↦
          let rest : count_below f n ≤ count_below g n + 1 = counted_most f g n x (λ m l k ne. h m (omega arith) k ne) in
          elim (cases_Bool (f n)) [
            | inl k ↦
                let a : count_below f (suc n) ≡ count_below f n + 1 = cond-true (f n) (count_below f n + 1) (count_below f n) k in
                let b : count_below g (suc n) ≡ count_below g n + 1 = cond-true (g n) (count_below g n + 1) (count_below g n) (h n (omega arith) k other) in
                omega arith
            | inr k ↦
                let a : count_below f (suc n) ≡ count_below f n = cond-false (f n) (count_below f n + 1) (count_below f n) k in
                let b : count_below g n ≤ count_below g (suc n) = step_least g n in
                omega arith
          ]
    ]
  where
    step_most : (t : ℕ → Bool) (m : ℕ) → count_below t (suc m) ≤ count_below t m + 1
    step_most t m = elim (cases_Bool (t m)) [ inl k ↦ omega (arith, cond-true (t m) (count_below t m + 1) (count_below t m) k) | inr k ↦ omega (arith, cond-false (t m) (count_below t m + 1) (count_below t m) k) ]

    step_least : (t : ℕ → Bool) (m : ℕ) → count_below t m ≤ count_below t (suc m)
    step_least t m = elim (cases_Bool (t m)) [ inl k ↦ omega (arith, cond-true (t m) (count_below t m + 1) (count_below t m) k) | inr k ↦ omega (arith, cond-false (t m) (count_below t m + 1) (count_below t m) k) ]

module _ (shape : Shape) (number : ℕ → ℕ) (w : IsWellFormed shape) (triple : TripleDisjoint (alphabets_of shape.parts)) (keep : AllKeepPlaces shape) (rise : NumbersRise shape number) where
  -- a reached link ends the lap exactly where it has the greatest number
  last_place : (i l top : ℕ) (s : List ℕ) (e : ℕ) → i < length shape.parts → IsGreatest number (ends_of shape i) top → ReachesLink shape i l s e → cond (nat_eq (number l) top) 1 0 ≡ ends_lap (place_of shape number i l) (links_of shape i)
  last_place i l top s e h g r =
      let below : place_of shape number i l < links_of shape i = place_below shape number i l r.on.within r.on.end in
      let mine = ends_complete shape i (length shape.links) l r.on.within r.on.end in
      let high : number l ≤ top = g.above l mine in
      elim (cases_eq (number l) top) [
        | inl same ↦
            let most : links_of shape i ≤ place_of shape number i l + 1 = counted_most (λ m. is_end shape i m) (λ m. is_end shape i m && nat_lt (number m) (number l)) (length shape.links) l
            (λ m k end ne.
            let small : number m ≤ top = g.above m (ends_complete shape i (length shape.links) m k end) in
            let differ = reached_differ shape number i l m s e (record { form = w; keeps = keep i h }) (λ a b before _. rise a b before) r k end (λ back. ne (sym back)) in
            and_from (is_end shape i m) (nat_lt (number m) (number l)) end (lt-ltb (number m) (number l) (lower (number m) (number l) top small same (λ equal. differ (sym equal))))) in
            let last : place_of shape number i l + 1 ≡ links_of shape i = omega arith in
            cond-true (nat_eq (number l) top) 1 0 (eq-eqb (number l) top same) ∙ sym (cond-true (nat_eq (place_of shape number i l + 1) (links_of shape i)) 1 0 (eq-eqb (place_of shape number i l + 1) (links_of shape i) last))
        | inr other ↦
            let m = g.attained l mine in
            let end = ends_sound shape i (length shape.links) m.0 m.1 in
            let top_is : number m.0 ≡ top = m.2 in
            let later : place_of shape number i l < place_of shape number i m.0 = earlier_place shape number i l m.0 r.on.within r.on.end (omega arith) in
            let bound : place_of shape number i m.0 < links_of shape i = place_below shape number i m.0 end.0 end.1 in
            cond-false (nat_eq (number l) top) 1 0 (ne_eqb (number l) top other) ∙ sym (cond-false (nat_eq (place_of shape number i l + 1) (links_of shape i)) 1 0 (ne_eqb (place_of shape number i l + 1) (links_of shape i) (λ z. omega arith)))
      ]
    where
      lower : (a b c : ℕ) → a ≤ c → b ≡ c → (a ≡ b → ⊥) → a < b
      lower a b c le is ne = elim (cases_eq a b) [ inl same ↦ absurd (ne same) | inr k ↦ omega arith ]

-- ---- the ranking

pub cyclic_ranks : (shape : Shape) (number : ℕ → ℕ) (tops : List ℕ) (ranking : Ranking) → IsWellFormed shape → TripleDisjoint (alphabets_of shape.parts) → AllKeepPlaces shape → NumbersRise shape number → AreTops shape number (length shape.parts) tops → AreAllRanked (λ _. IsRanked shape.vocabulary (IsRank shape number)) (λ i. IsLap shape number (slice_index tops i)) shape.parts ranking.parts → ranking.scale ≡ pos (above_all number (length shape.links)) → AreCyclicRanks shape number ranking
cyclic_ranks shape number tops ranking w triple keep rise are all scale =
    let rank = λ (_ : ℕ). IsRanked shape.vocabulary (IsRank shape number) in
    let lap = λ (i : ℕ). IsLap shape number (slice_index tops i) in
    record {
      fits = fits shape ranking rank lap all (λ i e n is. is.at_most);
      scale = scale;
      ranks = λ i n k l v h end m. (rank_is shape ranking rank lap all i n k v.part v.node v.listed).vertex v.shared v.some l (on_one shape i n k w triple keep v.part v.node) h m;
      others = others_zero shape ranking rank lap all (λ i M r is. is.other);
      laps = λ i n e l h possible on.
          let run = w.reached i n h (possible_node (part_at shape.parts i).table n e possible) in
          let reach : ReachesLink shape i l run.run e = record { possible = record { runs = record { part = h; follows = run.follows }; next = subst (λ m. IsTrue (is_possible (node_at (part_at shape.parts i).table m).next e)) (sym run.leads) possible }; on = on } in
          (lap_is shape ranking rank lap all i n e h possible).on_link l (record { within = on.within; event = on.event }) ∙ last_place shape number w triple keep rise i l (slice_index tops i) run.run e h (are.greatest i h) reach;
      no_laps = λ i n e h hidden. lap_none shape ranking rank lap all i n e h (λ m is. is.other (λ l o. both_ways (has shape.vocabulary e) hidden (link_shared shape l w o.within e o.event)));
    }

-- ---- the greatest number of each part's links

pub tops_more : (shape : Shape) (number : ℕ → ℕ) (n : ℕ) (tops more : List ℕ) (top : ℕ) → AreTops shape number n tops → IsGreatest number (ends_of shape n) top → more ≡ tops ++ top ∷ [] → AreTops shape number (n + 1) more
tops_more shape number n tops more top are new is = record {
  count = ap length is ∙ length-append tops (top ∷ []) ∙ ap (λ k. k + 1) are.count;
  greatest = λ i h. elim (cases_lt i n) as (λ _. IsGreatest number (ends_of shape i) (slice_index more i)) [
    | inl old ↦ subst (IsGreatest number (ends_of shape i)) (sym (ap (λ zs. get_or zs i 0) is ∙ get_or_append_left tops (top ∷ []) 0 i (omega (arith, are.count)))) (are.greatest i old)
    | inr now ↦
        let same : n ≡ i = omega arith in
        let last : get_or more n 0 ≡ top = ap (λ zs. get_or zs n 0) is ∙ (ap (λ j. get_or (tops ++ top ∷ []) j 0) (sym are.count) ∙ get_or-append_seam tops top [] 0) in
        subst (λ j. IsGreatest number (ends_of shape j) (slice_index more j)) same (subst (IsGreatest number (ends_of shape n)) (sym last) new)
  ];
}
