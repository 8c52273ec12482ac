-- The ranks of a network of users and resources.
use Rattle.rule_rankings.proofs.Prelude.{◌≡◌, ℕ, suc, ◌+◌, ◌-◌, ◌*◌, ◌<◌, ◌≤◌, ◌⊎◌, inl, inr, ℤ, pos, List, [], ◌∷◌, length, get_or, Bool, true, false, ◌||◌, cond, max, nat_eq, refl, sym, ap, subst, ◌∙◌, arith, eq-eqb, cases_lt, cond-true, cond-false, and_parts, and_from, or_cases, or_left, or_right, both_ways, false≢true, get_or_past, MOST_COMPONENTS, has, end_of, part_at, AreApart, IsWithin, IsWellFormed, IsPossible, Accepts, accepted, UseSets, use_at, Ranking, is_held, acquires, KeepUses, top_number, AreResourceRanks, rank_there, number_by, IsLeastAcquired, HaveTop, AreAllRanked, IsRanked, NoLap, any_of, list_any, part_form, end_within, Setting, is_acquired_by}
use Rattle.shape_links.proofs.Acquiring.{acquire_only}
use Rattle.design_rules.proofs.Resource.{below_top}
use Rattle.rule_rankings.proofs.RowsBelow.{fits, rank_is, others_zero, lap_none}
use Rattle.rule_rankings.specs.ResourceRanks.{IsRank}

-- ---- the greatest number

-- each number is small
pub small_number : (heights : List ℕ) (count : ℕ) → count ≤ MOST_COMPONENTS → ((k d : ℕ) → k < length heights → get_or heights k d < count) → (j : ℕ) → number_by heights j ≤ MOST_COMPONENTS
small_number heights count few below j = elim (cases_lt j (length heights)) [
  | inl within ↦ let h : get_or heights j 0 < count = below j 0 within in omega arith
  | inr past ↦ let none : get_or heights j 0 ≡ 0 = get_or_past heights j 0 past in omega arith
]

cond_small : (b : Bool) (n : ℕ) → n ≤ MOST_COMPONENTS → cond b n 0 ≤ MOST_COMPONENTS
cond_small true n h = h
cond_small false n h = omega arith

-- one part more
pub top_next : (uses : List UseSets) (heights : List ℕ) (n top number new : ℕ) → top ≡ top_number uses (number_by heights) n → top ≤ MOST_COMPONENTS → number_by heights n ≤ MOST_COMPONENTS → number ≡ cond (use_at uses n).resource (number_by heights n) 0 → new ≡ max number top → (new ≡ top_number uses (number_by heights) (n + 1)) × (new ≤ MOST_COMPONENTS)
top_next uses heights n top number new is few small at next =
    let own : number ≤ MOST_COMPONENTS = subst (λ k. k ≤ MOST_COMPONENTS) (sym at) (cond_small (use_at uses n).resource (number_by heights n) small) in
    (next ∙ ap (λ k. max k top) at ∙ ap (max (cond (use_at uses n).resource (number_by heights n) 0)) is ∙ ap (top_number uses (number_by heights)) (let e : suc n ≡ n + 1 = omega arith in e), omega arith)

pub have_top : (g : Setting) (heights : List ℕ) (n top : ℕ) → length heights ≡ length g.shape.parts → n ≡ length g.shape.parts → top ≡ top_number g.uses (number_by heights) n → top ≤ MOST_COMPONENTS → ((j : ℕ) → number_by heights j ≤ MOST_COMPONENTS) → HaveTop g heights top
have_top g heights n top count all is few small =
    let at : top ≡ top_number g.uses (number_by heights) (length g.shape.parts) = is ∙ ap (top_number g.uses (number_by heights)) all in
    record {
      count = count;
      is = at;
      above = λ j below resource. let high : number_by heights j ≤ top_number g.uses (number_by heights) (length g.shape.parts) = below_top g.uses (number_by heights) (length g.shape.parts) j below resource in omega arith;
      few = few;
      small = small;
    }

-- ---- the least number

-- what is known of the least number when these events are left
pub record IsLeastSoFar (g : Setting) (number : ℕ → ℕ) (top : ℕ) (set left : List ℕ) (least : ℕ) : Type 0 where
  pub within : (e : ℕ) → has left e ≡ true → has set e ≡ true
  pub below : (j : ℕ) → acquires g.uses set j ≡ true → (acquires g.uses left j ≡ true) ⊎ (least ≤ number j)
  pub attained : (least ≡ top + 1) ⊎ ((j : ℕ) × (j < length g.shape.parts) × (acquires g.uses set j ≡ true) × (number j ≡ least))

pub least_next : (g : Setting) (number : ℕ → ℕ) (top : ℕ) (set left : List ℕ) (e least new : ℕ) → IsLeastSoFar g number top set (e ∷ left) least → new ≤ least → ((j : ℕ) → is_acquired_by g j e ≡ true → new ≤ number j) → (new ≡ least) ⊎ ((j : ℕ) × (j < length g.shape.parts) × (is_acquired_by g j e ≡ true) × (number j ≡ new)) → IsLeastSoFar g number top set left new
least_next g number top set left e least new s less below attained = record {
  within = λ x h. s.within x (or_right (nat_eq e x) (has left x) h);
  below = λ j a. elim (s.below j a) [
    | inl some ↦
        let p = and_parts (use_at g.uses j).resource (has (use_at g.uses j).acquire e || list_any (λ x. has (use_at g.uses j).acquire x) left) some in
        elim (or_cases (has (use_at g.uses j).acquire e) (list_any (λ x. has (use_at g.uses j).acquire x) left) p.1) [
          | inl here ↦ inr (below j (and_from (use_at g.uses j).resource (has (use_at g.uses j).acquire e) p.0 here))
          | inr later ↦ inl (and_from (use_at g.uses j).resource (list_any (λ x. has (use_at g.uses j).acquire x) left) p.0 later)
        ]
    | inr low ↦ inr (omega arith)
  ];
  attained = elim attained [
    | inl same ↦ elim s.attained [
      | inl none ↦ inl (same ∙ none)
      | inr some ↦ inr (some.0, some.1, some.2, some.3 ∙ sym same)
    ]
    | inr one ↦
        let p = and_parts (use_at g.uses one.0).resource (has (use_at g.uses one.0).acquire e) one.2 in
        inr (one.0, one.1, and_from (use_at g.uses one.0).resource (list_any (λ x. has (use_at g.uses one.0).acquire x) set) p.0 (any_of (λ x. has (use_at g.uses one.0).acquire x) set e (s.within e (or_left (nat_eq e e) (has left e) (eq-eqb e e refl))) p.1), one.3)
  ];
}

pub least_end : (g : Setting) (number : ℕ → ℕ) (top : ℕ) (set : List ℕ) (least : ℕ) → IsLeastSoFar g number top set [] least → IsLeastAcquired g number top set least
least_end g number top set least s = record {
  below = λ j a. elim (s.below j a) [
    | inl never ↦ absurd (false≢true (and_parts (use_at g.uses j).resource false never).1)
    | inr low ↦ low
  ];
  attained = s.attained;
}

-- the rank of a user
pub user_is : (g : Setting) (number : ℕ → ℕ) (top i least : ℕ) (M : List ℕ) (rank : ℤ) → (use_at g.uses i).resource ≡ false → IsLeastAcquired g number top M least → ((j : ℕ) → j < length g.shape.parts → (use_at g.uses j).resource ≡ true → number j ≤ top) → (least ≤ top → rank ≡ pos (2 * (top - least) + 2)) → (top < least → rank ≡ pos 0) → IsRank g number top i M rank
user_is g number top i least M rank user l high here none = record {
  free = λ resource. absurd (both_ways (use_at g.uses i).resource user resource);
  held = λ resource. absurd (both_ways (use_at g.uses i).resource user resource);
  acquiring = λ j _ below a lowest.
      let mine : least ≤ number j = l.below j a in
      let p = and_parts (use_at g.uses j).resource (list_any (λ x. has (use_at g.uses j).acquire x) M) a in
      let top_above : number j ≤ top = high j below p.0 in
      let same : number j ≡ least = elim l.attained [
        | inl past ↦ absurd (omega arith)
        | inr one ↦ let low : number j ≤ number one.0 = lowest one.0 one.1 one.2 in let at : number one.0 ≡ least = one.3 in omega arith
      ] in
      here (omega arith) ∙ ap (λ n. pos (2 * (top - n) + 2)) (sym same);
  not_acquiring = λ _ nothing. elim l.attained [
    | inl past ↦ none (omega arith)
    | inr one ↦ absurd (both_ways (acquires g.uses M one.0) (nothing one.0 one.1) one.2)
  ];
}

-- the rank of a resource, by one of the events
pub free_is : (g : Setting) (number : ℕ → ℕ) (top i e : ℕ) (M : List ℕ) (rank : ℤ) → (use_at g.uses i).resource ≡ true → has M e ≡ true → has (use_at g.uses i).acquire e ≡ true → rank ≡ pos (2 * top + 2) → IsRank g number top i M rank
free_is g number top i e M rank resource member a is = record {
  free = λ _ _. is;
  held = λ _ apart. absurd (apart e member a);
  acquiring = λ _ user. absurd (both_ways (use_at g.uses i).resource user resource);
  not_acquiring = λ user. absurd (both_ways (use_at g.uses i).resource user resource);
}

pub held_is : (g : Setting) (number : ℕ → ℕ) (top i e : ℕ) (M : List ℕ) (rank : ℤ) → (use_at g.uses i).resource ≡ true → has M e ≡ true → has (use_at g.uses i).acquire e ≡ false → rank ≡ pos (2 * (top - number i) + 1) → IsRank g number top i M rank
held_is g number top i e M rank resource member a is = record {
  free = λ _ all. absurd (both_ways (has (use_at g.uses i).acquire e) a (all e member));
  held = λ _ _. is;
  acquiring = λ _ user. absurd (both_ways (use_at g.uses i).resource user resource);
  not_acquiring = λ user. absurd (both_ways (use_at g.uses i).resource user resource);
}

-- ---- the ranking

module _ (g : Setting) (number : ℕ → ℕ) (top : ℕ) (ranking : Ranking) (w : IsWellFormed g.shape) (keep : KeepUses g.shape g.uses) (all : AreAllRanked (λ i. IsRanked g.shape.vocabulary (IsRank g number top i)) NoLap g.shape.parts ranking.parts) where
  abbrev ranks : ℕ → List ℕ → ℤ → Type 0
  ranks i = IsRanked g.shape.vocabulary (IsRank g number top i)

  rank_here : (i k : ℕ) (s : List ℕ) → Accepts g.shape i s k → ranks i (accepted g.shape i s k) (rank_there g.shape ranking i s k)
  rank_here i k s accepts = rank_is g.shape ranking ranks NoLap all i (end_of (part_at g.shape.parts i).table 0 s) k accepts.runs.part (end_within (part_at g.shape.parts i) s (part_form g.shape.parts i accepts.runs.part w.form) accepts.runs.follows) accepts.listed

  possible_of : (i k e : ℕ) (s : List ℕ) → Accepts g.shape i s k → has (accepted g.shape i s k) e ≡ true → IsPossible g.shape i s e
  possible_of i k e s accepts x = record { runs = accepts.runs; next = w.possible i (end_of (part_at g.shape.parts i).table 0 s) k e accepts.runs.part x }

  -- a free resource's events acquire it
  free_acquires : (i k : ℕ) (s : List ℕ) → (use_at g.uses i).resource ≡ true → Accepts g.shape i s k → is_held g.shape s ≡ false → IsWithin (accepted g.shape i s k) (use_at g.uses i).acquire
  free_acquires i k s resource accepts free e x =
      sym (cond-false (is_held g.shape s) (has (use_at g.uses i).release e) (has (use_at g.uses i).acquire e) free) ∙ (keep.used i s resource).turn e (possible_of i k e s accepts x) (accepts.shared e x)

  -- a held resource's events do not
  held_releases : (i k : ℕ) (s : List ℕ) → (use_at g.uses i).resource ≡ true → Accepts g.shape i s k → is_held g.shape s ≡ true → AreApart (accepted g.shape i s k) (use_at g.uses i).acquire
  held_releases i k s resource accepts held e x a =
      let release = sym (cond-true (is_held g.shape s) (has (use_at g.uses i).release e) (has (use_at g.uses i).acquire e) held) ∙ (keep.used i s resource).turn e (possible_of i k e s accepts x) (accepts.shared e x) in
      both_ways (has (use_at g.uses i).release e) (acquire_only g i e keep.kinds accepts.runs.part resource a).2 release

  pub resource_ranks : top ≡ top_number g.uses number (length g.shape.parts) → ranking.scale ≡ pos 0 → AreResourceRanks g.shape g.uses number top ranking
  resource_ranks is scale = record {
    greatest = is;
    fits = fits g.shape ranking ranks NoLap all (λ i e n none. omega arith);
    scale = scale;
    free = λ i s k resource a free. ((rank_here i k s a.accepts).vertex a.accepts.shared a.some).free resource (free_acquires i k s resource a.accepts free);
    held = λ i s k resource a held. ((rank_here i k s a.accepts).vertex a.accepts.shared a.some).held resource (held_releases i k s resource a.accepts held);
    acquiring = λ i s k j user a below acquired least. ((rank_here i k s a.accepts).vertex a.accepts.shared a.some).acquiring j user below acquired least;
    not_acquiring = λ i s k user a nothing. ((rank_here i k s a.accepts).vertex a.accepts.shared a.some).not_acquiring user nothing;
    others = others_zero g.shape ranking ranks NoLap all (λ i M r is. is.other);
    laps = λ i n e h. lap_none g.shape ranking ranks NoLap all i n e h (λ m none. none);
  }
