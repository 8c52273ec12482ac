-- Lists with one member for each of another, and rankings that fit their shape.
use Rattle.rule_rankings.proofs.Prelude.{[], ◌++◌, ◌+◌, ◌<◌, ◌∙◌, ◌∷◌, ◌≡◌, ◌≤◌, AreAllRanked, AreEach, AreLaps, AreRanks, AsMany, AtMostOne, HasLap, IsNonEmpty, IsRanked, IsWithin, LapsFit, List, Node, OthersRankZero, PartRanks, PartsFit, Ranking, RanksFit, Shape, acceptance_at, ap, arith, both_ways, cases_Bool, cases_lt, cond-false, cond-true, eqb-true, false, false≢true, get_or, get_or_append_left, get_or_past, get_or_read, inl, inr, is_possible, is_subset_of, is_subset_of_from_members, lap_at, lap_of, length, length-append, member_of_superset, nat_eq, no_node, node_at, or_cases, part_at, pos, rank_at, refl, subst, suc, sym, true, ℕ, ℤ, get_or-append_seam, lap_absent}

-- ---- lists that grow

-- what is known of the first members
pub record AreEachBelow {A B : Type 0} (a : A) (b : B) (P : ℕ → A → B → Type 0) (n : ℕ) (xs : List A) (ys : List B) : Type 0 where
  pub count : length ys ≡ n
  pub each : (k : ℕ) → k < n → P k (get_or xs k a) (get_or ys k b)

pub below_more : {A B : Type 0} (a : A) (b : B) (P : ℕ → A → B → Type 0) (n : ℕ) (xs : List A) (ys more : List B) (x : A) (y : B) → AreEachBelow a b P n xs ys → n < length xs → x ≡ get_or xs n x → P n x y → more ≡ ys ++ y ∷ [] → AreEachBelow a b P (n + 1) xs more
below_more a b P n xs ys more x y e h at new is = record {
  count = ap length is ∙ length-append ys (y ∷ []) ∙ ap (λ k. k + 1) e.count;
  each = λ k below. elim (cases_lt k n) [
    | inl old ↦ subst (P k (get_or xs k a)) (sym (ap (λ zs. get_or zs k b) is ∙ get_or_append_left ys (y ∷ []) b k (omega (arith, e.count)))) (e.each k old)
    | inr now ↦
        let same : n ≡ k = omega arith in
        let last : get_or more n b ≡ y = ap (λ zs. get_or zs n b) is ∙ (ap (λ j. get_or (ys ++ y ∷ []) j b) (sym e.count) ∙ get_or-append_seam ys y [] b) in
        subst (λ j. P j (get_or xs j a) (get_or more j b)) same (subst (λ z. P n z (get_or more n b)) (get_or_read xs n x h at a) (subst (P n x) (sym last) new))
  ];
}

-- ---- the rank of one acceptance

module _ (vocabulary : List ℕ) (rank : List ℕ → ℤ → Type 0) (M : List ℕ) where
  pub no_vertex : (IsWithin M vocabulary → IsNonEmpty M → ⊥) → IsRanked vocabulary rank M (pos 0)
  no_vertex none = record { vertex = λ within some. absurd (none within some); other = λ _. refl }

  pub outside : is_subset_of M vocabulary ≡ false → IsRanked vocabulary rank M (pos 0)
  outside out = no_vertex (λ within _. both_ways (is_subset_of M vocabulary) out (is_subset_of_from_members M vocabulary within))

  pub at_vertex : (r : ℤ) → is_subset_of M vocabulary ≡ true → IsNonEmpty M → rank M r → IsRanked vocabulary rank M r
  at_vertex r inside some is = record { vertex = λ _ _. is; other = λ none. absurd (none (member_of_superset M vocabulary inside) some) }

-- ---- lists that fit one another

-- what fits member by member
all_fit : {A B : Type 0} (a : A) (b : B) (P : A → B → Type 0) (Fit : List A → List B → Type 0) → Fit [] [] → ((x : A) (y : B) (xs : List A) (ys : List B) → P x y → Fit xs ys → Fit (x ∷ xs) (y ∷ ys)) → (xs : List A) (ys : List B) → AreEach a b (λ _. P) xs ys → Fit xs ys
all_fit a b P Fit none more [] [] e = none
all_fit a b P Fit none more [] (y ∷ ys) e = absurd (let many : 0 ≡ suc (length ys) = e.as_many in omega arith)
all_fit a b P Fit none more (x ∷ xs) [] e = absurd (let many : suc (length xs) ≡ 0 = e.as_many in omega arith)
all_fit a b P Fit none more (x ∷ xs) (y ∷ ys) e =
    let many : suc (length xs) ≡ suc (length ys) = e.as_many in
    more x y xs ys (e.each 0 (omega arith)) (all_fit a b P Fit none more xs ys (record { as_many = omega arith; each = λ k h. e.each (suc k) (omega arith) }))

as_many : {A B : Type 0} (a : A) (b : B) (xs : List A) (ys : List B) → length xs ≡ length ys → AsMany xs ys
as_many a b xs ys many = all_fit a b (λ _ _. Unit {0}) AsMany tt (λ _ _ _ _ _ rest. rest) xs ys (record { as_many = many; each = λ _ _. tt })

at_most_one : (ys : List ℕ) → ((k : ℕ) → k < length ys → get_or ys k 0 ≤ 1) → AtMostOne ys
at_most_one [] h = tt
at_most_one (y ∷ ys) h = (h 0 (omega arith), at_most_one ys (λ k l. h (suc k) (omega arith)))

ranks_fit : (rank : List ℕ → ℤ → Type 0) (table : List Node) (rows : List (List ℤ)) → AreRanks rank table rows → RanksFit table rows
ranks_fit rank = all_fit no_node [] (λ node row. AreEach [] (pos 0) (λ _. rank) node.accept row) RanksFit tt (λ n r _ _ e rest. (as_many [] (pos 0) n.accept r e.as_many, rest))

laps_fit : (lap : ℕ → ℕ → Type 0) → ((e n : ℕ) → lap e n → n ≤ 1) → (table : List Node) (rows : List (List ℕ)) → AreLaps lap table rows → LapsFit table rows
laps_fit lap small = all_fit no_node [] (λ node row. AreEach (0, 0) 0 (λ _. HasLap lap) node.next row) LapsFit tt (λ n r _ _ e rest.
    let many : length n.next ≡ length r = e.as_many in
    (as_many (0, 0) 0 n.next r e.as_many, at_most_one r (λ k h. small (get_or n.next k (0, 0)).0 (get_or r k 0) (e.each k (omega arith))), rest))

-- ---- the lap of an event

-- the lap of an event that is possible stands at the event's place
lap_found : (lap : ℕ → ℕ → Type 0) (next : List (ℕ × ℕ)) (laps : List ℕ) (e : ℕ) → AreEach (0, 0) 0 (λ _. HasLap lap) next laps → is_possible next e ≡ true → lap e (lap_of next laps e)
lap_found lap [] laps e are h = absurd (false≢true h)
lap_found lap (x ∷ xs) [] e are h = absurd (let many : suc (length xs) ≡ 0 = are.as_many in omega arith)
lap_found lap (x ∷ xs) (y ∷ ys) e are h = elim (cases_Bool (nat_eq x.0 e)) [
  | inl same ↦ subst (lap e) (sym (cond-true (nat_eq x.0 e) y (lap_of xs ys e) same)) (subst (λ z. lap z y) (eqb-true x.0 e same) (are.each 0 (omega arith)))
  | inr other ↦
      let many : suc (length xs) ≡ suc (length ys) = are.as_many in
      let later = elim (or_cases (nat_eq x.0 e) (is_possible xs e) h) as (λ _. is_possible xs e ≡ true) [ inl k ↦ absurd (both_ways (nat_eq x.0 e) other k) | inr k ↦ k ] in
      subst (lap e) (sym (cond-false (nat_eq x.0 e) y (lap_of xs ys e) other)) (lap_found lap xs ys e (record { as_many = omega arith; each = λ k l. are.each (suc k) (omega arith) }) later)
]

pub possible_node : (table : List Node) (n e : ℕ) → is_possible (node_at table n).next e ≡ true → n < length table
possible_node table n e h = elim (cases_lt n (length table)) [
  | inl below ↦ below
  | inr past ↦ absurd (false≢true (subst (λ (m : Node). is_possible m.next e ≡ true) (get_or_past table n no_node past) h))
]

-- ---- a ranking of all parts

module _ (shape : Shape) (ranking : Ranking) (rank : ℕ → List ℕ → ℤ → Type 0) (lap : ℕ → ℕ → ℕ → Type 0) (all : AreAllRanked rank lap shape.parts ranking.parts) where
  abbrev made : ℕ → PartRanks
  made i = get_or ranking.parts i (record { ranks = []; laps = [] })

  abbrev table : ℕ → List Node
  table i = (part_at shape.parts i).table

  pub fits : ((i e n : ℕ) → lap i e n → n ≤ 1) → PartsFit shape.parts ranking.parts
  fits small =
      let each : AreEach (record { alphabet = []; table = [] }) (record { ranks = []; laps = [] }) (λ _ p r. RanksFit p.table r.ranks × LapsFit p.table r.laps) shape.parts ranking.parts = record {
        as_many = all.as_many;
        each = λ i h. let a = all.each i h in (ranks_fit (rank i) (table i) (made i).ranks a.ranks, laps_fit (lap i) (small i) (table i) (made i).laps a.laps);
      } in
      all_fit (record { alphabet = []; table = [] }) (record { ranks = []; laps = [] }) (λ p r. RanksFit p.table r.ranks × LapsFit p.table r.laps) PartsFit tt (λ _ _ _ _ f rest. (f.0, f.1, rest)) shape.parts ranking.parts each

  pub rank_is : (i n k : ℕ) → i < length shape.parts → n < length (part_at shape.parts i).table → k < length (node_at (part_at shape.parts i).table n).accept → rank i (acceptance_at (part_at shape.parts i) n k) (rank_at (made i).ranks n k)
  rank_is i n k part node listed = ((all.each i part).ranks.each n node).each k listed

  -- what is no vertex has the rank of an acceptance that is empty or not in the vocabulary, or of none
  pub others_zero : ((i : ℕ) (M : List ℕ) (r : ℤ) → rank i M r → (IsWithin M shape.vocabulary → IsNonEmpty M → ⊥) → r ≡ pos 0) → OthersRankZero shape ranking
  others_zero other i n k part none =
      let ranks = (all.each i part).ranks in
      elim (cases_lt n (length (table i))) [
        | inl node ↦ elim (cases_lt k (length (node_at (table i) n).accept)) [
          | inl listed ↦ other i (acceptance_at (part_at shape.parts i) n k) (rank_at (made i).ranks n k) (rank_is i n k part node listed) (λ within some. none (record { part = part; node = node; listed = listed; some = some; shared = within }))
          | inr past ↦ get_or_past (get_or (made i).ranks n []) k (pos 0) (let many : length (node_at (table i) n).accept ≡ length (get_or (made i).ranks n []) = (ranks.each n node).as_many in omega arith)
        ]
        | inr past ↦ ap (λ (row : List ℤ). get_or row k (pos 0)) (get_or_past (made i).ranks n [] (let many : length (table i) ≡ length (made i).ranks = ranks.as_many in omega arith))
      ]

  pub lap_is : (i n e : ℕ) → i < length shape.parts → is_possible (node_at (part_at shape.parts i).table n).next e ≡ true → lap i e (lap_at shape ranking i n e)
  lap_is i n e part possible = lap_found (lap i) (node_at (table i) n).next (get_or (made i).laps n []) e ((all.each i part).laps.each n (possible_node (table i) n e possible)) possible

  -- an event has no lap where each lap that it may have is none
  pub lap_none : (i n e : ℕ) → i < length shape.parts → ((m : ℕ) → lap i e m → m ≡ 0) → lap_at shape ranking i n e ≡ 0
  lap_none i n e part nothing = elim (cases_Bool (is_possible (node_at (table i) n).next e)) [
    | inl possible ↦ nothing (lap_at shape ranking i n e) (lap_is i n e part possible)
    | inr never ↦ lap_absent (node_at (table i) n).next (get_or (made i).laps n []) e never
  ]
