-- The greatest number of a ranking: no rank at a place is above it, and it is 0 or the rank at some place.
use Rattle.design_rules.proofs.Prelude.{◌≡◌, ℕ, zero, suc, ◌≤◌, ◌⊎◌, inl, inr, ℤ, pos, max, List, [], ◌∷◌, ◌++◌, get_or, refl, sym, ◌∙◌, arith, cases_lt, flat_map, PartRanks, Ranking, part_ranks, rank_at, natural, greatest_rank, greatest_from}

greatest_append : (m : ℕ) (xs ys : List ℤ) → greatest_from m (xs ++ ys) ≡ greatest_from (greatest_from m xs) ys
greatest_append m [] ys = refl
greatest_append m (x ∷ xs) ys = greatest_append (max m (natural x)) xs ys

at_least : (m : ℕ) (xs : List ℤ) → m ≤ greatest_from m xs
at_least m [] = omega arith
at_least m (x ∷ xs) = let rest : max m (natural x) ≤ greatest_from (max m (natural x)) xs = at_least (max m (natural x)) xs in omega arith

-- the ranks of a row
in_row : (m : ℕ) (xs : List ℤ) (k : ℕ) → natural (get_or xs k (pos 0)) ≤ greatest_from m xs
in_row m [] k = omega arith
in_row m (x ∷ xs) zero = let rest : max m (natural x) ≤ greatest_from (max m (natural x)) xs = at_least (max m (natural x)) xs in omega arith
in_row m (x ∷ xs) (suc k) = in_row (max m (natural x)) xs k

row_has : (m : ℕ) (xs : List ℤ) → (greatest_from m xs ≡ m) ⊎ (k : ℕ) × (natural (get_or xs k (pos 0)) ≡ greatest_from m xs)
row_has m [] = inl refl
row_has m (x ∷ xs) = elim (row_has (max m (natural x)) xs) [
  | inl first ↦ elim (cases_lt m (natural x)) [
    | inl less ↦ inr (0, let e : greatest_from (max m (natural x)) xs ≡ max m (natural x) = first in omega arith)
    | inr more ↦ inl (let e : greatest_from (max m (natural x)) xs ≡ max m (natural x) = first in omega arith)
  ]
  | inr later ↦ inr (suc later.0, later.1)
]

-- lists of lists: where the numbers of each member are bounded and had, so are those of the whole
module _ {X J : Type 0} (f : X → List ℤ) (at : X → J → ℤ) (d : X) (none : (j : J) → natural (at d j) ≡ 0)
    (bound : (m : ℕ) (x : X) (j : J) → natural (at x j) ≤ greatest_from m (f x))
    (had : (m : ℕ) (x : X) → (greatest_from m (f x) ≡ m) ⊎ (j : J) × (natural (at x j) ≡ greatest_from m (f x))) where
  in_whole : (m : ℕ) (xs : List X) (i : ℕ) (j : J) → natural (at (get_or xs i d) j) ≤ greatest_from m (flat_map f xs)
  in_whole m [] i j = let z = none j in omega (arith, z)
  in_whole m (x ∷ xs) zero j = omega (arith, bound m x j, at_least (greatest_from m (f x)) (flat_map f xs), greatest_append m (f x) (flat_map f xs))
  in_whole m (x ∷ xs) (suc i) j = omega (arith, in_whole (greatest_from m (f x)) xs i j, greatest_append m (f x) (flat_map f xs))

  whole_has : (m : ℕ) (xs : List X) → (greatest_from m (flat_map f xs) ≡ m) ⊎ (i : ℕ) × (j : J) × (natural (at (get_or xs i d) j) ≡ greatest_from m (flat_map f xs))
  whole_has m [] = inl refl
  whole_has m (x ∷ xs) =
      let all = greatest_append m (f x) (flat_map f xs) in
      elim (whole_has (greatest_from m (f x)) xs) [
        | inl first ↦ elim (had m x) [
          | inl nothing ↦ inl (all ∙ first ∙ nothing)
          | inr own ↦ inr (0, own.0, own.1 ∙ sym first ∙ sym all)
        ]
        | inr later ↦ inr (suc later.0, later.1, later.2 ∙ sym all)
      ]

abbrev row : List ℤ → List ℤ
row xs = xs

abbrev at_row : List ℤ → ℕ → ℤ
at_row xs k = get_or xs k (pos 0)

in_rows : (m : ℕ) (rows : List (List ℤ)) (n k : ℕ) → natural (rank_at rows n k) ≤ greatest_from m (flat_map (λ row. row) rows)
in_rows m rows n k = in_whole row at_row [] (λ j. refl) in_row row_has m rows n k

rows_have : (m : ℕ) (rows : List (List ℤ)) → (greatest_from m (flat_map (λ row. row) rows) ≡ m) ⊎ (n : ℕ) × (k : ℕ) × (natural (rank_at rows n k) ≡ greatest_from m (flat_map (λ row. row) rows))
rows_have m rows = whole_has row at_row [] (λ j. refl) in_row row_has m rows

abbrev ranks_of : PartRanks → List ℤ
ranks_of part = flat_map (λ row. row) part.ranks

abbrev at_node : PartRanks → ℕ × ℕ → ℤ
at_node part j = rank_at part.ranks j.0 j.1

abbrev no_ranks : PartRanks
no_ranks = record { ranks = []; laps = [] }

pairs_had : (m : ℕ) (part : PartRanks) → (greatest_from m (ranks_of part) ≡ m) ⊎ (j : ℕ × ℕ) × (natural (at_node part j) ≡ greatest_from m (ranks_of part))
pairs_had m part = elim (rows_have m part.ranks) [ inl nothing ↦ inl nothing | inr own ↦ inr ((own.0, own.1), own.2) ]

pub in_ranking : (ranking : Ranking) (i n k : ℕ) → natural (rank_at (part_ranks ranking i).ranks n k) ≤ greatest_rank ranking
in_ranking ranking i n k = in_whole ranks_of at_node no_ranks (λ j. refl) (λ m part j. in_rows m part.ranks j.0 j.1) pairs_had 0 ranking.parts i (n, k)

-- where the greatest number of a ranking stands
pub record StandsAt (ranking : Ranking) : Type 0 where
  pub part : ℕ
  pub node : ℕ
  pub place : ℕ
  pub is : natural (rank_at (part_ranks ranking part).ranks node place) ≡ greatest_rank ranking

pub ranking_has : (ranking : Ranking) → (greatest_rank ranking ≡ 0) ⊎ StandsAt ranking
ranking_has ranking = elim (whole_has ranks_of at_node no_ranks (λ j. refl) (λ m part j. in_rows m part.ranks j.0 j.1) pairs_had 0 ranking.parts) [
  | inl nothing ↦ inl nothing
  | inr own ↦ inr (record { part = own.0; node = own.1.0; place = own.1.1; is = own.2 })
]
