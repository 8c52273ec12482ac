-- Tests of a written-out ranking: that it fits, that all but vertices rank 0, and which laps it has. For examples.
use Rattle.design_rules.proofs.Prelude.{◌≡◌, ℕ, zero, suc, ◌<◌, ◌≤◌, inl, inr, ℤ, pos, List, [], ◌∷◌, length, get_or, Bool, true, false, nat_eq, refl, ◌∙◌, arith, cases_Bool, cases_lt, or_parts, cond-false, has, IsWithin, Node, node_at, is_possible, Part, part_at, Shape, acceptance_at, PartRanks, Ranking, AsMany, AtMostOne, RanksFit, LapsFit, PartsFit, Fits, part_ranks, rank_at, lap_of, OthersRankZero, lap_at}
use Rattle.design_rules.proofs.Checks.{Test, shown, always, never, is_true, same, less, at_most, same_rank, both, three, either, unless, below, within, nodes, steps}

-- ---- as many numbers as the tables ask for

abbrev as_many : {A B : Type 0} (xs : List A) (ys : List B) → Test (AsMany xs ys)
as_many [] [] = always
as_many (x ∷ xs) (y ∷ ys) = as_many xs ys
as_many _ _ = never

abbrev at_most_one : (ns : List ℕ) → Test (AtMostOne ns)
at_most_one [] = always
at_most_one (n ∷ ns) = both (at_most n 1) (at_most_one ns)

abbrev ranks_fit : (ns : List Node) (rs : List (List ℤ)) → Test (RanksFit ns rs)
ranks_fit [] [] = always
ranks_fit (n ∷ ns) (r ∷ rs) = both (as_many n.accept r) (ranks_fit ns rs)
ranks_fit _ _ = never

abbrev laps_fit : (ns : List Node) (ls : List (List ℕ)) → Test (LapsFit ns ls)
laps_fit [] [] = always
laps_fit (n ∷ ns) (l ∷ ls) = three (as_many n.next l) (at_most_one l) (laps_fit ns ls)
laps_fit _ _ = never

abbrev pub parts_fit : (ps : List Part) (rs : List PartRanks) → Test (PartsFit ps rs)
parts_fit [] [] = always
parts_fit (p ∷ ps) (r ∷ rs) = three (ranks_fit p.table r.ranks) (laps_fit p.table r.laps) (parts_fit ps rs)
parts_fit _ _ = never

-- ---- what is no vertex ranks 0

-- where the list has as many ranks as acceptances, there is none past the last acceptance
pub rank_beyond : (ns : List Node) (rs : List (List ℤ)) (n k : ℕ) → RanksFit ns rs → length (node_at ns n).accept ≤ k → rank_at rs n k ≡ pos 0
rank_beyond [] [] n k h l = refl
rank_beyond (m ∷ ns) (r ∷ rs) zero k h l = go m.accept r k h.0 l
  where
    go : (Ms : List (List ℕ)) (xs : List ℤ) (k : ℕ) → AsMany Ms xs → length Ms ≤ k → get_or xs k (pos 0) ≡ pos 0
    go [] [] k h l = refl
    go (M ∷ Ms) (x ∷ xs) zero h l = absurd (omega arith)
    go (M ∷ Ms) (x ∷ xs) (suc k) h l = go Ms xs k h (omega arith)
    go _ _ k h l = absurd h
rank_beyond (m ∷ ns) (r ∷ rs) (suc n) k h l = rank_beyond ns rs n k h.1 l
rank_beyond _ _ n k h l = absurd h

pub ranks_of_part : (ps : List Part) (rs : List PartRanks) (i : ℕ) → PartsFit ps rs → RanksFit (part_at ps i).table (get_or rs i (record { ranks = []; laps = [] })).ranks
ranks_of_part [] [] i h = tt
ranks_of_part (p ∷ ps) (r ∷ rs) zero h = h.0
ranks_of_part (p ∷ ps) (r ∷ rs) (suc i) h = ranks_of_part ps rs i h.2
ranks_of_part _ _ i h = absurd h

-- every acceptance of the shape
abbrev pub vertices : {P : ℕ → ℕ → ℕ → Type 0} (shape : Shape) → ((i n k : ℕ) → Test (P i n k)) → Test ((i n k : ℕ) → i < length shape.parts → k < length (node_at (part_at shape.parts i).table n).accept → P i n k)
vertices shape p = shown (below (length shape.parts) (λ i. nodes (part_at shape.parts i).table (λ n node. below (length node.accept) (λ k. p i n k)) (λ n. refl))) (λ h i n k here. h i here n k)

abbrev vertex : (M V : List ℕ) (n count : ℕ) → Test ((n < count) × (has M (get_or M 0 0) ≡ true) × IsWithin M V)
vertex M V n count = three (less n count) (is_true (has M (get_or M 0 0))) (within M V)

abbrev pub others_zero : (shape : Shape) (ranking : Ranking) → Test (Fits shape.parts ranking → OthersRankZero shape ranking)
others_zero shape ranking =
    shown
    (vertices shape (λ i n k. either (vertex (acceptance_at (part_at shape.parts i) n k) shape.vocabulary n (length (part_at shape.parts i).table)) (same_rank (rank_at (part_ranks ranking i).ranks n k) (pos 0))))
    (λ h fit i n k here other. elim (cases_lt k (length (node_at (part_at shape.parts i).table n).accept)) [
      | inl less ↦ elim (h i n k here less) [
        | inl v ↦ absurd (other (record { part = here; node = v.0; listed = less; some = (get_or (acceptance_at (part_at shape.parts i) n k) 0 0, v.1); shared = v.2 }))
        | inr is ↦ is
      ]
      | inr more ↦ rank_beyond (part_at shape.parts i).table (part_ranks ranking i).ranks n k (ranks_of_part shape.parts ranking.parts i fit) more
    ])

-- ---- laps

-- an event that is not possible has no lap
pub lap_absent : (next : List (ℕ × ℕ)) (laps : List ℕ) (e : ℕ) → is_possible next e ≡ false → lap_of next laps e ≡ 0
lap_absent [] laps e h = refl
lap_absent (step ∷ next) [] e h = refl
lap_absent (step ∷ next) (lap ∷ laps) e h =
    let p = or_parts (nat_eq step.0 e) (is_possible next e) h in
    cond-false (nat_eq step.0 e) lap (lap_of next laps e) p.0 ∙ lap_absent next laps e p.1

-- the laps of all events are 0, but for some
abbrev pub no_laps : (shape : Shape) (ranking : Ranking) (exempt : ℕ → Bool) → Test ((i n e : ℕ) → i < length shape.parts → exempt e ≡ false → lap_at shape ranking i n e ≡ 0)
no_laps shape ranking exempt =
    shown
    (below (length shape.parts) (λ i. steps (part_at shape.parts i).table (λ n e t. unless (exempt e) (same (lap_at shape ranking i n e) 0))))
    (λ h i n e here counts. elim (cases_Bool (is_possible (node_at (part_at shape.parts i).table n).next e)) [
      | inl possible ↦ h i here n e possible counts
      | inr never ↦ lap_absent (node_at (part_at shape.parts i).table n).next (get_or (part_ranks ranking i).laps n []) e never
    ])
