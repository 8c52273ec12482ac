-- The ranks and the laps of a network of clients and servers.
use Rattle.rule_rankings.proofs.Prelude.{◌≡◌, ℕ, ℤ, pos, List, [], ◌∷◌, length, true, false, nat_eq, refl, arith, eq-eqb, slice_index, both_ways, or_left, has, is_subset_of, meets_of, IsNonEmpty, Shape, RoleSets, role_at, Ranking, Serves, IsClientServerRanking, IsRank, serving_rank, AreAllRanked, IsRanked, NoLap, common_member, meets_of_from_member, AreHeights}
use Rattle.rule_rankings.proofs.RowsBelow.{at_vertex, fits, rank_is, others_zero, lap_none}

-- ---- the ranking

pub role_ranking : (shape : Shape) (roles : List RoleSets) (heights : List ℕ) (ranking : Ranking) → AreHeights (Serves shape roles) (length shape.parts) heights → AreAllRanked (λ i. IsRanked shape.vocabulary (IsRank shape roles heights i)) NoLap shape.parts ranking.parts → ranking.scale ≡ pos 0 → IsClientServerRanking shape roles ranking
role_ranking shape roles heights ranking are all scale =
    let ranks = λ (i : ℕ). IsRanked shape.vocabulary (IsRank shape roles heights i) in
    let there = rank_is shape ranking ranks NoLap all in
    record {
      height = slice_index heights;
      heights = are.each;
      fits = fits shape ranking ranks NoLap all (λ i e n none. omega arith);
      scale = scale;
      serving = λ i n k v meet. ((there i n k v.part v.node v.listed).vertex v.shared v.some).serves meet;
      asking = λ i n k v apart. ((there i n k v.part v.node v.listed).vertex v.shared v.some).asks apart;
      others = others_zero shape ranking ranks NoLap all (λ i M r is. is.other);
      laps = λ i n e h. lap_none shape ranking ranks NoLap all i n e h (λ m none. none);
    }

-- ---- the rank of one acceptance

module _ (shape : Shape) (roles : List RoleSets) (heights : List ℕ) (i : ℕ) (M : List ℕ) where
  abbrev requests : List ℕ
  requests = (role_at roles i).sreq

  pub serving_is : (rank : ℤ) → is_subset_of M shape.vocabulary ≡ true → meets_of M (role_at roles i).sreq ≡ true → rank ≡ serving_rank (length shape.parts) (slice_index heights i) → IsRanked shape.vocabulary (IsRank shape roles heights i) M rank
  serving_is rank inside meets is =
      let x = common_member M requests meets in
      at_vertex shape.vocabulary (IsRank shape roles heights i) M rank inside (x.0, x.1) (record { serves = λ m. is; asks = λ apart. absurd (apart x.0 x.1 x.2) })

  some_first : (xs : List ℕ) → (xs ≡ [] → ⊥) → IsNonEmpty xs
  some_first [] h = absurd (h refl)
  some_first (x ∷ xs) h = (x, or_left (nat_eq x x) (has xs x) (eq-eqb x x refl))

  pub asking_is : (rank : ℤ) → is_subset_of M shape.vocabulary ≡ true → meets_of M (role_at roles i).sreq ≡ false → (M ≡ [] → ⊥) → rank ≡ pos (slice_index heights i) → IsRanked shape.vocabulary (IsRank shape roles heights i) M rank
  asking_is rank inside apart some same = at_vertex shape.vocabulary (IsRank shape roles heights i) M rank inside (some_first M some) (record {
    serves = λ m. absurd (both_ways (meets_of M requests) apart (meets_of_from_member M requests m.event m.first m.second));
    asks = λ _. same;
  })
