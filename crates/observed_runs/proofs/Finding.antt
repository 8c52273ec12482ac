-- What was found, and followed to its end, is what runs reach.
use Rattle.observed_runs.proofs.Prelude.{◌≡◌, ℕ, zero, suc, ◌+◌, ◌<◌, ◌≤◌, List, [], ◌∷◌, ◌++◌, length, true, IsTrue, sym, ap, subst, arith, and_parts, get_or_from_slice_get, slice_get_within, Node, node_at, node_after, is_possible, is_run, IsRun, end_of, observed, LeadsTo, pair_at, AreDistinct, Found, StepsTo, AreFound, HaveOrigins, IsExploration, HasPair, AreFollowed}
use Rattle.observed_runs.proofs.Leading.{leads_on, leads_nowhere}

module _ (table : List Node) (step : ℕ → ℕ → ℕ) (start : ℕ) where
  pub first_is : (found : Found) → AreFound table step start found → pair_at found.pairs 0 ≡ (0, start)
  first_is found f = get_or_from_slice_get found.pairs 0 (0, start) (0, 0) f.first

  pub each_reached : (found : Found) → HaveOrigins found → AreFound table step start found → (n k : ℕ) → k ≤ n → k < length found.pairs → (s : List ℕ) × LeadsTo table step start s (pair_at found.pairs k)
  each_reached found o f n zero h below = ([], leads_nowhere table step start (pair_at found.pairs 0) (first_is found f))
  each_reached found o f zero (suc k) h below = absurd (omega arith)
  each_reached found o f (suc n) (suc k) h below =
      let count : length found.pairs ≡ length found.origins + 1 = o.count in
      let here : k < length found.origins = omega arith in
      let earlier : (pair_at found.origins k).0 ≤ k = o.earlier k here in
      let rest = each_reached found o f n (pair_at found.origins k).0 (omega arith) (omega arith) in
      let e : k + 1 ≡ suc k = omega arith in
      (rest.0 ++ (pair_at found.origins k).1 ∷ [], leads_on table step start rest.0 (pair_at found.pairs (pair_at found.origins k).0) (pair_at found.pairs (suc k)) (pair_at found.origins k).1 rest.1 (subst (λ j. StepsTo table step (pair_at found.pairs (pair_at found.origins k).0) (pair_at found.origins k).1 (pair_at found.pairs j)) e (f.later k here)))

  -- from a pair that is listed each run leads to one that is listed
  along : (pairs : List (ℕ × ℕ)) → ((k : ℕ) → k < length pairs → AreFollowed table step pairs k) → (s : List ℕ) (pair : ℕ × ℕ) → HasPair pairs pair → is_run table pair.0 s ≡ true → HasPair pairs (end_of table pair.0 s, observed step pair.1 s)
  along pairs closed [] pair l h = record { place = l.place; within = l.within; is = l.is }
  along pairs closed (e ∷ s) pair l h =
      let p = and_parts (is_possible (node_at table pair.0).next e) (is_run table (node_after table pair.0 e) s) h in
      let next = subst (λ (q : ℕ × ℕ). (x : ℕ) → IsTrue (is_possible (node_at table q.0).next x) → HasPair pairs (node_after table q.0 x, step q.1 x)) l.is (closed l.place l.within) in
      along pairs closed s (node_after table pair.0 e, step pair.1 e) (next e p.0) p.1

  all_listed : (pairs : List (ℕ × ℕ)) → HasPair pairs (0, start) → ((k : ℕ) → k < length pairs → AreFollowed table step pairs k) → (s : List ℕ) → IsRun table s → (k : ℕ) × (k < length pairs) × LeadsTo table step start s (pair_at pairs k)
  all_listed pairs first closed s run =
      let l = along pairs closed s (0, start) first run in
      (l.place, l.within, record { follows = run; node = ap (λ (p : ℕ × ℕ). p.0) (sym l.is); state = ap (λ (p : ℕ × ℕ). p.1) (sym l.is) })

  pub is_exploration : (found : Found) → HaveOrigins found → AreFound table step start found → ((k : ℕ) → k < length found.pairs → AreFollowed table step found.pairs k) → AreDistinct found.pairs → IsExploration table step start found.pairs
  is_exploration found o f closed distinct = record {
    reached = λ k h. each_reached found o f k k (omega arith) h;
    listed = all_listed found.pairs (record { place = 0; within = slice_get_within found.pairs 0 (0, start) f.first; is = first_is found f }) closed;
    distinct = distinct;
  }
