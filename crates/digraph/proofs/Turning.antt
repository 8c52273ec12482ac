-- A ring of vertices, turned so that the least is the first, is a circle.
use Rattle.digraph.proofs.Prelude.{◌≡◌, ◌≢◌, ℕ, ◌+◌, ◌-◌, ◌<◌, ◌≤◌, List, [], ◌∷◌, ◌++◌, length, take, drop, get_or, nat_lt, refl, sym, ◌∙◌, inl, inr, ◌⊎◌, arith, IsFirstBest, length-append, length-take-le, length-drop, get_or-take, get_or-drop, get_or_append_left, get_or-append_right, cases_lt, Digraph, HasArc, IsCircle, IsLeastCircle, ltb-false, IsTurnedFrom}
use Rattle.digraph.proofs.WalkLaws.{Leads-from_places}

-- a circle of distinct vertices, place by place
pub record IsRing (g : Digraph) (vs : List ℕ) : Type 0 where
  pub not_empty : 0 < length vs
  pub arcs : (k : ℕ) → k + 1 < length vs → HasArc g (get_or vs k 0) (get_or vs (k + 1) 0)
  pub closes : HasArc g (get_or vs (length vs - 1) 0) (get_or vs 0 0)
  pub distinct : (j k : ℕ) → j < k → k < length vs → get_or vs j 0 ≢ get_or vs k 0

circle_of_ring : (g : Digraph) (vs : List ℕ) → IsRing g vs → IsCircle (HasArc g) vs
circle_of_ring g [] r = absurd (let h = r.not_empty in omega arith)
circle_of_ring g (v ∷ vs) r =
    let last : length (v ∷ vs) - 1 ≡ length vs = omega arith in
    let back = r.closes in
    Leads-from_places (HasArc g) v vs v r.arcs (rw last at back)

-- the part of a trail from a place on, where the last vertex has an arc back to that place
pub ring_from : (g : Digraph) (trail : List ℕ) (from : ℕ) → from < length trail → ((k : ℕ) → k + 1 < length trail → HasArc g (get_or trail k 0) (get_or trail (k + 1) 0)) → ((j k : ℕ) → j < k → k < length trail → get_or trail j 0 ≢ get_or trail k 0) → HasArc g (get_or trail (length trail - 1) 0) (get_or trail from 0) → IsRing g (drop from trail)
ring_from g trail from within arcs distinct back =
    let len : length (drop from trail) ≡ length trail - from = length-drop from trail in
    let at : (k : ℕ) → get_or (drop from trail) k 0 ≡ get_or trail (from + k) 0 = λ k. get_or-drop from trail k 0 in
    record {
      not_empty = omega arith;
      arcs = λ k h. rw (at k, at (k + 1)) (let e : from + (k + 1) ≡ (from + k) + 1 = omega arith in rw e (arcs (from + k) (omega arith)));
      closes = rw (at (length (drop from trail) - 1), at 0) (let e : from + 0 ≡ from = omega arith in let f : from + (length (drop from trail) - 1) ≡ length trail - 1 = omega arith in rw (e, f) back);
      distinct = λ j k h l. rw (at j, at k) (distinct (from + j) (from + k) (omega arith) (omega arith));
    }

-- the places i and j, in a ring of n, of the vertices at k and k + 1 of the list that begins at place m
turn_next : (m k i j n : ℕ) → i < n → j < n → (m + k ≡ i) ⊎ (m + k ≡ i + n) → (m + (k + 1) ≡ j) ⊎ (m + (k + 1) ≡ j + n) → (i + 1 < n → j ≡ i + 1) × (i + 1 ≡ n → j ≡ 0)
turn_next m k i j n a b (inl p) (inl q) = (λ l. omega arith, λ e. absurd (omega arith))
turn_next m k i j n a b (inl p) (inr q) = (λ l. absurd (omega arith), λ e. omega arith)
turn_next m k i j n a b (inr p) (inl q) = (λ l. absurd (omega arith), λ e. absurd (omega arith))
turn_next m k i j n a b (inr p) (inr q) = (λ l. omega arith, λ e. absurd (omega arith))

turn_back : (m i n : ℕ) → i < n → m < n → (m + (n - 1) ≡ i) ⊎ (m + (n - 1) ≡ i + n) → (i + 1 < n → m ≡ i + 1) × (i + 1 ≡ n → m ≡ 0)
turn_back m i n a b (inl p) = (λ l. absurd (omega arith), λ e. omega arith)
turn_back m i n a b (inr p) = (λ l. omega arith, λ e. absurd (omega arith))

turn_apart : (m j k i l n : ℕ) → j < k → k < n → i < n → l < n → (m + j ≡ i) ⊎ (m + j ≡ i + n) → (m + k ≡ l) ⊎ (m + k ≡ l + n) → i ≢ l
turn_apart m j k i l n a b c d (inl p) (inl q) e = absurd (omega arith)
turn_apart m j k i l n a b c d (inl p) (inr q) e = absurd (omega arith)
turn_apart m j k i l n a b c d (inr p) (inl q) e = absurd (omega arith)
turn_apart m j k i l n a b c d (inr p) (inr q) e = absurd (omega arith)

module _ (g : Digraph) (ring : List ℕ) (r : IsRing g ring) (m : ℕ) (best : IsFirstBest nat_lt ring (length ring) m) where
  in_ring : m < length ring
  in_ring = best.0

  front : length (drop m ring) ≡ length ring - m
  front = length-drop m ring

  back : length (take m ring) ≡ m
  back = length-take-le m ring (omega (arith, best.0))

  same_length : length (drop m ring ++ take m ring) ≡ length ring
  same_length = omega (arith, length-append (drop m ring) (take m ring), front, back, in_ring)

  -- where a vertex of the turned list stands in the ring
  place : (k : ℕ) → k < length ring → (i : ℕ) × (i < length ring) × (get_or (drop m ring ++ take m ring) k 0 ≡ get_or ring i 0) × ((m + k ≡ i) ⊎ (m + k ≡ i + length ring))
  place k h =
      elim (cases_lt (m + k) (length ring)) as (λ _. (i : ℕ) × (i < length ring) × (get_or (drop m ring ++ take m ring) k 0 ≡ get_or ring i 0) × ((m + k ≡ i) ⊎ (m + k ≡ i + length ring))) [
        | inl inside ↦ (m + k, inside, get_or_append_left (drop m ring) (take m ring) 0 k (omega (arith, front, in_ring)) ∙ get_or-drop m ring k 0, inl refl)
        | inr past ↦
            let i : ℕ = k - (length ring - m) in
            let below : i < m = omega (arith, in_ring) in
            (i, omega (arith, in_ring), get_or-append_right (drop m ring) (take m ring) (length ring - m) k 0 front (omega (arith, in_ring)) ∙ get_or-take m ring i 0 below, inr (omega (arith, in_ring)))
      ]

  -- the arc from a vertex of the ring to the next
  next : (i j : ℕ) → i < length ring → (i + 1 < length ring → j ≡ i + 1) → (i + 1 ≡ length ring → j ≡ 0) → HasArc g (get_or ring i 0) (get_or ring j 0)
  next i j h inside round =
      elim (cases_lt (i + 1) (length ring)) as (λ _. HasArc g (get_or ring i 0) (get_or ring j 0)) [
        | inl l ↦ rw (inside l) (r.arcs i l)
        | inr past ↦
            let at_end : i + 1 ≡ length ring = omega arith in
            let last : i ≡ length ring - 1 = omega arith in
            rw (round at_end, last) r.closes
      ]

  apart : (i j : ℕ) → i < length ring → j < length ring → i ≢ j → get_or ring i 0 ≢ get_or ring j 0
  apart i j h l other e =
      elim (cases_lt i j) as (λ _. ⊥) [
        | inl below ↦ r.distinct i j below l e
        | inr above ↦ r.distinct j i (omega arith) h (sym e)
      ]

  first : get_or (drop m ring ++ take m ring) 0 0 ≡ get_or ring m 0
  first =
      let p = place 0 r.not_empty in
      elim p.3 as (λ _. get_or (drop m ring ++ take m ring) 0 0 ≡ get_or ring m 0) [
        | inl e ↦ let f : p.0 ≡ m = omega arith in rw (p.2, f)
        | inr e ↦ absurd (omega (arith, in_ring))
      ]

  turned_arcs : (k : ℕ) → k + 1 < length (drop m ring ++ take m ring) → HasArc g (get_or (drop m ring ++ take m ring) k 0) (get_or (drop m ring ++ take m ring) (k + 1) 0)
  turned_arcs k h =
      let p = place k (omega (arith, same_length)) in
      let n = place (k + 1) (rw same_length at h) in
      rw (p.2, n.2) (let t = turn_next m k p.0 n.0 (length ring) p.1 n.1 p.3 n.3 in next p.0 n.0 p.1 t.0 t.1)

  turned_closes : HasArc g (get_or (drop m ring ++ take m ring) (length (drop m ring ++ take m ring) - 1) 0) (get_or (drop m ring ++ take m ring) 0 0)
  turned_closes =
      let p = place (length ring - 1) (omega (arith, in_ring)) in
      rw (same_length, p.2, first) (let t = turn_back m p.0 (length ring) p.1 in_ring p.3 in next p.0 m p.1 t.0 t.1)

  turned_distinct : (j k : ℕ) → j < k → k < length (drop m ring ++ take m ring) → get_or (drop m ring ++ take m ring) j 0 ≢ get_or (drop m ring ++ take m ring) k 0
  turned_distinct j k h l =
      let below : k < length ring = rw same_length at l in
      let p = place j (omega arith) in
      let q = place k below in
      rw (p.2, q.2) (apart p.0 q.0 p.1 q.1 (turn_apart m j k p.0 q.0 (length ring) h below p.1 q.1 p.3 q.3))

  turned_least : (k : ℕ) → 0 < k → k < length (drop m ring ++ take m ring) → get_or (drop m ring ++ take m ring) 0 0 < get_or (drop m ring ++ take m ring) k 0
  turned_least k h l =
      let below : k < length ring = rw same_length at l in
      let q = place k below in
      let other : get_or ring m 0 ≢ get_or ring q.0 0 = apart m q.0 in_ring q.1 (turn_apart m 0 k m q.0 (length ring) h below in_ring q.1 (inl (omega arith)) q.3) in
      let le : get_or ring m 0 ≤ get_or ring q.0 0 = ltb-false (get_or ring q.0 0) (get_or ring m 0) (best.1 q.0 0 q.1) in
      rw (first, q.2) (omega arith)

  turned_ring : IsRing g (drop m ring ++ take m ring)
  turned_ring = record {
    not_empty = rw same_length r.not_empty;
    arcs = turned_arcs;
    closes = turned_closes;
    distinct = turned_distinct;
  }

  pub turned_circle : IsLeastCircle (HasArc g) (drop m ring ++ take m ring)
  turned_circle = record {
    circle = circle_of_ring g (drop m ring ++ take m ring) turned_ring;
    distinct = turned_distinct;
    least_first = turned_least;
  }

-- a circle that is found on a trail
pub circle_on_trail : (g : Digraph) (trail : List ℕ) (first : ℕ) (circle : List ℕ) → ((k : ℕ) → k + 1 < length trail → HasArc g (get_or trail k 0) (get_or trail (k + 1) 0)) → ((j k : ℕ) → j < k → k < length trail → get_or trail j 0 ≢ get_or trail k 0) → HasArc g (get_or trail (length trail - 1) 0) first → IsTurnedFrom trail first circle → IsLeastCircle (HasArc g) circle
circle_on_trail g trail first circle arcs distinct back t =
    let ring = ring_from g trail t.from t.within arcs distinct (rw t.is_first back) in
    rw t.is_turned (turned_circle g (drop t.from trail) ring t.least t.is_least)
