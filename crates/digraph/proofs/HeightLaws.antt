-- Heights fall along arcs, so no circle has heights.
use Rattle.digraph.proofs.Prelude.{◌≡◌, ℕ, zero, suc, ◌+◌, ◌<◌, ◌≤◌, List, [], ◌∷◌, length, get_or, refl, inl, inr, ◌↔◌, IsTrue, true, nat_eq, eq-eqb, arith, cases_lt, false≢true, list_any_at, has, Digraph, targets_of, HasArc, InRange, Walk, IsLongestWalk, AreHeights, IsCircle}
use Rattle.digraph.proofs.Arcs.{HasArc-from}
use Rattle.digraph.proofs.WalkLaws.{no_longest, first_arc}

-- along an arc the longest walks get shorter
pub longest_falls : {V : Type 0} (Arc : V → V → Type 0) (x y : V) (m n : ℕ) → Arc x y → IsLongestWalk Arc x m → IsLongestWalk Arc y n → n < m
longest_falls Arc x y m n arc high low =
    let more : suc n ≤ m = high.most (suc n) low.end (y, arc, low.attained) in
    omega arith

pub heights_fall : (g : Digraph) (heights : List ℕ) → InRange g → AreHeights (HasArc g) (length g) heights → (v w : ℕ) → HasArc g v w → get_or heights w 0 < get_or heights v 0
heights_fall g heights kept h v w arc =
    longest_falls (HasArc g) v w (get_or heights v 0) (get_or heights w 0) arc (h.each v (HasArc-from g v w arc)) (h.each w (kept v w arc))

pub no_heights : (g : Digraph) (vs : List ℕ) → IsCircle (HasArc g) vs → (heights : List ℕ) → AreHeights (HasArc g) (length g) heights → ⊥
no_heights g [] circle heights h = circle
no_heights g (v ∷ vs) circle heights h =
    let arc = first_arc (HasArc g) v vs v circle in
    no_longest (HasArc g) (v ∷ vs) circle 0 (get_or heights v 0) (omega arith) (h.each v (HasArc-from g v arc.0 arc.1))

-- from a height above 0 some arc leads one lower
height_steps : (g : Digraph) (heights : List ℕ) → InRange g → AreHeights (HasArc g) (length g) heights → (n v z : ℕ) → Walk (HasArc g) n v z → n ≡ get_or heights v 0 → 0 < get_or heights v 0 → (w : ℕ) × HasArc g v w × (get_or heights v 0 ≡ get_or heights w 0 + 1)
height_steps g heights kept h zero v z walk e above = absurd (omega arith)
height_steps g heights kept h (suc n) v z walk e above =
    let w : ℕ = walk.0 in
    let l : get_or heights w 0 < get_or heights v 0 = heights_fall g heights kept h v w walk.1 in
    let m : n ≤ get_or heights w 0 = (h.each w (kept v w walk.1)).most n z walk.2 in
    (w, walk.1, omega arith)

pub heights_step : (g : Digraph) (heights : List ℕ) → InRange g → AreHeights (HasArc g) (length g) heights → (v : ℕ) → v < length g → 0 < get_or heights v 0 → (w : ℕ) × HasArc g v w × (get_or heights v 0 ≡ get_or heights w 0 + 1)
heights_step g heights kept h v below above =
    let a = h.each v below in
    height_steps g heights kept h (get_or heights v 0) v a.end a.attained refl above

-- a row that has nothing is empty
empty_row : (row : List ℕ) → ((w : ℕ) → IsTrue (has row w) → ⊥) → row ≡ []
empty_row [] none' = refl
empty_row (w ∷ ws) none' = absurd (none' w (list_any_at (λ y. nat_eq y w) (w ∷ ws) 0 0 (omega arith) (eq-eqb w w refl)))

-- heights are 0 just at sinks
pub heights_at_sinks : (g : Digraph) (heights : List ℕ) → InRange g → AreHeights (HasArc g) (length g) heights → (v : ℕ) → v < length g → (get_or heights v 0 ≡ 0) ↔ (targets_of g v ≡ [])
heights_at_sinks g heights kept h v below = (
  λ zero'. empty_row (targets_of g v) (λ w arc. absurd (omega (arith, heights_fall g heights kept h v w arc))),
  λ empty. elim (cases_lt 0 (get_or heights v 0)) as (λ _. get_or heights v 0 ≡ 0) [
    | inl above ↦
        let s = heights_step g heights kept h v below above in
        let arc : has (targets_of g v) s.0 ≡ true = s.1 in
        absurd (false≢true (rw empty at arc))
    | inr at_zero ↦ omega arith
  ],
)
