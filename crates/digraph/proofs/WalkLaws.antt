-- Walks, heights and circles over any relation of arcs.
use Rattle.digraph.proofs.Prelude.{◌≡◌, ℕ, zero, suc, ◌+◌, ◌<◌, ◌≤◌, List, [], ◌∷◌, length, get_or, refl, sym, subst, arith, Walk, Reaches, IsLongestWalk, AreHeights, Leads, IsCircle, HasNoCircle, IsLeastCircle}

-- one arc more at the end of a walk
pub Walk-arc : {V : Type 0} (Arc : V → V → Type 0) (n : ℕ) (x y z : V) → Walk Arc n x y → Arc y z → Walk Arc (suc n) x z
Walk-arc Arc zero x y z walk arc = (z, subst (λ u. Arc u z) (sym walk) arc, refl)
Walk-arc Arc (suc n) x y z walk arc = (walk.0, walk.1, Walk-arc Arc n walk.0 y z walk.2 arc)

pub Reaches-itself : {V : Type 0} (Arc : V → V → Type 0) (x : V) → Reaches Arc x x
Reaches-itself Arc x = (0, refl)

pub Reaches-arc : {V : Type 0} (Arc : V → V → Type 0) (x y z : V) → Reaches Arc x y → Arc y z → Reaches Arc x z
Reaches-arc Arc x y z r arc = (suc r.0, Walk-arc Arc r.0 x y z r.1 arc)

-- a walk over some arcs is one over any relation that has these arcs
module _ {V : Type 0} (A B : V → V → Type 0) (arcs : (x y : V) → A x y → B x y) where
  pub same_walk : (n : ℕ) (x y : V) → Walk A n x y → Walk B n x y
  same_walk zero x y walk = walk
  same_walk (suc n) x y walk = (walk.0, arcs x walk.0 walk.1, same_walk n walk.0 y walk.2)

  same_leads : (x : V) (vs : List V) (y : V) → Leads A x vs y → Leads B x vs y
  same_leads x [] y arc = arcs x y arc
  same_leads x (v ∷ vs) y l = (arcs x v l.0, same_leads v vs y l.1)

  pub same_circle : (vs : List V) → IsCircle A vs → IsCircle B vs
  same_circle [] c = c
  same_circle (v ∷ vs) c = same_leads v vs v c

pub same_longest : {V : Type 0} (A B : V → V → Type 0) → ((x y : V) → A x y → B x y) → ((x y : V) → B x y → A x y) → (x : V) (h : ℕ) → IsLongestWalk A x h → IsLongestWalk B x h
same_longest A B forth back x h l = record {
  end = l.end;
  attained = same_walk A B forth h x l.end l.attained;
  most = λ n y walk. l.most n y (same_walk B A back n x y walk);
}

pub same_heights : (A B : ℕ → ℕ → Type 0) → ((x y : ℕ) → A x y → B x y) → ((x y : ℕ) → B x y → A x y) → (count : ℕ) (heights : List ℕ) → AreHeights A count heights → AreHeights B count heights
same_heights A B forth back count heights h = record { one_each = h.one_each; each = λ v below. same_longest A B forth back v (get_or heights v 0) (h.each v below) }

pub same_least_circle : (A B : ℕ → ℕ → Type 0) → ((x y : ℕ) → A x y → B x y) → (vs : List ℕ) → IsLeastCircle A vs → IsLeastCircle B vs
same_least_circle A B arcs vs c = record { circle = same_circle A B arcs vs c.circle; distinct = c.distinct; least_first = c.least_first }

pub same_no_circle : {V : Type 0} (A B : V → V → Type 0) → ((x y : V) → B x y → A x y) → HasNoCircle A → HasNoCircle B
same_no_circle A B arcs none' vs circle = none' vs (same_circle B A arcs vs circle)

-- from a vertex of a circle walks go on for ever
endless : {V : Type 0} (Arc : V → V → Type 0) (v : V) (vs : List V) → Leads Arc v vs v → (n : ℕ) (x : V) (rest : List V) → Leads Arc x rest v → (y : V) × Walk Arc n x y
endless Arc v vs circle zero x rest l = (x, refl)
endless Arc v vs circle (suc n) x [] l = let w = endless Arc v vs circle n v vs circle in (w.0, (v, l, w.1))
endless Arc v vs circle (suc n) x (u ∷ us) l = let w = endless Arc v vs circle n u us l.1 in (w.0, (u, l.0, w.1))

-- what arcs lead over from the vertex in a place on
from_place : (Arc : ℕ → ℕ → Type 0) (x : ℕ) (vs : List ℕ) (y : ℕ) → Leads Arc x vs y → (k : ℕ) → k < length (x ∷ vs) → (rest : List ℕ) × Leads Arc (get_or (x ∷ vs) k 0) rest y
from_place Arc x vs y l zero h = (vs, l)
from_place Arc x [] y l (suc k) h = absurd (omega arith)
from_place Arc x (v ∷ vs) y l (suc k) h = from_place Arc v vs y l.1 k (omega arith)

-- so no vertex of a circle has a longest walk
pub no_longest : (Arc : ℕ → ℕ → Type 0) (vs : List ℕ) → IsCircle Arc vs → (k n : ℕ) → k < length vs → IsLongestWalk Arc (get_or vs k 0) n → ⊥
no_longest Arc [] circle k n h longest = circle
no_longest Arc (v ∷ vs) circle k n h longest =
    let l = from_place Arc v vs v circle k h in
    let w = endless Arc v vs circle (suc n) (get_or (v ∷ vs) k 0) l.0 l.1 in
    let most : suc n ≤ n = longest.most (suc n) w.0 w.1 in
    absurd (omega arith)

-- the first arc
pub first_arc : {V : Type 0} (Arc : V → V → Type 0) (x : V) (vs : List V) (y : V) → Leads Arc x vs y → (u : V) × Arc x u
first_arc Arc x [] y l = (y, l)
first_arc Arc x (v ∷ vs) y l = (v, l.0)

-- arcs from each vertex of a list to the next, and from the last on
pub Leads-from_places : (Arc : ℕ → ℕ → Type 0) (x : ℕ) (vs : List ℕ) (y : ℕ) → ((k : ℕ) → k + 1 < length (x ∷ vs) → Arc (get_or (x ∷ vs) k 0) (get_or (x ∷ vs) (k + 1) 0)) → Arc (get_or (x ∷ vs) (length vs) 0) y → Leads Arc x vs y
Leads-from_places Arc x [] y arcs last = last
Leads-from_places Arc x (v ∷ vs) y arcs last =
    (arcs 0 (omega arith), Leads-from_places Arc v vs y (λ k h. let e : suc k + 1 ≡ suc (k + 1) = omega arith in let a = arcs (suc k) (omega arith) in rw e at a) last)
