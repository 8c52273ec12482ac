-- Numbers that rise along arcs leave no circle. Longest walks among finitely many vertices: the numbers fall along arcs, and each is below the number of vertices.
use Rattle.design_rules.proofs.Prelude.{◌≡◌, ℕ, zero, suc, ◌+◌, ◌<◌, ◌≤◌, inl, inr, List, [], ◌∷◌, nat_lt, refl, sym, subst, ◌∙◌, arith, lt-ltb, le-ltb, ltb-true, cases_eq, count_below, Walk, IsLongestWalk, Leads, IsCircle}
use Rattle.design_rules.proofs.Counts.{count_strict, count_at_most}

-- n vertices, with the longest walk from each
pub record Graph (Arc : ℕ → ℕ → Type 0) (height : ℕ → ℕ) (n : ℕ) : Type 0 where
  pub within : (x y : ℕ) → Arc x y → y < n
  pub longest : (x : ℕ) → x < n → IsLongestWalk Arc x (height x)

pub falls : (Arc : ℕ → ℕ → Type 0) (height : ℕ → ℕ) (n : ℕ) → Graph Arc height n → (x y : ℕ) → x < n → Arc x y → height y < height x
falls Arc height n g x y h a =
    let w = g.longest y (g.within x y a) in
    (g.longest x h).most (suc (height y)) w.end (y, a, w.attained)

record Level (height : ℕ → ℕ) (n m : ℕ) : Type 0 where
  vertex : ℕ
  within : vertex < n
  is : height vertex ≡ m

-- along a longest walk stands a vertex of each lower height
level : (Arc : ℕ → ℕ → Type 0) (height : ℕ → ℕ) (n : ℕ) → Graph Arc height n → (h x m : ℕ) → x < n → height x ≡ h → m ≤ h → Level height n m
level Arc height n g zero x m l e le = record { vertex = x; within = l; is = let z : m ≡ 0 = omega arith in e ∙ sym z }
level Arc height n g (suc h) x m l e le =
    let w = g.longest x l in
    let walk = subst (λ k. Walk Arc k x w.end) e w.attained in
    let inside : walk.0 < n = g.within x walk.0 walk.1 in
    let more : h ≤ height walk.0 = (g.longest walk.0 inside).most h w.end walk.2 in
    let less : height walk.0 < height x = falls Arc height n g x walk.0 l walk.1 in
    elim (cases_eq m (suc h)) [
      | inl top ↦ record { vertex = x; within = l; is = e ∙ sym top }
      | inr lower ↦ level Arc height n g h walk.0 m inside (omega arith) (omega arith)
    ]

many : (Arc : ℕ → ℕ → Type 0) (height : ℕ → ℕ) (n : ℕ) → Graph Arc height n → (x : ℕ) → x < n → (m : ℕ) → m ≤ height x + 1 → m ≤ count_below (λ y. nat_lt (height y) m) n
many Arc height n g x l zero le = omega arith
many Arc height n g x l (suc m) le =
    let v = level Arc height n g (height x) x m l refl (omega arith) in
    let rest : m ≤ count_below (λ y. nat_lt (height y) m) n = many Arc height n g x l m (omega arith) in
    let is : height v.vertex ≡ m = v.is in
    let more : count_below (λ y. nat_lt (height y) m) n < count_below (λ y. nat_lt (height y) (suc m)) n =
    count_strict (λ y. nat_lt (height y) m) (λ y. nat_lt (height y) (suc m)) n v.vertex (λ y _ k. let lt : height y < m = ltb-true (height y) m k in lt-ltb (height y) (suc m) (omega arith)) v.within (le-ltb (height v.vertex) m (omega arith)) (lt-ltb (height v.vertex) (suc m) (omega arith)) in
    omega arith

pub height_below : (Arc : ℕ → ℕ → Type 0) (height : ℕ → ℕ) (n : ℕ) → Graph Arc height n → (x : ℕ) → x < n → height x < n
height_below Arc height n g x l =
    let all : height x + 1 ≤ count_below (λ y. nat_lt (height y) (height x + 1)) n = many Arc height n g x l (height x + 1) (omega arith) in
    omega (arith, all, count_at_most (λ y. nat_lt (height y) (height x + 1)) n)

-- ---- numbers that rise along arcs

rises_along : (Arc : ℕ → ℕ → Type 0) (number : ℕ → ℕ) → ((x y : ℕ) → Arc x y → number x < number y) → (x y : ℕ) (vs : List ℕ) → Leads Arc x vs y → number x < number y
rises_along Arc number rise x y [] arc = rise x y arc
rises_along Arc number rise x y (v ∷ vs) arcs =
    let first : number x < number v = rise x v arcs.0 in
    let rest : number v < number y = rises_along Arc number rise v y vs arcs.1 in
    omega arith

pub no_circle : (Arc : ℕ → ℕ → Type 0) (number : ℕ → ℕ) → ((x y : ℕ) → Arc x y → number x < number y) → (vs : List ℕ) → IsCircle Arc vs → ⊥
no_circle Arc number rise [] c = c
no_circle Arc number rise (v ∷ vs) c = let less : number v < number v = rises_along Arc number rise v v vs c in omega arith

-- and bound the walks against the arcs
pub walk_bound : (Arc : ℕ → ℕ → Type 0) (number : ℕ → ℕ) → ((x y : ℕ) → Arc x y → number y < number x) → (n x y : ℕ) → Walk Arc n x y → n ≤ number x
walk_bound Arc number fall zero x y w = omega arith
walk_bound Arc number fall (suc n) x y w =
    let rest : n ≤ number w.0 = walk_bound Arc number fall n w.0 y w.2 in
    let less : number w.0 < number x = fall x w.0 w.1 in
    omega arith
