-- Lists of numbers that rise: what trees bind is numbered in turn.
use Rattle.resolved_laws.proofs.Sources.{◌≡◌, ℕ, zero, suc, ◌+◌, ◌≤◌, Some, List, [], ◌∷◌, ◌++◌, refl, ap, arith, slice_get, EachOnce}

-- the list rises strictly, from n on and below m
abbrev pub Rises : ℕ → List ℕ → ℕ → Type 0
Rises n [] m = n ≤ m
Rises n (x ∷ xs) m = (n ≤ x) × Rises (x + 1) xs m

pub record InTurn (n : ℕ) (xs : List ℕ) (m : ℕ) : Type 0 where
  pub rises : Rises n xs m

sooner : (n k : ℕ) (xs : List ℕ) (m : ℕ) → n ≤ k → Rises k xs m → Rises n xs m
sooner n k [] m l h = omega arith
sooner n k (x ∷ xs) m l h = let g : k ≤ x = h.0 in ((omega arith), h.1)

appended : (n : ℕ) (xs : List ℕ) (m : ℕ) (ys : List ℕ) (k : ℕ) → Rises n xs m → Rises m ys k → Rises n (xs ++ ys) k
appended n [] m ys k h g = sooner n m ys k h g
appended n (x ∷ xs) m ys k h g = (h.0, appended (x + 1) xs m ys k h.1 g)

pub none : {n : ℕ} → InTurn n [] n
none {n} = record { rises = omega arith }

pub first : {n m : ℕ} {xs : List ℕ} → InTurn (n + 1) xs m → InTurn n (n ∷ xs) m
first {n} h = record { rises = ((omega arith), h.rises) }

pub joins : {n i m : ℕ} {xs ys : List ℕ} → InTurn n xs i → InTurn i ys m → InTurn n (xs ++ ys) m
joins {n} {i} {m} {xs} {ys} h g = record { rises = appended n xs i ys m h.rises g.rises }

from_first : (n : ℕ) (xs : List ℕ) (m j x : ℕ) → Rises n xs m → slice_get xs j ≡ Some x → n ≤ x
from_first n [] m j x h e = absurd (cc)
from_first n (y ∷ ys) m zero x h e = let g : n ≤ y = h.0 in let i : y ≡ x = cc in omega arith
from_first n (y ∷ ys) m (suc j) x h e =
    let g : n ≤ y = h.0 in
    let i : y + 1 ≤ x = from_first (y + 1) ys m j x h.1 e in
    omega arith

rises_once : (n : ℕ) (xs : List ℕ) (m : ℕ) → Rises n xs m → EachOnce xs
rises_once n [] m h j k x d e = absurd (cc)
rises_once n (y ∷ ys) m h zero zero x d e = refl
rises_once n (y ∷ ys) m h zero (suc k) x d e =
    let i : y ≡ x = cc in
    let l : y + 1 ≤ x = from_first (y + 1) ys m k x h.1 e in
    absurd (omega arith)
rises_once n (y ∷ ys) m h (suc j) zero x d e =
    let i : y ≡ x = cc in
    let l : y + 1 ≤ x = from_first (y + 1) ys m j x h.1 d in
    absurd (omega arith)
rises_once n (y ∷ ys) m h (suc j) (suc k) x d e = ap (λ i. suc i) (rises_once (y + 1) ys m h.1 j k x d e)

-- what rises has each number once
pub each_once : {n m : ℕ} {xs : List ℕ} → InTurn n xs m → EachOnce xs
each_once {n} {m} {xs} h = rises_once n xs m h.rises
