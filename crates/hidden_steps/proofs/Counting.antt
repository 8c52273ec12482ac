-- How many moves of a list are of a kind.
use Rattle.std.proofs.Common.{◌≡◌, ◌≤◌, ◌+◌, ℕ, List, [], ◌∷◌, length, Bool, true, false, if◌then◌else◌, refl, ap, arith}
use Rattle.hidden_steps.proofs.Moves.{Move}

abbrev pub one : Bool → ℕ
one b = if b then 1 else 0

abbrev pub count : (Move → Bool) → List Move → ℕ
count f [] = 0
count f (m ∷ ms) = one (f m) + count f ms

-- a fact of each move
abbrev pub Each : (Move → Type 0) → List Move → Type 0
Each P [] = Unit {0}
Each P (m ∷ ms) = P m × Each P ms

pub count_le : (f g : Move → Bool) (ms : List Move) → Each (λ m. one (f m) ≤ one (g m)) ms → count f ms ≤ count g ms
count_le f g [] h = omega arith
count_le f g (m ∷ ms) h =
    let here : one (f m) ≤ one (g m) = h.0 in
    let rest : count f ms ≤ count g ms = count_le f g ms h.1 in
    omega arith

pub count_le_sum : (f g h : Move → Bool) (ms : List Move) → Each (λ m. one (f m) ≤ one (g m) + one (h m)) ms → count f ms ≤ count g ms + count h ms
count_le_sum f g h [] a = omega arith
count_le_sum f g h (m ∷ ms) a =
    let here : one (f m) ≤ one (g m) + one (h m) = a.0 in
    let rest : count f ms ≤ count g ms + count h ms = count_le_sum f g h ms a.1 in
    omega arith

pub count_all : (f : Move → Bool) (ms : List Move) → Each (λ m. f m ≡ true) ms → length ms ≤ count f ms
count_all f [] a = omega arith
count_all f (m ∷ ms) a =
    let here : one (f m) ≡ 1 = ap one a.0 in
    let rest : length ms ≤ count f ms = count_all f ms a.1 in
    omega arith

pub count_none : (f : Move → Bool) (ms : List Move) → Each (λ m. f m ≡ false) ms → count f ms ≡ 0
count_none f [] a = refl
count_none f (m ∷ ms) a =
    let here : one (f m) ≡ 0 = ap one a.0 in
    let rest : count f ms ≡ 0 = count_none f ms a.1 in
    omega arith
