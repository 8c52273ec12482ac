-- Numbers as one to six decimal digits. (For private contracts: no public one cites this.)
use Rattle.std.specs.Prelude.{◌≡◌, ◌+◌, ◌-◌, ◌*◌, ◌<◌, ◌≤◌, ℕ, List, [], ◌∷◌, EachIndex, length, slice_index}
use Rattle.std.specs.Int.{IsInRange}

-- the number that n becomes where these digits follow its own
abbrev pub continued : ℕ → List ℕ → ℕ
continued n [] = n
continued n (digit ∷ digits) = continued (n * 10 + (digit - 48)) digits

-- the number that the digits are
abbrev pub numeral_value : List ℕ → ℕ
numeral_value digits = continued 0 digits

-- there is a byte, and a zero stands first only where it is the only one
pub record HasPlainFront (word : List ℕ) : Type 0 where
  pub some : 0 < length word
  pub front : slice_index word 0 ≡ 48 → length word ≡ 1

pub record IsShortNumeral (word : List ℕ) : Type 0 where
  pub short : length word ≤ 6
  pub plain : HasPlainFront word
  pub digits : EachIndex word (λ k. IsInRange 48 57 (slice_index word k))
