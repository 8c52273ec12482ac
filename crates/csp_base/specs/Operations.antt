-- Operations on two sets, word by word.
use Rattle.std.specs.Prelude.{ℕ, ◌+◌, ◌==◌, nat_lt, bit_and, bit_or, Bool, ◌&&◌, ◌||◌, not, if◌then◌else◌, List, [], ◌∷◌, ◌++◌}
use Rattle.std.specs.Int.{bit_not, w64}
use Rattle.csp_base.specs.declared.operators.SetOp.{SetOp}
use Rattle.csp_base.specs.declared.operators.SetOp.TheVariants.{Union, Inter, Diff}

-- the word of the result, from the words of both
abbrev pub combined_of : SetOp → ℕ → ℕ → ℕ
combined_of Union left right = bit_or left right
combined_of Inter left right = bit_and left right
combined_of Diff left right = bit_and left (bit_not w64 right)

-- whether an event is in the result, by whether it is in both
abbrev pub keeps : SetOp → Bool → Bool → Bool
keeps Union left right = left || right
keeps Inter left right = left && right
keeps Diff left right = left && not right

-- the least number of a block of either
abbrev pub least_of : List (ℕ × ℕ) → List (ℕ × ℕ) → ℕ
least_of [] [] = 0
least_of [] (q ∷ qs) = q.0
least_of (p ∷ ps) [] = p.0
least_of (p ∷ ps) (q ∷ qs) = if nat_lt p.0 q.0 then p.0 else q.0

-- the word of the first block, where it has that number
abbrev pub first_word : List (ℕ × ℕ) → ℕ → ℕ
first_word [] number = 0
first_word (p ∷ ps) number = if p.0 == number then p.1 else 0

-- the blocks without the first, where it has that number
abbrev pub rest_after : List (ℕ × ℕ) → ℕ → List (ℕ × ℕ)
rest_after [] number = []
rest_after (p ∷ ps) number = if p.0 == number then ps else p ∷ ps

-- one more block at the end, unless its word is 0
abbrev pub with_word : List (ℕ × ℕ) → ℕ → ℕ → List (ℕ × ℕ)
with_word ps number word = if word == 0 then ps else ps ++ (number, word) ∷ []

-- one above the last number
abbrev pub end_from : ℕ → List (ℕ × ℕ) → ℕ
end_from least [] = least
end_from least (p ∷ ps) = end_from (p.0 + 1) ps
