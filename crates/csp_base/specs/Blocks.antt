-- An event set as it is kept: blocks of 64 events. A block is a pair of a number b and a word:
-- bit k of the word says that event 64 * b + k is a member.
use Rattle.std.specs.Prelude.{ℕ, zero, suc, ◌+◌, ◌*◌, ◌/◌, ◌%◌, ◌^◌, ◌<◌, ◌≤◌, ◌==◌, Bool, if◌then◌else◌, List, [], ◌∷◌, ◌++◌}
use Rattle.std.specs.Int.{bit_at}

-- whether bit k of the word is 1
abbrev pub has_bit : ℕ → ℕ → Bool
has_bit word k = bit_at word k == 1

-- the events of the lowest bits of a word, `count` of them: bit k stands for the event `from` + k
unfoldable pub word_events : ℕ → ℕ → ℕ → List ℕ
word_events zero from word = []
word_events (suc count) from word =
    if has_bit word 0 then from ∷ word_events count (from + 1) (word / 2) else word_events count (from + 1) (word / 2)

-- the events of all blocks, in the order of the blocks
abbrev pub events_of : List (ℕ × ℕ) → List ℕ
events_of [] = []
events_of (p ∷ ps) = word_events 64 (64 * p.0) p.1 ++ events_of ps

-- the word of the block with that number, or 0 where there is no such block (numbers differ, so at most one summand is not 0)
abbrev pub word_at : List (ℕ × ℕ) → ℕ → ℕ
word_at [] number = 0
word_at (p ∷ ps) number = (if p.0 == number then p.1 else 0) + word_at ps number

-- the blocks rise strictly by number, from the given number on; no word is 0; each event is below 2 ^ 32
abbrev pub AreBlocksFrom : ℕ → List (ℕ × ℕ) → Type 0
AreBlocksFrom least [] = Unit {0}
AreBlocksFrom least (p ∷ ps) =
    (least ≤ p.0) × (p.0 < 2 ^ 26) × (0 < p.1) × (p.1 < 2 ^ 64) × AreBlocksFrom (p.0 + 1) ps

-- what is true of the blocks of each event set
abbrev pub AreBlocks : List (ℕ × ℕ) → Type 0
AreBlocks ps = AreBlocksFrom 0 ps

-- the blocks with one more bit in the block of that number, which comes before all others
abbrev pub with_bit : ℕ → ℕ → List (ℕ × ℕ) → List (ℕ × ℕ)
with_bit number bit [] = (number, bit) ∷ []
with_bit number bit (p ∷ ps) = if number == p.0 then (number, bit + p.1) ∷ ps else (number, bit) ∷ p ∷ ps

-- the blocks of a rising list of events
abbrev pub blocks_of : List ℕ → List (ℕ × ℕ)
blocks_of [] = []
blocks_of (x ∷ xs) = with_bit (x / 64) (2 ^ (x % 64)) (blocks_of xs)
