-- The order of two sets as lists, read off two words.
use Rattle.std.specs.Prelude.{ℕ, ◌/◌, ◌^◌, ◌==◌, Bool, ◌||◌, not, if◌then◌else◌}
use Rattle.csp_base.specs.Standard.{Ordering, Less, Greater}
use Rattle.csp_base.specs.Blocks.{has_bit}

-- how two sets compare that differ first in one block: the lowest bit in which their words differ decides.
-- Who has it is less, unless the other has no later event: then the other ends there. `more` says that blocks follow
abbrev pub word_order_at : ℕ → ℕ → Bool → ℕ → Bool → Ordering
word_order_at k left left_more right right_more =
    if has_bit left k
    then (if right_more || not (right / 2 ^ k == 0) then Less else Greater)
    else (if left_more || not (left / 2 ^ k == 0) then Greater else Less)
