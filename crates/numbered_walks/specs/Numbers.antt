-- The numbers that choose the steps of a walk. A first sequence chooses among the options of a state, and a second one among the ways to take an option.
use Rattle.std.specs.Prelude.{ℕ, ◌+◌, ◌-◌, ◌*◌, ◌/◌, ◌%◌}

-- the number after a number, in either sequence
abbrev pub next_number : ℕ → ℕ
next_number x = (1103515245 * x + 12345) % 2147483648

-- the number after which those of the second sequence come, where those of the first come after the seed
abbrev pub first_draw : ℕ → ℕ
first_draw seed = 999999999 - seed

-- the place, counted from 0, that a number chooses among so many
abbrev pub place_among : ℕ → ℕ → ℕ
place_among x count = (x / 65536) % count
