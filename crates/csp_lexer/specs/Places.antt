-- Places in a text: lines and the bytes in them, counted from 1. A count that reaches its type's end stays there.
use Rattle.std.specs.Prelude.{ℕ, ◌+◌, ◌-◌, ◌^◌, min, nat_eq, if◌then◌else◌, List, fold}
use Rattle.csp_base.specs.declared.place.Place.{Place}

-- where a text begins
abbrev pub beginning : Place
beginning = record { line = 1; column = 1 }

-- the place behind a byte: a line feed ends its line
abbrev pub behind : Place → ℕ → Place
behind at b =
    if nat_eq b 10
    then record { line = min (at.line + 1) (2 ^ 32 - 1); column = 1 }
    else record { line = at.line; column = min (at.column + 1) (2 ^ 32 - 1) }

-- the place behind some bytes
abbrev pub behind_all : Place → List ℕ → Place
behind_all at bytes = fold behind at bytes
