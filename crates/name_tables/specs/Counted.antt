-- The numbers that are counted while declarations are read.
use Rattle.std.specs.Prelude.{◌+◌, ℕ}
use Rattle.script_names.specs.Prelude.{Counts}
use Rattle.name_tables.specs.declared.declared.Numbers.{Numbers}

abbrev pub counts : Numbers → Counts
counts n = record { channels = n.channels; constants = n.constants; definitions = n.definitions }

-- how many names were declared
abbrev pub total : Counts → ℕ
total n = n.channels + n.constants + n.definitions
