-- What other libraries give, under one name for the files here.
pub use Rattle.name_tables.specs.Counted.{counts, total}
pub use Rattle.name_tables.specs.Ends.{rows}
pub use Rattle.name_tables.specs.Firsts.{SameFirsts}
pub use Rattle.name_tables.specs.Hidden.{HasNumbers, KeepHidden, Writes, shown}
pub use Rattle.name_tables.specs.Spelling.{at_name}
pub use Rattle.script_names.specs.Prelude.{Counts, Entities, Name, Scope, first_of, is_among, number_of, same_name}
pub use Rattle.std.specs.Prelude.{List, [], map, ℕ}
