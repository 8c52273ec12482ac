-- What other libraries give, under one name for the files here.
pub use Rattle.definition_kinds.specs.Found.{AreFound, IsFound}
pub use Rattle.definition_kinds.specs.Sources.{AreLeading}
pub use Rattle.script_names.specs.Prelude.{LeadsTo, first_ends}
pub use Rattle.std.specs.Prelude.{Bool, IsTrue, List, false, length, nat_eq, nat_lt, slice_get, slice_index_or, true, ℕ}
