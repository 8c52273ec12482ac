-- What is defined here, under one name for those who import it.
pub use Rattle.local_tables.specs.Component.{AreSteps, AreTerms, AreTermsOf, IsInside, part_of, step_count}
pub use Rattle.local_tables.specs.Faults.{CanEnd, LacksTable, Reaches, TaskLacks}
pub use Rattle.local_tables.specs.Laws.{FaultsExcludeTables}
pub use Rattle.local_tables.specs.LocalTable.{IsInOrder, IsLocalTable}
pub use Rattle.local_tables.specs.Progress.{AreFound, AreLed, AreRows, AreTabled, AreTaken, IsAt, IsFollowed, IsRow, IsTabled, IsUpTo, IsWithin, LeadsToTerm, Origin, counted_size, first_found, label_of, process_label, step_events, step_more, terms_at, with_term}
pub use Rattle.local_tables.specs.Room.{Room}
pub use Rattle.local_tables.specs.declared.task.Task.{Task}
