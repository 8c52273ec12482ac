-- What the head of a prefix stands for, as it is kept.
use Rattle.std.specs.Prelude.{◌≡◌, ℕ, ◌+◌, ◌≤◌, ◌^◌, Result, Some, Ok, Err, List, slice_get}
use Rattle.csp_atoms.specs.declared.atom.Atom.{Atom}
use Rattle.csp_program.specs.Prelude.{row_count, rows, Outcome}
use Rattle.csp_program.specs.declared.programs.Content.{Content}
use Rattle.process_steps.specs.Ways.{Among, event_among, sets_among}
use Rattle.step_values.specs.declared.heads.Start.{Start}
use Rattle.value_operators.specs.Gives.{EvalFault, IsFault}

-- the event of each row of values is that of its place among all rows, counted from the first event on; each has a number of 32 bits
pub record IsStart (p : Content) (start : Start) (among : Among) : Type 0 where
  pub sets : sets_among among ≡ start.sets.now
  pub event : (i : ℕ) (row : List Atom) → slice_get (rows start.sets.now) i ≡ Some row → event_among p among row ≡ start.first + i
  pub few : start.first + row_count start.sets.now ≤ 2 ^ 32

abbrev pub GivesStart : Content → Result Start EvalFault → Outcome Among → Type 0
GivesStart p (Ok start) outcome = (among : Among) × (outcome ≡ Ok among) × IsStart p start among
GivesStart p (Err fault) outcome = IsFault fault outcome
