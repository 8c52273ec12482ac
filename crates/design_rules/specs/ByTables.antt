-- The parts of a shape, read by their tables: this is what the deciders go by.
use Rattle.std.specs.Prelude.{◌≡◌, ℕ, List}
use Rattle.csp_tables.specs.Prelude.{Shape, RunsTo, IsPossible, Accepts, accepted}
use Rattle.design_rules.specs.Behaviours.{Behaviours}

-- after the run s the part in place i accepts exactly M, at some place of its table, and M lies in the vocabulary
pub record AcceptsSet (shape : Shape) (i : ℕ) (s M : List ℕ) : Type 0 where
  pub place : ℕ
  pub at : Accepts shape i s place
  pub is : accepted shape i s place ≡ M

abbrev pub by_tables : Shape → Behaviours
by_tables shape = record {
  trace = RunsTo shape;
  possible = IsPossible shape;
  accepts = AcceptsSet shape;
}
