-- Room for the table of a component: for the sizes of its terms together, and for its steps.
use Rattle.std.specs.Prelude.{ℕ}

pub record Room : Type 0 where
  pub nodes : ℕ
  pub steps : ℕ
