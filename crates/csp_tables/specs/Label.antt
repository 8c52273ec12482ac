-- The labels of a labelled transition system of components (Roscoe, The Theory and Practice of Concurrency, 1997,
-- chapter 7): a step is silent, or it is an event that can be seen. An event is its number in the script's event table.
use Rattle.std.specs.Prelude.{ℕ}

pub data Label : Type 0 where
  silent : Label
  visible : ℕ → Label
