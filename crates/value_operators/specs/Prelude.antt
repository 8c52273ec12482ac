-- What is defined here, under one name for those who import it.
pub use Rattle.value_operators.specs.Env.{ArePlaces, env_in, numbered_from, parameters}
pub use Rattle.value_operators.specs.Forms.{a_set, capped, count_with, gathered_set, inverse, named_set, negative, operation, produced, scaled}
pub use Rattle.value_operators.specs.Gives.{EvalFault, Gives, IsFault}
pub use Rattle.value_operators.specs.Operands.{decided_by, first_half, on_two_numbers}
pub use Rattle.value_operators.specs.Parted.{IsParted}
