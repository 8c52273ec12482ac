-- The names that the evaluator keeps: the parameters of a definition with the values of its arguments, and over them the names that generators
-- bind, the last one bound at the end.
use Rattle.std.specs.Prelude.{◌≡◌, ℕ, ◌+◌, ◌<◌, List, [], ◌∷◌, ◌++◌, length, get_or}
pub use Rattle.csp_program.specs.Environments.{with_bound}
use Rattle.csp_program.specs.Value.{Env, bound_to}
use Rattle.csp_atoms.specs.declared.value.Value.{Value}
use Rattle.value_operators.specs.declared.names.Names.{Names}

-- whether the number of each parameter is its place
abbrev pub ArePlaces : List ℕ → Type 0
ArePlaces params = (i : ℕ) → i < length params → get_or params i 0 ≡ i

-- values whose numbers are their places, counted from k
abbrev pub numbered_from : ℕ → List Value → Env
numbered_from k [] = []
numbered_from k (v ∷ vs) = (k, v) ∷ numbered_from (k + 1) vs

-- the parameters with the values of the arguments
abbrev pub parameters : Names → Env
parameters names = bound_to names.params.now names.args.now ++ numbered_from 0 names.placed.now

abbrev pub env_in : Names → Env
env_in names = with_bound names.bound.now (parameters names)
