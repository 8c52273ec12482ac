-- What the contracts of evaluation say of a scope. (For private contracts: no public one cites this.)
use Rattle.std.specs.Prelude.{ℕ, List}
use Rattle.csp_program.specs.Prelude.{Env, Gathered, Outcome}
use Rattle.csp_program.specs.declared.expressions.Gen.{Gen}
use Rattle.csp_program.specs.declared.programs.Content.{Content}
use Rattle.value_operators.specs.Env.{env_in}
use Rattle.csp_values.specs.Worth.{walk_worth}
use Rattle.csp_values.specs.declared.evaluation.Scope.{Scope}
use Rattle.csp_values.specs.declared.evaluation.Yield.{Yield}

-- what is said of a program, of so many uses and of an environment, said of a scope
abbrev pub under : {A : Type 0} → Scope → (Content → ℕ → Env → A) → A
under scope said = said scope.content.now scope.uses (env_in scope.names.now)

-- what all bindings add
abbrev pub walk_under : Scope → List Gen → Yield → Gathered → Outcome Gathered
walk_under scope gens yields state = walk_worth scope.content.now scope.uses gens yields.items.now yields.parts.now (env_in scope.names.now) state
