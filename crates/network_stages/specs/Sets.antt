-- Components whose traces lead to too many sets of terms, and the parts of those whose traces do not.
use Rattle.std.specs.Prelude.{◌≡◌, ℕ, ◌+◌, ◌<◌, Some, List, length, slice_get}
use Rattle.dl_limits.specs.declared.TheConstants.{MOST_SETS}
use Rattle.csp_program.specs.declared.processes.Proc.{Proc}
use Rattle.csp_program.specs.declared.programs.Content.{Content}
use Rattle.csp_tables.specs.Prelude.{Component, ComponentStep, Part, ArePartsOf}
use Rattle.determinise.specs.ManySets.{ReachesSets}
use Rattle.process_steps.specs.ComponentStep.{ProcessStep}

-- traces of the component lead to more sets of terms than may be
abbrev pub HasManySets : Content → Component Proc → Type 0
HasManySets p c = ReachesSets (ComponentStep (ProcessStep p)) c (MOST_SETS + 1)

-- no component before the place i has
abbrev pub HaveFewSetsBefore : Content → ℕ → List (Component Proc) → Type 0
HaveFewSetsBefore p i cs = (j : ℕ) (c : Component Proc) → j < i → slice_get cs j ≡ Some c → HasManySets p c → ⊥

-- no component has
abbrev pub HaveFewSets : Content → List (Component Proc) → Type 0
HaveFewSets p cs = HaveFewSetsBefore p (length cs) cs

-- the component with the number i is the first that has
pub record IsFirstWithManySets (p : Content) (cs : List (Component Proc)) (i : ℕ) : Type 0 where
  pub component : Component Proc
  pub at : slice_get cs i ≡ Some component
  pub many : HasManySets p component
  pub earlier : HaveFewSetsBefore p i cs

-- the components have few sets, and these are their parts
pub record ArePartsBy (p : Content) (cs : List (Component Proc)) (parts : List Part) : Type 0 where
  pub few : HaveFewSets p cs
  pub are : ArePartsOf (ProcessStep p) cs parts
