-- How a network is nested does not matter: its steps are those of its components side by side.
use Rattle.std.specs.Prelude.{List}
use Rattle.csp_program.specs.declared.processes.Proc.{Proc}
use Rattle.csp_tables.specs.Prelude.{FlatStep, Label, Component, NetworkStep, Tree, leaves, Reached}
use Rattle.net_sound.specs.Flattening.{StepsToLeaves}
use Rattle.network_stages.specs.Prelude.{IsSpelled, Network}
use Rattle.process_steps.specs.ComponentStep.{ProcessStep}

-- In each state that the network reaches, its steps are those of the list of its components.
pub record IsFlat (network : Network) : Type 0 where
  pub forth : (t u : Tree Proc) (l : Label) → Reached (NetworkStep (ProcessStep network.program)) network.tree t → NetworkStep (ProcessStep network.program) t l u → FlatStep (ProcessStep network.program) (leaves t) l (leaves u)
  pub back : (t : Tree Proc) (l : Label) (ds : List (Component Proc)) → Reached (NetworkStep (ProcessStep network.program)) network.tree t → FlatStep (ProcessStep network.program) (leaves t) l ds → StepsToLeaves (ProcessStep network.program) t l ds

abbrev pub NetworksAreFlat : Type 0
NetworksAreFlat = (network : Network) → IsSpelled network → IsFlat network
