-- The network of a script: the tree of its components, over the script's program. What is proved of it.
use Rattle.std.specs.Prelude.{◌≡◌, ℕ, Ok, Err, List}
use Rattle.csp_program.specs.declared.processes.Proc.{Proc}
use Rattle.csp_program.specs.declared.programs.Content.{Content}
use Rattle.csp_tables.specs.Prelude.{Live, Component, NetworkStep, Tree, leaves, none, parallel, IsSilentBound}
use Rattle.csp_text.specs.declared.script.Script.{Script}
use Rattle.network_trees.specs.NetworkOf.{Walked, network_of}
use Rattle.network_trees.specs.Spelled.{IsSpelledBy}
use Rattle.process_steps.specs.ComponentStep.{ProcessStep}
use Rattle.script_names.specs.Program.{IsProgram}

-- a network: its components begin with processes over the program
pub record Network : Type 0 where
  pub program : Content
  pub tree : Tree Proc

-- the network is the one that its program spells
abbrev pub IsSpelled : Network → Type 0
IsSpelled network = IsSpelledBy network.program network.tree

-- the script has this network
pub record IsNetworkOf (script : Script) (network : Network) : Type 0 where
  pub program : IsProgram script network.program
  pub tree : IsSpelled network

-- From every state that some run reaches, at most `bound` silent steps follow one another, and a state without a silent step has an event.
abbrev pub IsLive : Network → ℕ → Type 0
IsLive network bound = Live (NetworkStep (ProcessStep network.program)) network.tree bound

-- the sum over the components of the greatest number of silent steps in a row
abbrev pub HasSilentBound : Network → ℕ → Type 0
HasSilentBound network bound = IsSilentBound (ProcessStep network.program) (leaves network.tree) bound

-- The rest is for the contracts of the stages: the network of a program that spells one.

abbrev pub tree_in : Walked (Tree Proc) → Tree Proc
tree_in (Ok tree) = tree
tree_in (Err f) = parallel none

unfoldable pub tree_at : Content → Tree Proc
tree_at p = tree_in (network_of p)

abbrev pub network_at : Content → Network
network_at p = record { program = p; tree = tree_at p }

-- the program spells a network, with these components
pub record AreSeatsOf (p : Content) (seats : List (Component Proc)) : Type 0 where
  pub spelled : IsSpelled (network_at p)
  pub are : seats ≡ leaves (tree_at p)
