-- What the calls of the walk of a network answer. A fault is that of the definition, and want of memory is free.
use Rattle.std.specs.Prelude.{◌≡◌, ℕ, Some, Result, Ok, Err, List, [], ◌∷◌, ◌++◌, length}
use Rattle.dl_limits.specs.declared.TheConstants.{MOST_NETWORK_DEPTH}
use Rattle.csp_base.specs.Prelude.{Tells}
use Rattle.csp_base.specs.declared.stop.Stop.{Stop}
use Rattle.csp_atoms.specs.declared.atom.Atom.{Atom}
use Rattle.csp_atoms.specs.declared.value.Value.{Value}
use Rattle.csp_atoms.specs.declared.value.Value.TheVariants.{One}
use Rattle.csp_program.specs.Prelude.{with_bound, Outcome, given_by, proc_with, Env, bound_to}
use Rattle.csp_program.specs.declared.expressions.Expr.{Expr}
use Rattle.csp_program.specs.declared.kinds.ValueKind.{ValueKind}
use Rattle.csp_program.specs.declared.networks.Net.{Net}
use Rattle.csp_program.specs.declared.networks.Net.TheOpen.{Net-F}
use Rattle.csp_program.specs.declared.processes.Proc.{Proc}
use Rattle.csp_program.specs.declared.programs.Content.{Content}
use Rattle.csp_program.specs.declared.programs.Def.{Def}
use Rattle.csp_tables.specs.Network.{Component, Tree, leaves}
use Rattle.network_trees.specs.Joint.{joint}
use Rattle.process_steps.specs.Prelude.{events_under}
use Rattle.network_trees.specs.NetworkOf.{Walked, all_events, each_operand, goes_on, nested, network_called, next_component, side_by_side, tree_within, walked_node, with_value}
use Rattle.network_trees.specs.declared.fault.LayoutFault.{LayoutFault}
use Rattle.network_trees.specs.declared.fault.LayoutFault.TheVariants as fault
use Rattle.network_layout.specs.declared.values.Scope.{Scope}
use Rattle.network_layout.specs.declared.walk.Operand.{Operand}

-- the fault is the one that the walk meets
abbrev pub Fails : {A : Type 0} → Walked A → Stop LayoutFault → Type 0
Fails outcome = Tells (λ f. outcome ≡ Err f)

-- the walk makes a tree, and these are its components
pub record AreSeats (outcome : Walked (Tree Proc)) (seats : List (Component Proc)) : Type 0 where
  pub tree : Tree Proc
  pub spelled : outcome ≡ Ok tree
  pub whole : seats ≡ leaves tree

-- The rest serves private calls.

-- a value that is needed
abbrev pub Needs : {A : Type 0} → Result A (Stop LayoutFault) → Outcome A → Type 0
Needs (Ok a) outcome = outcome ≡ Ok a
Needs (Err stop) outcome = Tells (λ f. (why : ValueKind) × (outcome ≡ Err why) × (f ≡ fault.Value why)) stop

-- The walk makes a tree; the seats grew by its components, and these are the events that they have together.
pub record IsLaid (outcome : Walked (Tree Proc)) (old new : List (Component Proc)) (events : List ℕ) : Type 0 where
  pub tree : Tree Proc
  pub made : outcome ≡ Ok tree
  pub seats : new ≡ old ++ leaves tree
  pub together : events ≡ joint (leaves tree)

-- what a walk lays, which goes by the number of components before it
abbrev pub Lays : Result (List ℕ) (Stop LayoutFault) → (ℕ → Walked (Tree Proc)) → List (Component Proc) → List (Component Proc) → Type 0
Lays (Ok events) walk old new = IsLaid (walk (length old)) old new events
Lays (Err stop) walk old new = Fails (walk (length old)) stop

-- Where a walk stands: in a program, under names with their values, and so many nodes may still be entered.
pub record Place : Type 0 where
  pub program : Content
  pub env : Env
  pub levels : ℕ

abbrev pub names_of : Scope → Env
names_of scope = with_bound scope.bound.now (bound_to scope.params.now scope.args.now)

abbrev pub place_of : Scope → Place
place_of scope = record { program = scope.program.now; env = names_of scope; levels = scope.levels }

-- The walks from a place.
module _ (s : Place) where
  abbrev pub component : List ℕ → Proc → Component Proc
  component alphabet q = record { alphabet = alphabet; term = proc_with (given_by s.env) q }

  abbrev pub seated : List ℕ → Proc → ℕ → Walked (Tree Proc)
  seated alphabet q k = next_component k alphabet (proc_with (given_by s.env) q)

  -- a network in which no node may be entered
  abbrev pub leaf_walked : List ℕ → Net → ℕ → Walked (Tree Proc)
  leaf_walked alphabet n k = tree_within s.program 0 k alphabet s.env n

  abbrev pub walked : List ℕ → Net → ℕ → Walked (Tree Proc)
  walked alphabet n k = tree_within s.program s.levels k alphabet s.env n

  -- a node, of which the parts are walked
  unfoldable pub node : List ℕ → Net-F Net → ℕ → Walked (Tree Proc)
  node alphabet n k = walked_node s.program (tree_within s.program s.levels) k alphabet s.env n

  -- the body of a definition with the values of its arguments
  unfoldable pub body_walked : List ℕ → Def → List Value → ℕ → Walked (Tree Proc)
  body_walked alphabet def vs k = with_value (network_called (Some def) vs) (λ called. tree_within s.program s.levels k alphabet called.0 called.1)

  -- an operand with this alphabet, and with the one that the expression is worth
  unfoldable pub operand_walked : List ℕ → Net → ℕ → Walked (Tree Proc)
  operand_walked alphabet n k = goes_on (walked alphabet n k) (nested k alphabet)

  unfoldable pub one_operand : Operand → ℕ → Walked (Tree Proc)
  one_operand o k = with_value (events_under s.program s.env o.alphabet.now) (λ alphabet. operand_walked alphabet o.net.now k)

  abbrev pub pair_walked : Operand → Operand → ℕ → Walked (Tree Proc)
  pair_walked left right = node [] (Net-F.Pair left.net.now left.alphabet.now right.alphabet.now right.net.now)

  abbrev pub set_walked : ℕ → Expr → Operand → ℕ → Walked (Tree Proc)
  set_walked x values o = node [] (Net-F.Each x values o.alphabet.now o.net.now)

  -- an operand for each of these values of the name x
  unfoldable pub operands_each : ℕ → Operand → List Atom → ℕ → Walked (Tree Proc)
  operands_each x o vs k = side_by_side s.program (tree_within s.program s.levels) (each_operand s.program (tree_within s.program s.levels) s.env x o.alphabet.now o.net.now vs k)

  abbrev pub with_name : ℕ → Atom → Place
  with_name x v = record { program = s.program; env = (x, One v) ∷ s.env; levels = s.levels }

-- the walk of a whole program
abbrev pub whole_walk : Content → Walked (Tree Proc)
whole_walk p = tree_within p MOST_NETWORK_DEPTH 0 (all_events p) [] p.root
