-- The walk of a program's network: the tree that the program spells (`Spelled`), or the first fault that is met. The walk goes depth first from the left.
--
-- What decides which fault comes first:
-- Both alphabets of a parallel are evaluated before its operands are walked, those of a replicated one each at its turn.
-- A component more than MOST_COMPONENTS is told where it is met, and an alphabet that differs from those of its components as soon as these are walked.
-- A leaf is no nested node, however deep it stands. A node that stands too deep is told before anything in it is evaluated.
-- That the network has no component is told last.
use Rattle.std.specs.Prelude.{ℕ, zero, suc, ◌+◌, nat_lt, Bool, if◌then◌else◌, Option, Some, None, Result, Ok, Err, List, [], ◌∷◌, length, slice_get}
use Rattle.std.specs.List.{range_with_len}
use Rattle.dl_limits.specs.declared.TheConstants.{MOST_COMPONENTS, MOST_NETWORK_DEPTH}
use Rattle.csp_atoms.specs.declared.atom.Atom.{Atom}
use Rattle.csp_atoms.specs.declared.value.Value.{Value}
use Rattle.csp_atoms.specs.declared.value.Value.TheVariants.{One}
use Rattle.csp_program.specs.Prelude.{Outcome, and_then, given_by, proc_with, Env, bound_to}
use Rattle.csp_program.specs.declared.expressions.Expr.{Expr}
use Rattle.csp_program.specs.declared.kinds.ValueKind.TheVariants.{Kind}
use Rattle.csp_program.specs.declared.networks.Net.{Net}
use Rattle.csp_program.specs.declared.networks.Net.TheOpen.{Net-F}
use Rattle.csp_program.specs.declared.networks.Net.TheViews.{out-Net}
use Rattle.csp_program.specs.declared.processes.Proc.{Proc}
use Rattle.csp_program.specs.declared.programs.Body.{Body}
use Rattle.csp_program.specs.declared.programs.Content.{Content}
use Rattle.csp_program.specs.declared.programs.Def.{Def}
use Rattle.csp_tables.specs.Prelude.{Component, Tree, Operands, leaves, leaf, parallel, none, operand}
use Rattle.process_steps.specs.Prelude.{arguments_under, events_under, set_under, truth_under}
use Rattle.network_trees.specs.Joint.{joint, odd_event}
use Rattle.csp_program.specs.declared.programs.Body.TheVariants as body
use Rattle.network_trees.specs.declared.fault.LayoutFault.{LayoutFault}
use Rattle.network_trees.specs.declared.fault.LayoutFault.TheVariants as fault

-- what a walk comes to: what it made, or the first fault that it met
abbrev pub Walked : Type 0 → Type 0
Walked A = Result A LayoutFault

-- the next step, unless there was a fault
abbrev pub goes_on : {A B : Type 0} → Walked A → (A → Walked B) → Walked B
goes_on (Ok a) next = next a
goes_on (Err f) next = Err f

-- the next step with a value that it needs
abbrev pub with_value : {A B : Type 0} → Outcome A → (A → Walked B) → Walked B
with_value (Ok a) next = next a
with_value (Err why) next = Err (fault.Value why)

-- a component, which so many others come before: there are at most MOST_COMPONENTS
abbrev pub next_component : ℕ → List ℕ → Proc → Walked (Tree Proc)
next_component k alphabet q = if nat_lt k MOST_COMPONENTS then Ok (leaf (record { alphabet = alphabet; term = q })) else Err fault.ComponentLimit

-- the tree of an operand, the first component of which has the number k, unless an event is in its alphabet or in those of its components alone
abbrev pub agreed : ℕ → Tree Proc → Option ℕ → Walked (Tree Proc)
agreed k tree None = Ok tree
agreed k tree (Some e) = Err (fault.BadNesting k (length (leaves tree)) e)

abbrev pub nested : ℕ → List ℕ → Tree Proc → Walked (Tree Proc)
nested k alphabet tree = agreed k tree (odd_event alphabet (joint (leaves tree)))

-- what expressions are worth under names with their values
-- the body of a definition of a network
abbrev pub network_in : Body → Outcome Net
network_in (body.Network n) = Ok n
network_in _ = Err Kind

-- the network of a definition, under its parameters with the values of the arguments
abbrev pub network_called : Option Def → List Value → Outcome (Env × Net)
network_called None vs = Err Kind
network_called (Some def) vs = and_then (network_in def.body) (λ n. Ok (bound_to def.params vs, n))

-- The walk of one node: below walks a network that stands in it, with the number of components before it, with its alphabet and under these names.
module _ (p : Content) (below : ℕ → List ℕ → Env → Net → Walked (Tree Proc)) where
  -- an operand, and after it the others
  abbrev pub operand_first : ℕ → List ℕ → Env → Net → (ℕ → Walked (Operands Proc)) → Walked (Operands Proc)
  operand_first k alphabet env n others =
      goes_on (goes_on (below k alphabet env n) (nested k alphabet)) (λ tree.
      goes_on (others (k + length (leaves tree))) (λ operands. Ok (operand alphabet tree operands)))

  -- an operand for each value of the name x
  abbrev pub each_operand : Env → ℕ → Expr → Net → List Atom → ℕ → Walked (Operands Proc)
  each_operand env x a n [] k = Ok none
  each_operand env x a n (v ∷ vs) k =
      with_value (events_under p ((x, One v) ∷ env) a) (λ alphabet. operand_first k alphabet ((x, One v) ∷ env) n (each_operand env x a n vs))

  abbrev pub two_operands : ℕ → Env → List ℕ → Net → List ℕ → Net → Walked (Operands Proc)
  two_operands k env left n right m = operand_first k left env n (λ j. operand_first j right env m (λ _. Ok none))

  abbrev pub side_by_side : Walked (Operands Proc) → Walked (Tree Proc)
  side_by_side operands = goes_on operands (λ os. Ok (parallel os))

  abbrev pub walked_node : ℕ → List ℕ → Env → Net-F Net → Walked (Tree Proc)
  walked_node k alphabet env (Net-F.Leaf q) = next_component k alphabet (proc_with (given_by env) q)
  walked_node k alphabet env (Net-F.Call d args) =
      with_value (arguments_under p env args) (λ vs. with_value (network_called (slice_get p.defs d) vs) (λ called. below k alphabet called.0 called.1))
  walked_node k alphabet env (Net-F.If c n m) = with_value (truth_under p env c) (λ b. below k alphabet env (if b then n else m))
  walked_node k alphabet env (Net-F.Pair n a b m) =
      with_value (events_under p env a) (λ left. with_value (events_under p env b) (λ right. side_by_side (two_operands k env left n right m)))
  walked_node k alphabet env (Net-F.Each x s a n) = with_value (set_under p env s) (λ atoms. side_by_side (each_operand env x a n atoms k))

-- where no more nodes may be entered, one inside another
abbrev pub walked_leaf : ℕ → List ℕ → Env → Net-F Net → Walked (Tree Proc)
walked_leaf k alphabet env (Net-F.Leaf q) = next_component k alphabet (proc_with (given_by env) q)
walked_leaf _ _ _ _ = Err fault.NetworkDepth

-- the walk of a network, where so many nodes may still be entered, one inside another
unfoldable pub tree_within : Content → ℕ → ℕ → List ℕ → Env → Net → Walked (Tree Proc)
tree_within p zero k alphabet env n = walked_leaf k alphabet env (out-Net n)
tree_within p (suc levels) k alphabet env n = walked_node p (tree_within p levels) k alphabet env (out-Net n)

-- the numbers of the events of the program
abbrev pub all_events : Content → List ℕ
all_events p = range_with_len 0 (length p.events)

-- a network has a component
abbrev pub some_components : Tree Proc → List (Component Proc) → Walked (Tree Proc)
some_components tree [] = Err fault.EmptyNetwork
some_components tree (c ∷ cs) = Ok tree

-- The network of a program. At most MOST_NETWORK_DEPTH nodes stand one inside another.
abbrev pub network_of : Content → Walked (Tree Proc)
network_of p = goes_on (tree_within p MOST_NETWORK_DEPTH 0 (all_events p) [] p.root) (λ tree. some_components tree (leaves tree))
