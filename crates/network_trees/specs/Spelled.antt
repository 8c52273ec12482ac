-- The network that a program spells: a tree of components, by one rule for each form. A call of a network's definition and an `if` leave no trace in
-- the tree: a name stands for its network, without a step.
--
-- What decides the doubtful cases:
-- A name is worth what it is bound to: a parameter the value of its argument, the name of a replicated parallel one value of its set after another.
-- The asserted network is no operand. All events of the program are its alphabet if it is a leaf, and nothing is compared with them.
-- Each body of a replicated parallel is an operand, with the alphabet that it has at its value.
-- An operand may be a call or an `if`: what it stands for is what counts. One that comes to a leaf has the alphabet of that leaf, since both are the
-- one that was given; so every operand can be looked at alike. One without components must have no events.
-- A leaf is no nested node, however deep it stands.
--
-- A rule holds for all that its letters in braces can stand for: of what type each is, its places in the rule say.
use Rattle.std.specs.Prelude.{◌≡◌, ◌≤◌, ℕ, suc, max, if◌then◌else◌, Some, Ok, List, [], ◌∷◌, length, map, slice_get}
use Rattle.std.specs.List.{range_with_len}
use Rattle.dl_limits.specs.declared.TheConstants.{MOST_COMPONENTS, MOST_NETWORK_DEPTH}
use Rattle.csp_atoms.specs.Prelude.{event_numbers}
use Rattle.csp_atoms.specs.declared.value.Value.TheVariants.{One, Many}
use Rattle.csp_program.specs.Prelude.{Env, bound_to, given_by, proc_with, truth}
use Rattle.csp_program.specs.declared.expressions.Expr.{Expr}
use Rattle.csp_program.specs.declared.networks.Net.{Net}
use Rattle.csp_program.specs.declared.networks.Net.TheVariants as net
use Rattle.csp_program.specs.declared.processes.Proc.{Proc}
use Rattle.csp_program.specs.declared.programs.Body.TheVariants as body
use Rattle.csp_program.specs.declared.programs.Content.{Content}
use Rattle.csp_program.specs.declared.programs.Def.{Def}
use Rattle.csp_tables.specs.Prelude.{Operands, Tree, WellNested, leaf, leaves, none, operand, parallel}
use Rattle.process_steps.specs.Prelude.{all_outcomes, value_under}

mutual
  -- the tree of a network under names with their values; the alphabet is that of a component, where the network comes to one
  pub data IsTreeOf (p : Content) : Env → List ℕ → Net → Tree Proc → Type 0 where
    component : {env alphabet q : _} → IsTreeOf p env alphabet (net.Leaf q) (leaf (record { alphabet = alphabet; term = proc_with (given_by env) q }))
    -- the network of the definition, under its parameters with the values of the arguments
    call : {env alphabet d args vs n tree : _} {def : Def} →
        all_outcomes (value_under p env) args ≡ Ok vs → slice_get p.defs d ≡ Some def → def.body ≡ body.Network n →
        IsTreeOf p (bound_to def.params vs) alphabet n tree → IsTreeOf p env alphabet (net.Call d args) tree
    chosen : {env alphabet c b tree : _} (n m : Net) →
        value_under p env c ≡ Ok (truth b) → IsTreeOf p env alphabet (if b then n else m) tree → IsTreeOf p env alphabet (net.If c n m) tree
    pair : {env alphabet n m a b os : _} →
        AreOperandsOf p ((env, a, n) ∷ (env, b, m) ∷ []) os → IsTreeOf p env alphabet (net.Pair n a b m) (parallel os)
    -- an operand for each value of the name
    each : {env alphabet x s a values os : _} (n : Net) →
        value_under p env s ≡ Ok (Many values) → AreOperandsOf p (map (λ v. ((x, One v) ∷ env, a, n)) values) os →
        IsTreeOf p env alphabet (net.Each x s a n) (parallel os)

  -- operands, each with the names around it, its alphabet and its network as they are written
  pub data AreOperandsOf (p : Content) : List (Env × Expr × Net) → Operands Proc → Type 0 where
    no_operand : AreOperandsOf p [] none
    one_operand : {env a n written atoms alphabet tree os : _} →
        value_under p env a ≡ Ok (Many atoms) → event_numbers atoms ≡ Some alphabet → IsTreeOf p env alphabet n tree → AreOperandsOf p written os →
        AreOperandsOf p ((env, a, n) ∷ written) (operand alphabet tree os)

-- how many nodes stand one inside another
abbrev mutual
  pub depth : {p env alphabet n tree : _} → IsTreeOf p env alphabet n tree → ℕ
  depth component = 0
  depth (call worth found network below) = suc (depth below)
  depth (chosen n m worth below) = suc (depth below)
  depth (pair operands) = suc (greatest_depth operands)
  depth (each n worth operands) = suc (greatest_depth operands)

  pub greatest_depth : {p written os : _} → AreOperandsOf p written os → ℕ
  greatest_depth no_operand = 0
  greatest_depth (one_operand worth events below others) = max (depth below) (greatest_depth others)

-- The tree of a program's network: each operand's alphabet has the events of its components, there is a component, and the limits are kept.
pub record IsSpelledBy (p : Content) (tree : Tree Proc) : Type 0 where
  pub spelled : IsTreeOf p [] (range_with_len 0 (length p.events)) p.root tree
  pub nested : WellNested tree
  pub some : 1 ≤ length (leaves tree)
  pub few : length (leaves tree) ≤ MOST_COMPONENTS
  pub shallow : depth spelled ≤ MOST_NETWORK_DEPTH
