-- The network that a program spells, or that it spells none.
use Rattle.network_stages.proofs.Prelude.{◌≡◌, ◌+◌, ◌≤◌, List, Ok, inr, length, ap, ◌∙◌, sym, arith, Proc, Content, Component, Tree, leaves, Tells, Stop, AreSeatsOf, IsSpelled, Network, tree_at, tree_in, HasNoNetwork, SpellsNone, Script, AreSeats, network_of, walk_is_spelled, network_is_tree, Answer, Side, IsProgram, MOST_COMPONENTS}
use Rattle.csp_base.specs.declared.stop.Stop.TheVariants as stop

tree_is : (p : Content) (tree : Tree Proc) → network_of p ≡ Ok tree → tree_at p ≡ tree
unfolding tree_at
tree_is p tree spelled = ap tree_in spelled

pub seats_of : (p : Content) (seats : List (Component Proc)) → AreSeats (network_of p) seats → AreSeatsOf p seats
seats_of p seats laid =
    let same = tree_is p laid.tree laid.spelled in
    record {
      spelled = walk_is_spelled p (tree_at p) (laid.spelled ∙ ap Ok (sym same));
      are = laid.whole ∙ ap leaves (sym same);
    }

-- a network has at most 512 components
pub few_components : (network : Network) → IsSpelled network → length (leaves network.tree) ≤ MOST_COMPONENTS
few_components network spelled =
    let made = network_is_tree network.program network.tree spelled in
    let few : 0 + length (leaves network.tree) ≤ MOST_COMPONENTS = made.0.few in
    omega (arith, few)

-- a script whose program spells no network has none
pub has_no_network : (side : Side) (script : Script) (p : Content) (s : Stop Answer) → IsProgram script p → Tells (SpellsNone side p) s → Tells (HasNoNetwork side script) s
has_no_network side script p stop.NoMemory is tells = tt
has_no_network side script p (stop.Told a) is tells = inr (p, is, tells)
