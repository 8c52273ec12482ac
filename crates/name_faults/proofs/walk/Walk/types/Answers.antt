use Rattle.name_faults.proofs.Prelude.{[], ◌≡◌, ◌≤◌, ap, arith, map, ◌∙◌, greatest, first_of, tree_says, Place, Walked, after, tree_depth}
use Rattle.name_faults.proofs.Deepest.{in_list}
use Rattle.name_faults.proofs.KnownLemmas.{types_step}
use Rattle.name_faults.proofs.walk.Walk.types.Goals as goal

pub body-requires : goal.body-requires
body-requires c =
    let fits : tree_depth c.tree-item.result ≤ greatest (map tree_depth c.args.types.now) = in_list tree_depth c.args.types.now c.loop-tree.tree-index c.tree-item.result c.loop-tree-test.true c.tree-item.is in
    let level = ap (λ (place : Place). place.level) c.data_place.ensures in
    record { depth = omega arith; bound = ap (λ (w : Walked). w.bound) c.loop-tree.invariant ∙ c.requires.bound }

pub loop-tree-preserved : goal.loop-tree-preserved
loop-tree-preserved c =
    let t = c.tree-item.result in
    let names = ap (λ (w : Walked). w.names) c.loop-tree.invariant in
    types_step (first_of c.args.self.now.names) c.args.self.now c.loop-tree.self c.body.new.self c.loop-tree.tree-index c.args.types.now t
    c.loop-tree-test.true c.tree-item.is c.loop-tree.invariant
    (c.in_ok-body.ensures ∙ (λ j. after c.loop-tree.self (tree_says (first_of (names j)) t (c.data_place.ensures j) [])))
