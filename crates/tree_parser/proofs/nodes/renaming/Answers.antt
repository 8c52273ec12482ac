use Rattle.tree_parser.proofs.Prelude.{max, map, refl, ap, ◌∙◌, greatest, gen_depth, part_depth, tree_depth}
use Rattle.csp_text.specs.declared.tree.Tree.TheVariants as tree
use Rattle.tree_parser.proofs.Depths.{of_renaming, one_more_than_three}
use Rattle.tree_parser.proofs.nodes.renaming.Goals as goal

pub node-requires : goal.node-requires
node-requires c =
    one_more_than_three (tree_depth c.args.p) (greatest (map (λ pair. max (part_depth pair.0) (part_depth pair.1)) c.args.pairs)) (greatest (map gen_depth c.args.generators)) _ _ _ _ _ _ _
    c.depth.ensures c.depth-2.ensures c.depth-3.ensures c.greater.ensures c.greater-below.ensures refl
    ((λ i. tree_depth (tree.Rename (c.into_inner.ensures i) (c.into_inner-2.ensures i) (c.into_inner-3.ensures i))) ∙ of_renaming c.args.p c.args.pairs c.args.generators)
