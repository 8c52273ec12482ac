use Rattle.tree_parser.proofs.Prelude.{sym, ap, ◌∙◌, capped, dot_fields}
use Rattle.tree_parser.proofs.Depths.{of_dots}
use Rattle.tree_parser.proofs.expected.expect_dotted.Goals as goal

pub new-requires : goal.new-requires
new-requires c = c.depth-depth.ensures ∙ ap capped (sym (of_dots c.args.fields c.in_ok-trees.trees (ap dot_fields (sym c.into_inner.ensures) ∙ c.in_ok-trees.ensures)))
