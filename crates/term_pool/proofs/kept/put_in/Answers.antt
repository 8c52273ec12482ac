-- The own parts of the node are kept, and then its entry.
use Rattle.term_pool.proofs.Prelude.{refl, trees_in, shown, Has, layer_tree, tree_of}
use Rattle.term_pool.proofs.KeptLemmas.{below_more, kept_more, no_parts_no_process, on_err, puts_as, puts_nothing, unknown_as}
use Rattle.term_pool.proofs.kept.put_in.Goals as goal

pub returns-in_err-entry-clause-kept : goal.returns-in_err-entry-clause-kept
returns-in_err-entry-clause-kept c = kept_more c.args.nodes.now.parts c.keep_node-kept.new.parts c.keep_node-kept.ensures.start c.args.nodes.now.entries c.args.nodes.now.measures c.requires.kept c.parts_once.ensures

pub returns-in_err-entry-clause-puts : goal.returns-in_err-entry-clause-puts
returns-in_err-entry-clause-puts c =
    puts_nothing c.args.nodes.now.parts c.keep_node-kept.new.parts c.keep_node-kept.ensures.start c.args.nodes.now.entries c.args.nodes.now.measures c.requires.kept
    c.from_residual.result c.from_residual.ensures.0 (tree_of (trees_in c.args.nodes.now) c.args.node)

pub returns-in_err-entry-clause-err_only_new : goal.returns-in_err-entry-clause-err_only_new
returns-in_err-entry-clause-err_only_new c =
    on_err c.from_residual.result (Has (trees_in c.args.nodes.now) (tree_of (trees_in c.args.nodes.now) c.args.node) → ⊥)
    (no_parts_no_process c.args.nodes.now.parts c.args.nodes.now.entries c.args.nodes.now.measures c.requires.kept (shown c.args.node) c.requires.below c.in_err-entry.ensures.err_only_new)

pub put_entry-requires-clause-kept : goal.put_entry-requires-clause-kept
put_entry-requires-clause-kept c = kept_more c.args.nodes.now.parts c.keep_node-kept.new.parts c.keep_node-kept.ensures.start c.args.nodes.now.entries c.args.nodes.now.measures c.requires.kept c.parts_once.ensures

pub put_entry-requires-clause-below : goal.put_entry-requires-clause-below
put_entry-requires-clause-below c =
    below_more c.args.nodes.now.parts c.keep_node-kept.new.parts c.keep_node-kept.ensures.start c.args.nodes.now.entries c.args.nodes.now.measures c.requires.kept
    c.in_ok-entry.entry (shown c.args.node) c.in_ok-entry.ensures.layer c.requires.below

pub returns-clause-puts : goal.returns-clause-puts
returns-clause-puts c =
    puts_as c.args.nodes.now.parts c.keep_node-kept.new.parts c.keep_node-kept.ensures.start c.args.nodes.now.entries c.args.nodes.now.measures c.requires.kept
    c.in_ok-entry.entry (shown c.args.node) c.in_ok-entry.ensures.layer (layer_tree (trees_in c.args.nodes.now) (shown c.args.node)) refl
    (trees_in c.put_entry.new.nodes) c.put_entry.result c.put_entry.ensures.puts

pub returns-clause-err_only_new : goal.returns-clause-err_only_new
returns-clause-err_only_new c =
    unknown_as c.args.nodes.now.parts c.keep_node-kept.new.parts c.keep_node-kept.ensures.start c.args.nodes.now.entries c.args.nodes.now.measures c.requires.kept
    c.in_ok-entry.entry (shown c.args.node) c.in_ok-entry.ensures.layer (layer_tree (trees_in c.args.nodes.now) (shown c.args.node)) refl
    c.put_entry.result c.put_entry.ensures.err_only_new
