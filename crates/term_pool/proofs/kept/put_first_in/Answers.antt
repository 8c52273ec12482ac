-- The entry with another first place stands for the process that is wanted.
use Rattle.term_pool.proofs.Prelude.{refl, entry_layer, node_with_first, with_first, trees_in, tree_at}
use Rattle.term_pool.proofs.FirstLemmas.{made_below, made_tree}
use Rattle.term_pool.proofs.KeptLemmas.{below_more, kept_more, puts_as, puts_nothing}
use Rattle.term_pool.proofs.kept.put_first_in.Goals as goal

pub returns-in_err-entry-clause-kept : goal.returns-in_err-entry-clause-kept
returns-in_err-entry-clause-kept c = kept_more c.args.nodes.now.parts c.entry_with_first-made.new.parts c.entry_with_first-made.ensures.start c.args.nodes.now.entries c.args.nodes.now.measures c.requires.kept c.parts_once.ensures

pub returns-in_err-entry-clause-puts : goal.returns-in_err-entry-clause-puts
returns-in_err-entry-clause-puts c =
    puts_nothing c.args.nodes.now.parts c.entry_with_first-made.new.parts c.entry_with_first-made.ensures.start c.args.nodes.now.entries c.args.nodes.now.measures c.requires.kept
    c.from_residual.result c.from_residual.ensures.0 (with_first (tree_at (trees_in c.args.nodes.now) c.args.id) (tree_at (trees_in c.args.nodes.now) c.args.below))

pub put_entry-requires-clause-kept : goal.put_entry-requires-clause-kept
put_entry-requires-clause-kept c = kept_more c.args.nodes.now.parts c.entry_with_first-made.new.parts c.entry_with_first-made.ensures.start c.args.nodes.now.entries c.args.nodes.now.measures c.requires.kept c.parts_once.ensures

pub put_entry-requires-clause-below : goal.put_entry-requires-clause-below
put_entry-requires-clause-below c =
    below_more c.args.nodes.now.parts c.entry_with_first-made.new.parts c.entry_with_first-made.ensures.start c.args.nodes.now.entries c.args.nodes.now.measures c.requires.kept
    c.in_ok-entry.entry (node_with_first (entry_layer c.args.nodes.now.parts c.entry_at-entry.result) c.args.below) c.in_ok-entry.ensures.layer
    (made_below (trees_in c.args.nodes.now) c.args.id c.args.below c.requires.id c.requires.below (entry_layer c.args.nodes.now.parts c.entry_at-entry.result) c.entry_at-entry.ensures.process c.entry_at-entry.ensures.below
    (node_with_first (entry_layer c.args.nodes.now.parts c.entry_at-entry.result) c.args.below) refl)

pub returns-clause-puts : goal.returns-clause-puts
returns-clause-puts c =
    puts_as c.args.nodes.now.parts c.entry_with_first-made.new.parts c.entry_with_first-made.ensures.start c.args.nodes.now.entries c.args.nodes.now.measures c.requires.kept
    c.in_ok-entry.entry (node_with_first (entry_layer c.args.nodes.now.parts c.entry_at-entry.result) c.args.below) c.in_ok-entry.ensures.layer
    (with_first (tree_at (trees_in c.args.nodes.now) c.args.id) (tree_at (trees_in c.args.nodes.now) c.args.below))
    (made_tree (trees_in c.args.nodes.now) c.args.id c.args.below c.requires.id c.requires.below (entry_layer c.args.nodes.now.parts c.entry_at-entry.result) c.entry_at-entry.ensures.process c.entry_at-entry.ensures.below
    (node_with_first (entry_layer c.args.nodes.now.parts c.entry_at-entry.result) c.args.below) refl)
    (trees_in c.put_entry.new.nodes) c.put_entry.result c.put_entry.ensures.puts
