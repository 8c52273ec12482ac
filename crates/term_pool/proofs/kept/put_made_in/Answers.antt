-- The entry with the values in its own parts, at the places where its sub-processes stand with the values put in.
use Rattle.term_pool.proofs.Prelude.{given_by, proc_with, entry_layer, trees_in, moved, own_with, tree_at}
use Rattle.term_pool.proofs.KeptLemmas.{below_more, kept_more, puts_as, puts_nothing}
use Rattle.term_pool.proofs.ValuesLemmas.{stands_made}
use Rattle.term_pool.proofs.kept.put_made_in.Goals as goal

pub returns-in_err-entry-clause-kept : goal.returns-in_err-entry-clause-kept
returns-in_err-entry-clause-kept c = kept_more c.args.nodes.now.parts c.made_entry-made.new.parts c.made_entry-made.ensures.start c.args.nodes.now.entries c.args.nodes.now.measures c.requires.kept c.parts_once.ensures

pub returns-in_err-entry-clause-puts : goal.returns-in_err-entry-clause-puts
returns-in_err-entry-clause-puts c =
    puts_nothing c.args.nodes.now.parts c.made_entry-made.new.parts c.made_entry-made.ensures.start c.args.nodes.now.entries c.args.nodes.now.measures c.requires.kept
    c.from_residual.result c.from_residual.ensures.0 (proc_with (given_by c.args.values.now) (tree_at (trees_in c.args.nodes.now) c.args.id))

pub put_entry-requires-clause-kept : goal.put_entry-requires-clause-kept
put_entry-requires-clause-kept c = kept_more c.args.nodes.now.parts c.made_entry-made.new.parts c.made_entry-made.ensures.start c.args.nodes.now.entries c.args.nodes.now.measures c.requires.kept c.parts_once.ensures

pub put_entry-requires-clause-below : goal.put_entry-requires-clause-below
put_entry-requires-clause-below c =
    let n = moved (own_with (given_by c.args.values.now) (entry_layer c.args.nodes.now.parts c.entry_at-entry.result)) c.args.ids.now in
    below_more c.args.nodes.now.parts c.made_entry-made.new.parts c.made_entry-made.ensures.start c.args.nodes.now.entries c.args.nodes.now.measures c.requires.kept c.in_ok-entry.entry n c.in_ok-entry.ensures.layer
    (stands_made (given_by c.args.values.now) (trees_in c.args.nodes.now) c.args.id (entry_layer c.args.nodes.now.parts c.entry_at-entry.result) c.entry_at-entry.ensures.process c.args.ids.now c.requires.made).below

pub returns-clause-puts : goal.returns-clause-puts
returns-clause-puts c =
    let n = moved (own_with (given_by c.args.values.now) (entry_layer c.args.nodes.now.parts c.entry_at-entry.result)) c.args.ids.now in
    puts_as c.args.nodes.now.parts c.made_entry-made.new.parts c.made_entry-made.ensures.start c.args.nodes.now.entries c.args.nodes.now.measures c.requires.kept c.in_ok-entry.entry n c.in_ok-entry.ensures.layer
    (proc_with (given_by c.args.values.now) (tree_at (trees_in c.args.nodes.now) c.args.id))
    (stands_made (given_by c.args.values.now) (trees_in c.args.nodes.now) c.args.id (entry_layer c.args.nodes.now.parts c.entry_at-entry.result) c.entry_at-entry.ensures.process c.args.ids.now c.requires.made).tree
    (trees_in c.put_entry.new.nodes) c.put_entry.result c.put_entry.ensures.puts
