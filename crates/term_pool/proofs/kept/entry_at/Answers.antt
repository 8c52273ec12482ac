-- The entry at a place fits, and stands for the process there.
use Rattle.std.proofs.Common.{◌<◌, length, rules}
use Rattle.term_pool.proofs.KeptLemmas.{read_within, read_fits, read_below, read_process}
use Rattle.term_pool.specs.declared.entry.Entry.TheVariants as entry
use Rattle.term_pool.proofs.kept.entry_at.Goals as goal

pub bounds-as_slice-id : goal.bounds-as_slice-id
bounds-as_slice-id c = read_within c.args.nodes.now.parts c.args.nodes.now.entries c.args.nodes.now.measures c.requires.kept c.args.id.0 c.requires.within c.as_slice.result.now c.as_slice.ensures.value

pub returns-clause-fits : goal.returns-clause-fits
returns-clause-fits c = read_fits c.args.nodes.now.parts c.args.nodes.now.entries c.args.nodes.now.measures c.requires.kept c.args.id.0 c.requires.within c.as_slice.result.now c.as_slice.ensures.value entry.Stop

pub returns-clause-below : goal.returns-clause-below
returns-clause-below c = read_below c.args.nodes.now.parts c.args.nodes.now.entries c.args.nodes.now.measures c.requires.kept c.args.id.0 c.requires.within c.as_slice.result.now c.as_slice.ensures.value entry.Stop

pub returns-clause-process : goal.returns-clause-process
returns-clause-process c = read_process c.args.nodes.now.parts c.args.nodes.now.entries c.args.nodes.now.measures c.requires.kept c.args.id.0 c.requires.within c.as_slice.result.now c.as_slice.ensures.value entry.Stop

pub offset_bounds-as_slice-id : goal.offset_bounds-as_slice-id
offset_bounds-as_slice-id c =
    let within : c.args.id.0 < length c.as_slice.result.now = read_within c.args.nodes.now.parts c.args.nodes.now.entries c.args.nodes.now.measures c.requires.kept c.args.id.0 c.requires.within c.as_slice.result.now c.as_slice.ensures.value in
    search rules
