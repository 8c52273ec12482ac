-- The measure at a place is that of the process there.
use Rattle.term_pool.proofs.KeptLemmas.{measure_read}
use Rattle.term_pool.proofs.kept.measure_at.Goals as goal

pub returns : goal.returns
returns c = measure_read c.args.nodes.now.parts c.args.nodes.now.entries c.args.nodes.now.measures c.requires.kept c.args.id.0 c.requires.within c.as_slice.result.now c.as_slice.ensures (record { depth = 0; size = 0; least = 0 })
