use Rattle.value_laws.proofs.Fits.{empty_fits}
use Rattle.event_tables.proofs.sets.add_set.Goals as goal

pub eval_in-requires : goal.eval_in-requires
eval_in-requires c = record { fit = empty_fits c.args.content.now.channels c.requires }
