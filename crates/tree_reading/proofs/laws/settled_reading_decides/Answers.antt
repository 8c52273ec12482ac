use Rattle.tree_reading.proofs.Unique.{settled_script, settled_nothing, scripts_settle}
use Rattle.tree_reading.proofs.laws.settled_reading_decides.Goals as goal

pub returns : goal.returns
returns c = record { script = settled_script; nothing = settled_nothing; settles = scripts_settle }
