use Rattle.tree_reading.proofs.Unique.{complete, complete_trees}
use Rattle.tree_reading.proofs.laws.reader_is_complete.Goals as goal

pub returns : goal.returns
returns c = record { scripts = complete; trees = complete_trees }
