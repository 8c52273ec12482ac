use Rattle.tree_reading.proofs.Unique.{one_script, one_tree}
use Rattle.tree_reading.proofs.laws.each_text_is_one_script.Goals as goal

pub returns : goal.returns
returns c = record { scripts = one_script; trees = one_tree }
