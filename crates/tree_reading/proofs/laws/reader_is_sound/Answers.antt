use Rattle.tree_reading.proofs.Unique.{sound, sound_trees}
use Rattle.tree_reading.proofs.laws.reader_is_sound.Goals as goal

pub returns : goal.returns
returns c = record { scripts = sound; trees = sound_trees }
