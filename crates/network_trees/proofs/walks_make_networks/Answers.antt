use Rattle.network_trees.proofs.Complete.{spelled_is_walked}
use Rattle.network_trees.proofs.Sound.{walk_is_spelled}
use Rattle.network_trees.proofs.walks_make_networks.Goals as goal

pub returns : goal.returns
returns c = λ p tree. (walk_is_spelled p tree, spelled_is_walked p tree)
