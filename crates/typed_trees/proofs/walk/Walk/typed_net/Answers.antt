use Rattle.typed_trees.proofs.SameTokens.{same_tree}
use Rattle.typed_trees.proofs.walk.Walk.typed_net.Goals as goal

pub returns-clause-walk : goal.returns-clause-walk
returns-clause-walk c = rw (same_tree c.args.self.now.names c.args.self.now.kinds c.args.tree.now) c.network.ensures.walk
