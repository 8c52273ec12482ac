use Rattle.std.proofs.Common.{rules, arith}
use Rattle.network_walks.proofs.Made.{as_few}
use Rattle.network_walks.proofs.Telling.{network_walk}
use Rattle.network_walks.proofs.walking.walk_by_tables.Goals as goal

pub walk-requires : goal.walk-requires
walk-requires c = grind (arith, as_few)

pub returns : goal.returns
returns c = network_walk c.args.tabled.now.network c.args.tabled.now.tables _ c.args.seed c.args.steps _ _ (search rules) (search rules) (search rules) c.in_ok-made.ensures
