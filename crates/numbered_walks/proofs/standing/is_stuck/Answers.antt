use Rattle.numbered_walks.proofs.Stepping.{is_stuck}
use Rattle.numbered_walks.proofs.standing.is_stuck.Goals as goal

pub returns : goal.returns
returns c = is_stuck c.args.movers.now c.args.standing.now c.requires c.option_count.result c.option_count.ensures
