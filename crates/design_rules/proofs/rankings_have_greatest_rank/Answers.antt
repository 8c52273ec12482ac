use Rattle.design_rules.proofs.GreatestRanks.{rankings_have_greatest_rank}
use Rattle.design_rules.proofs.rankings_have_greatest_rank.Goals as goal

pub returns : goal.returns
returns g c = rankings_have_greatest_rank g.S.Transitions.step
