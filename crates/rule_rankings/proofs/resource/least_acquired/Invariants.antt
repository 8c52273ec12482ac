use Rattle.rule_rankings.specs.ResourceRanks.{number_by}
use Rattle.rule_rankings.proofs.ResourceRanking.{IsLeastSoFar}
use Rattle.rule_rankings.proofs.resource.least_acquired.Given as goal

abbrev pub invariant-loop-event : goal.invariant-loop-event
invariant-loop-event l = IsLeastSoFar l.numbers.setting.now (number_by l.numbers.heights.now) l.numbers.top l.set l.event-iterator l.least
