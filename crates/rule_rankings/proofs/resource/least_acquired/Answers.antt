use Rattle.rule_rankings.proofs.Prelude.{List, ℕ, subst, number_by}
use Rattle.rule_rankings.proofs.ResourceRanking.{IsLeastSoFar, least_next, least_end}
use Rattle.rule_rankings.proofs.resource.least_acquired.Goals as goal

pub loop-event-preserved : goal.loop-event-preserved
loop-event-preserved c =
    let g = c.args.numbers.now.setting.now in
    let number = number_by c.args.numbers.now.heights.now in
    let set = c.args.set.now in
    let e = c.with_event-least.ensures in
    least_next g number c.args.numbers.now.top set c.next.new.self c.in-Some.event c.loop-event.least c.with_event-least.result (subst (λ (xs : List ℕ). IsLeastSoFar g number c.args.numbers.now.top set xs c.loop-event.least) c.in-Some.ensures.steps c.loop-event.invariant) e.less e.below e.attained

pub returns : goal.returns
returns c =
    let g = c.args.numbers.now.setting.now in
    let number = number_by c.args.numbers.now.heights.now in
    let set = c.args.set.now in
    least_end g number c.args.numbers.now.top set c.loop-event.least (subst (λ (xs : List ℕ). IsLeastSoFar g number c.args.numbers.now.top set xs c.loop-event.least) c.in-None.ensures.steps.0 c.loop-event.invariant)
