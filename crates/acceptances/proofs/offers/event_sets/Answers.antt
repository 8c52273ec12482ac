use Rattle.std.proofs.Common.{◌<◌, length, ◌∙◌}
use Rattle.acceptances.proofs.Terms.{step_from, events_after, rising_after, length_after}
use Rattle.acceptances.proofs.offers.event_sets.Goals as goal

pub insert_at-requires : goal.insert_at-requires
insert_at-requires c = rw c.loop-step.invariant.one_each (step_from c.args.table.now c.steps-step-items.ensures.form c.steps-step-items.result.now c.steps-step-items.ensures.value c.loop-step.step-index c.step-item.result c.loop-step-test.true c.step-item.is)

pub loop-step-preserved : goal.loop-step-preserved
loop-step-preserved c =
    let before = c.loop-step.invariant in
    let below : c.step-item.result.0 < c.args.table.now.count = step_from c.args.table.now c.steps-step-items.ensures.form c.steps-step-items.result.now c.steps-step-items.ensures.value c.loop-step.step-index c.step-item.result c.loop-step-test.true c.step-item.is in
    let within : c.step-item.result.0 < length c.loop-step.sets.items = rw before.one_each below in
    record {
      one_each = length_after _ _ _ _ _ c.loop-step-test.true c.step-item.is within c.in_ok-insert_at.ensures.ok ∙ before.one_each;
      events = λ n e h. events_after _ _ _ _ _ c.loop-step-test.true c.step-item.is within c.in_ok-insert_at.ensures.ok n e (before.events n e h);
      rising = λ n h. rising_after _ _ _ _ _ c.loop-step-test.true c.step-item.is within c.in_ok-insert_at.ensures.ok n (before.rising n h) (before.rising c.step-item.result.0 below);
    }
