use Rattle.numbered_walks.proofs.Owning.{all_added, none_added, one_added}
use Rattle.std.proofs.Common.{◌∙◌}
use Rattle.numbered_walks.proofs.owners.add_owner.Goals as goal

pub loop-event-init : goal.loop-event-init
loop-event-init c =
    none_added c.args.owner c.args.rows.now.items c.args.alphabet.now c.into_iter-event-iterator.result (c.into_iter-event-iterator.ensures.into_iter_gives ∙ c.iter-event-items.ensures.members) c.iter-event-items.ensures.rising
    c.requires

pub loop-event-preserved : goal.loop-event-preserved
loop-event-preserved c =
    one_added c.args.owner c.args.rows.now.items c.loop-event.rows.items c.add_at.new.rows.items c.args.alphabet.now c.loop-event.event-iterator c.next.new.self c.in-Some.event c.in-Some.ensures.steps
    c.loop-event.invariant c.in_ok-add_at.ensures.small c.in_ok-add_at.ensures.rows

pub returns-clause-rows : goal.returns-clause-rows
returns-clause-rows c = all_added c.args.owner c.args.rows.now.items c.loop-event.rows.items c.args.alphabet.now c.loop-event.event-iterator c.in-None.ensures.steps.0 c.loop-event.invariant
