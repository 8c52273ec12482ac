use Rattle.numbered_walks.proofs.Prelude.{◌+◌, ◌≤◌, ℕ, List, get_or, refl, sym, ap, ◌∙◌, arith, has, bit}
use Rattle.numbered_walks.proofs.Agreeing.{all_left, fewer_left, none_left, some_left, some_within, withdrawn_more}
use Rattle.numbered_walks.proofs.agreement.withdraw_all.Goals as goal

pub loop-event-init : goal.loop-event-init
loop-event-init c =
    let all = c.into_iter-event-iterator.ensures.into_iter_gives ∙ c.iter-event-items.ensures.members in
    record {
      form = c.requires.form;
      owners = refl;
      left = all_left c.args.events.now c.into_iter-event-iterator.result all c.iter-event-items.ensures.rising;
      offering = λ e. ap (λ (xs : List ℕ). get_or c.args.agreement.now.offering.items e 0 + bit (has xs e)) (sym all);
    }

pub withdraw-requires-clause-some : goal.withdraw-requires-clause-some
withdraw-requires-clause-some c =
    some_left c.args.events.now c.loop-event.event-iterator c.next.new.self c.in-Some.event c.in-Some.ensures.steps c.loop-event.invariant.left c.args.agreement.now.offering.items c.loop-event.agreement.offering.items
    c.requires.some c.loop-event.invariant.offering

pub loop-event-preserved : goal.loop-event-preserved
loop-event-preserved c =
    let some : 1 ≤ get_or c.loop-event.agreement.offering.items c.in-Some.event 0 =
    some_left c.args.events.now c.loop-event.event-iterator c.next.new.self c.in-Some.event c.in-Some.ensures.steps c.loop-event.invariant.left c.args.agreement.now.offering.items c.loop-event.agreement.offering.items
    c.requires.some c.loop-event.invariant.offering in
    record {
      form = c.withdraw.ensures.form;
      owners = c.withdraw.ensures.owners ∙ c.loop-event.invariant.owners;
      left = fewer_left c.args.events.now c.loop-event.event-iterator c.next.new.self c.in-Some.event c.in-Some.ensures.steps c.loop-event.invariant.left;
      offering =
          withdrawn_more c.args.events.now c.loop-event.event-iterator c.next.new.self c.in-Some.event c.in-Some.ensures.steps c.loop-event.invariant.left c.args.agreement.now.offering.items
          c.loop-event.agreement.offering.items c.withdraw.new.agreement.offering.items (some_within c.loop-event.agreement.offering.items c.in-Some.event some) some c.loop-event.invariant.offering c.withdraw.ensures.offering;
    }

pub returns-clause-offering : goal.returns-clause-offering
returns-clause-offering c e =
    let none = none_left c.loop-event.event-iterator e c.in-None.ensures.steps.0 in
    let all = c.loop-event.invariant.offering e in
    omega (arith, none, all)
