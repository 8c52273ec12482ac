use Rattle.numbered_walks.proofs.Prelude.{◌+◌, ◌<◌, ℕ, List, get_or, length, refl, sym, ap, subst, ◌∙◌, arith, has, bit}
use Rattle.numbered_walks.proofs.Agreeing.{all_left, fewer_left, none_left, offered_more, room_left, this_listed}
use Rattle.numbered_walks.proofs.agreement.offer_all.Goals as goal

pub loop-event-init : goal.loop-event-init
loop-event-init c =
    let all = c.into_iter-event-iterator.ensures.into_iter_gives ∙ c.iter-event-items.ensures.members in
    record {
      form = c.requires.form;
      owners = refl;
      left = all_left c.args.events.now c.into_iter-event-iterator.result all c.iter-event-items.ensures.rising;
      offering = λ e. ap (λ (xs : List ℕ). get_or c.args.agreement.now.offering.items e 0 + bit (has xs e)) all;
    }

pub offer-requires-clause-within : goal.offer-requires-clause-within
offer-requires-clause-within c =
    subst (λ (ns : List ℕ). c.in-Some.event < length ns) (sym c.loop-event.invariant.owners)
    (c.requires.within c.in-Some.event (this_listed c.args.events.now c.loop-event.event-iterator c.next.new.self c.in-Some.event c.in-Some.ensures.steps c.loop-event.invariant.left))

pub offer-requires-clause-room : goal.offer-requires-clause-room
offer-requires-clause-room c =
    room_left c.args.events.now c.loop-event.event-iterator c.next.new.self c.in-Some.event c.in-Some.ensures.steps c.loop-event.invariant.left c.args.agreement.now.offering.items c.loop-event.agreement.offering.items _
    c.requires.room c.loop-event.invariant.offering

pub loop-event-preserved : goal.loop-event-preserved
loop-event-preserved c =
    let owned = subst (λ (ns : List ℕ). c.in-Some.event < length ns) (sym c.loop-event.invariant.owners)
    (c.requires.within c.in-Some.event (this_listed c.args.events.now c.loop-event.event-iterator c.next.new.self c.in-Some.event c.in-Some.ensures.steps c.loop-event.invariant.left)) in
    let within : c.in-Some.event < length c.loop-event.agreement.offering.items = subst (λ n. c.in-Some.event < n) (sym c.loop-event.invariant.form.offering) owned in
    record {
      form = c.offer.ensures.form;
      owners = c.offer.ensures.owners ∙ c.loop-event.invariant.owners;
      left = fewer_left c.args.events.now c.loop-event.event-iterator c.next.new.self c.in-Some.event c.in-Some.ensures.steps c.loop-event.invariant.left;
      offering =
          offered_more c.args.events.now c.loop-event.event-iterator c.next.new.self c.in-Some.event c.in-Some.ensures.steps c.loop-event.invariant.left c.args.agreement.now.offering.items
          c.loop-event.agreement.offering.items c.offer.new.agreement.offering.items within c.loop-event.invariant.offering c.offer.ensures.offering;
    }

pub returns-clause-offering : goal.returns-clause-offering
returns-clause-offering c e =
    let none = none_left c.loop-event.event-iterator e c.in-None.ensures.steps.0 in
    let all = c.loop-event.invariant.offering e in
    omega (arith, none, all)
