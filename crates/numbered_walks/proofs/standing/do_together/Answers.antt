use Rattle.std.proofs.Common.{refl}
use Rattle.numbered_walks.proofs.Stepping.{all_gone, all_ready, goes_first, others_ready, others_rise, owners_rise, this_ready}
use Rattle.numbered_walks.proofs.standing.do_together.Goals as goal

pub loop-place-init : goal.loop-place-init
loop-place-init c = record {
  form = c.requires.form;
  rises = owners_rise c.args.movers.now c.args.event c.args.owners.now c.requires.owners;
  ready = all_ready c.args.movers.now c.args.event c.args.owners.now c.args.standing.now.terms.items c.requires.owners c.requires.can;
  gone = λ ys z go. go;
}

pub do_event-requires-clause-place : goal.do_event-requires-clause-place
do_event-requires-clause-place c =
    (this_ready c.args.movers.now c.args.event c.args.owners.now c.loop-place.place-index _ c.loop-place-test.true refl c.loop-place.standing.terms.items c.loop-place.invariant.ready).0

pub do_event-requires-clause-can : goal.do_event-requires-clause-can
do_event-requires-clause-can c =
    (this_ready c.args.movers.now c.args.event c.args.owners.now c.loop-place.place-index _ c.loop-place-test.true refl c.loop-place.standing.terms.items c.loop-place.invariant.ready).1

pub loop-place-preserved : goal.loop-place-preserved
loop-place-preserved c =
    let cs = c.args.movers.now in
    let e = c.args.event in
    let places = c.args.owners.now in
    let k = c.loop-place.place-index in
    let before = c.loop-place.invariant in
    let does = c.in_ok-do_event.ensures.does in
    record {
      form = c.in_ok-do_event.ensures.form;
      rises = others_rise cs e places k _ c.loop-place-test.true refl before.rises;
      ready = others_ready cs e places k _ c.loop-place-test.true refl c.loop-place.standing.terms.items c.do_event.new.standing.terms.items does.next before.rises does.others before.ready;
      gone = λ ys z go.
          before.gone ys z
          (goes_first cs e places k _ c.loop-place-test.true refl c.loop-place.standing.terms.items c.do_event.new.standing.terms.items ys c.loop-place.standing.drawn does.next c.do_event.new.standing.drawn z does.drawn
          does.others go);
    }

pub returns-clause-gone : goal.returns-clause-gone
returns-clause-gone c =
    c.loop-place.invariant.gone _ _
    (all_gone c.args.movers.now c.args.event c.args.owners.now c.loop-place.place-index c.loop-place.standing.terms.items c.loop-place.standing.drawn c.loop-place-test.false)
