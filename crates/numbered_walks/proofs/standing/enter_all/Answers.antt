use Rattle.numbered_walks.proofs.Prelude.{◌<◌, ℕ, List, length, get_or, ap, ◌∙◌, arith, is_unstable, length-set, OwnsItsSteps}
use Rattle.numbered_walks.proofs.Stepping.{each_more, first_more, first_room, first_within, mark_more}
use Rattle.numbered_walks.proofs.standing.enter_all.Goals as goal

pub enter-requires-clause-within : goal.enter-requires-clause-within
enter-requires-clause-within c =
    first_within c.args.movers.now c.loop-place.place c.index-movers-place.result c.loop-place-test.true c.index-movers-place.is c.loop-place.agreement.owners.items c.alphabet-alphabet.ensures.own
    (λ e. ap (λ (ns : List ℕ). get_or ns e 0) c.loop-place.invariant.owners ∙ c.requires.owners e) 0

pub enter-requires-clause-room : goal.enter-requires-clause-room
enter-requires-clause-room c =
    first_room c.args.movers.now c.loop-place.place c.index-movers-place.result c.loop-place-test.true c.index-movers-place.is c.loop-place.agreement.offering.items _ c.requires.few c.loop-place.invariant.offering

pub loop-place-preserved : goal.loop-place-preserved
loop-place-preserved c = record {
  form = c.enter.ensures.form;
  owners = c.enter.ensures.owners ∙ c.loop-place.invariant.owners;
  offering =
      first_more c.args.movers.now c.loop-place.place c.index-movers-place.result c.loop-place-test.true c.index-movers-place.is c.loop-place.agreement.offering.items c.enter.new.agreement.offering.items
      c.loop-place.invariant.offering c.enter.ensures.offering;
  marks = ap length c.enter.ensures.restless ∙ length-set c.loop-place.restless c.loop-place.place (is_unstable c.index-movers-place.result.table 0) ∙ c.loop-place.invariant.marks;
  restless =
      mark_more c.args.movers.now c.loop-place.place c.index-movers-place.result c.loop-place-test.true c.index-movers-place.is c.loop-place.restless c.enter.new.restless c.loop-place.invariant.marks
      c.enter.ensures.restless c.loop-place.invariant.restless;
  within =
      each_more c.args.movers.now c.loop-place.place c.index-movers-place.result c.loop-place-test.true c.index-movers-place.is (λ i d. 0 < d.table.count) c.loop-place.invariant.within c.alphabet-alphabet.ensures.form.first;
  own =
      each_more c.args.movers.now c.loop-place.place c.index-movers-place.result c.loop-place-test.true c.index-movers-place.is (λ i d. OwnsItsSteps d.alphabet d.table) c.loop-place.invariant.own c.alphabet-alphabet.ensures.own;
}

pub returns-clause-own : goal.returns-clause-own
returns-clause-own c i below = let all = c.loop-place-test.false in c.loop-place.invariant.own i (omega (arith, below, all))
