use Rattle.cyclic_conditions.proofs.Prelude.{◌∙◌, sym, subst, on_ok_weaker, same_Some, pair_at, HasFirst, IfErr-weaker}
use Rattle.cyclic_conditions.proofs.LapPlaces.{place_within, event_noted, event_clashes}
use Rattle.cyclic_conditions.proofs.facts.note_event.Goals as goal

pub note-requires : goal.note-requires
note-requires c = place_within c.args.laps.now c.requires.laps c.pairs.result.now c.args.pair c.args.firsts.now c.pairs.ensures c.requires.within c.requires.firsts

pub returns-clause-more : goal.returns-clause-more
returns-clause-more c = on_ok_weaker c.note.result (λ n. (event_noted c.args.laps.now c.requires.laps c.pairs.result.now c.args.pair c.args.event c.in-Some.link c.args.firsts.now c.note.new.firsts c.pairs.ensures c.requires.within c.requires.possible (c.owner.ensures.found c.in-Some.link c.in-Some.is) c.requires.firsts n).0) c.note.ensures.noted

pub returns-clause-noted : goal.returns-clause-noted
returns-clause-noted c = on_ok_weaker c.note.result
    (λ n l o. subst (HasFirst c.note.new.firsts (pair_at c.args.laps.now.explored.pairs c.args.pair).1) (same_Some c.in-Some.link l (sym c.in-Some.is ∙ c.owner.ensures.owned l o))
    (event_noted c.args.laps.now c.requires.laps c.pairs.result.now c.args.pair c.args.event c.in-Some.link c.args.firsts.now c.note.new.firsts c.pairs.ensures c.requires.within c.requires.possible (c.owner.ensures.found c.in-Some.link c.in-Some.is) c.requires.firsts n).1)
    c.note.ensures.noted

pub returns-clause-clash : goal.returns-clause-clash
returns-clause-clash c = IfErr-weaker c.note.result _ _
    (λ clash k. event_clashes c.args.laps.now c.requires.laps c.pairs.result.now c.args.pair c.args.event c.in-Some.link clash.here clash.there c.args.firsts.now c.pairs.ensures c.requires.within c.requires.possible (c.owner.ensures.found c.in-Some.link c.in-Some.is) c.requires.firsts k)
    c.note.ensures.clash
