use Rattle.cyclic_conditions.proofs.Prelude.{◌≡◌, ◌≤◌, ◌∙◌, ℕ, List, ap, sym, subst, arith, inl, inr, length, cases_lt, get_or_read, node_at, AreEnough, pair_at, table_of, IsOwner, HasFirst, IsPossibleAt, shape_of, Laps}
use Rattle.cyclic_conditions.proofs.LapPlaces.{node_within}
use Rattle.cyclic_conditions.proofs.Noting.{all_noted, enough_possible}
use Rattle.cyclic_conditions.proofs.facts.note_pair.Goals as goal

enough : (laps : Laps) (p : ℕ) (pairs steps : List (ℕ × ℕ)) → pairs ≡ laps.explored.pairs → AreEnough (shape_of laps).vocabulary (node_at (table_of laps.component) (pair_at pairs p).0).next steps
    → AreEnough (shape_of laps).vocabulary (node_at (table_of laps.component) (pair_at laps.explored.pairs p).0).next steps
enough laps p pairs steps same e = subst (λ (ps : List (ℕ × ℕ)). AreEnough (shape_of laps).vocabulary (node_at (table_of laps.component) (pair_at ps p).0).next steps) same e

pub steps-event-items-requires : goal.steps-event-items-requires
steps-event-items-requires c = node_within c.args.laps.now c.requires.laps c.pairs.result.now c.args.pair c.pairs.ensures c.requires.within

pub note_event-requires-clause-possible : goal.note_event-requires-clause-possible
note_event-requires-clause-possible c =
    let laps = c.args.laps.now in
    let steps = c.steps-event-items.result.now in
    let at = get_or_read c.steps-event-items.result.now c.loop-event.event-index c.loop-event-item.result c.loop-event-test.true c.loop-event-item.is (0, 0) in
    subst (λ (y : ℕ × ℕ). IsPossibleAt laps c.args.pair y.0) (sym at)
    (enough_possible laps c.requires.laps c.args.pair steps (enough laps c.args.pair c.pairs.result.now steps c.pairs.ensures c.steps-event-items.ensures) c.loop-event.event-index c.loop-event-test.true)

pub loop-event-preserved : goal.loop-event-preserved
loop-event-preserved c =
    let laps = c.args.laps.now in
    let old = c.loop-event.invariant in
    let more = c.in_ok-note_event.ensures.more in
    let at = get_or_read c.steps-event-items.result.now c.loop-event.event-index c.loop-event-item.result c.loop-event-test.true c.loop-event-item.is (0, 0) in
    record {
      more = record { firsts = more.firsts; keeps = λ q l x. more.keeps q l (old.more.keeps q l x) };
      noted = λ k m h o. elim (cases_lt k c.loop-event.event-index) as (λ _. HasFirst c.note_event.new.firsts (pair_at laps.explored.pairs c.args.pair).1 m) [
        | inl before ↦ more.keeps (pair_at laps.explored.pairs c.args.pair).1 m (old.noted k m before o)
        | inr now ↦
            let same : k ≡ c.loop-event.event-index = omega arith in
            c.in_ok-note_event.ensures.noted m (subst (λ (y : ℕ × ℕ). IsOwner (shape_of laps) m y.0) (ap (pair_at c.steps-event-items.result.now) same ∙ sym at) o)
      ];
    }

pub returns-clause-noted : goal.returns-clause-noted
returns-clause-noted c =
    let laps = c.args.laps.now in
    let steps = c.steps-event-items.result.now in
    let end : length c.steps-event-items.result.now ≤ c.loop-event.event-index = c.loop-event-test.false in
    all_noted laps c.requires.laps c.loop-event.firsts c.args.pair steps (enough laps c.args.pair c.pairs.result.now steps c.pairs.ensures c.steps-event-items.ensures) (λ k m below o. c.loop-event.invariant.noted k m (omega arith) o)
