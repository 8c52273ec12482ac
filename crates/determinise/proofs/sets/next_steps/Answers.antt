use Rattle.determinise.proofs.Prelude.{◌≡◌, ◌<◌, ℕ, [], ◌∷◌, ◌++◌, length, get_or, sym, ap, subst, ◌∙◌, arith, get_or_default}
use Rattle.determinise.proofs.Groups.{IsGroup, event_at}
use Rattle.determinise.proofs.NodeSteps.{AreStepsSoFar, all_more, steps_more}
use Rattle.determinise.proofs.sets.next_steps.Goals as goal

pub returns-in_err-number-clause-more : goal.returns-in_err-number-clause-more
returns-in_err-number-clause-more c =
    let at = c.loop-at.at in
    let below : at < length c.args.moves.now = c.loop-at-test.true in
    let end = c.group_end-end.ensures in
    let g : IsGroup c.args.moves.now at c.group_end-end.result = record { some = end.past; within = end.within; same = end.same; before = λ k h. c.loop-at.invariant.steps.boundary k at h (omega arith) below; after = end.above } in
    all_more c.args.table.now c.args.moves.now at c.group_end-end.result 0 c.args.sets.now c.loop-at.sets c.number_of_next.new.sets c.loop-at.next.items g c.loop-at.invariant.steps c.number_of_next.ensures.more

pub returns-in_err-push-clause-more : goal.returns-in_err-push-clause-more
returns-in_err-push-clause-more c =
    let at = c.loop-at.at in
    let below : at < length c.args.moves.now = c.loop-at-test.true in
    let end = c.group_end-end.ensures in
    let g : IsGroup c.args.moves.now at c.group_end-end.result = record { some = end.past; within = end.within; same = end.same; before = λ k h. c.loop-at.invariant.steps.boundary k at h (omega arith) below; after = end.above } in
    all_more c.args.table.now c.args.moves.now at c.group_end-end.result 0 c.args.sets.now c.loop-at.sets c.number_of_next.new.sets c.loop-at.next.items g c.loop-at.invariant.steps c.number_of_next.ensures.more

pub loop-at-preserved : goal.loop-at-preserved
loop-at-preserved c =
    let at = c.loop-at.at in
    let below : at < length c.args.moves.now = c.loop-at-test.true in
    let end = c.group_end-end.ensures in
    let g : IsGroup c.args.moves.now at c.group_end-end.result = record { some = end.past; within = end.within; same = end.same; before = λ k h. c.loop-at.invariant.steps.boundary k at h (omega arith) below; after = end.above } in
    let event : (get_or c.args.moves.now at c.index-moves-at.result).0 ≡ event_at c.args.moves.now at = ap (λ (step : ℕ × ℕ). step.0) (get_or_default c.args.moves.now at c.index-moves-at.result (0, 0) below) in
    let added : c.push.new.next.items ≡ c.loop-at.next.items ++ (event_at c.args.moves.now at, c.in_ok-number.number) ∷ [] = c.in_ok-push.ensures ∙ ap (λ (e : ℕ). c.loop-at.next.items ++ (e, c.in_ok-number.number) ∷ []) event in
    let number = c.in_ok-number.ensures in
    record {
      steps = subst (AreStepsSoFar c.args.table.now c.args.moves.now c.group_end-end.result c.args.sets.now c.number_of_next.new.sets) (sym added) (steps_more c.args.table.now c.args.moves.now at c.group_end-end.result c.in_ok-number.number c.args.sets.now c.loop-at.sets c.number_of_next.new.sets c.loop-at.next.items g c.loop-at.invariant.steps c.number_of_next.ensures.more number.number number.set number.order number.few);
      ready = number.ready;
    }
