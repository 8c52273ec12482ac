use Rattle.step_values.proofs.Prelude.{◌+◌, drop, refl, ap, ◌∙◌, arith, passed, new_event, renamed_as}
use Rattle.step_values.proofs.Lists.{left, left_begin, left_end, left_fault, left_next}
use Rattle.step_values.proofs.renamed.add_events.Goals as goal

pub loop-place-init : goal.loop-place-init
loop-place-init c =
    left_begin (renamed_as (new_event c.args.new.now.program.now c.args.new.now.channel c.args.new.now.values.now) c.args.new.now.given) (λ rs. rs) c.args.renamed c.args.first c.args.events.now ∙
    ap (λ k. left (renamed_as (new_event c.args.new.now.program.now c.args.new.now.channel c.args.new.now.values.now) c.args.new.now.given) (λ rs. rs) c.args.renamed k c.args.events.now) (omega arith)

pub returns-in_err-renamed : goal.returns-in_err-renamed
returns-in_err-renamed c =
    passed _ _ _ _ c.from_residual.ensures.1 (rw c.event_after.ensures at c.in_err-renamed.ensures)
    (λ k e. c.loop-place.invariant ∙
    left_fault (renamed_as (new_event c.args.new.now.program.now c.args.new.now.channel c.args.new.now.values.now) c.args.new.now.given) (λ rs. rs) refl (λ xs ys. refl) c.loop-place.renamed c.args.events.now
    (c.args.first + c.loop-place.place) c.loop-place.place c.index-events-place.result k (omega arith) c.index-events-place.is e)

pub loop-place-preserved : goal.loop-place-preserved
loop-place-preserved c =
    c.loop-place.invariant ∙
    (left_next (renamed_as (new_event c.args.new.now.program.now c.args.new.now.channel c.args.new.now.values.now) c.args.new.now.given) (λ rs. rs) refl (λ xs ys. refl) c.loop-place.renamed c.in_ok-renamed.renamed c.args.events.now
    (c.args.first + c.loop-place.place) c.loop-place.place c.index-events-place.result (omega arith) c.index-events-place.is (rw c.event_after.ensures at c.in_ok-renamed.ensures) ∙
    ap (λ k. left (renamed_as (new_event c.args.new.now.program.now c.args.new.now.channel c.args.new.now.values.now) c.args.new.now.given) (λ rs. rs) c.in_ok-renamed.renamed k (drop (c.loop-place.place + 1) c.args.events.now)) (omega arith))

pub returns : goal.returns
returns c =
    c.loop-place.invariant ∙
    left_end (renamed_as (new_event c.args.new.now.program.now c.args.new.now.channel c.args.new.now.values.now) c.args.new.now.given) (λ rs. rs) refl (λ xs ys. refl) c.loop-place.renamed c.args.events.now
    (c.args.first + c.loop-place.place) c.loop-place.place (omega arith)
