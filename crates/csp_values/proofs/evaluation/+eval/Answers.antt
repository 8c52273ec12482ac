-- The ways out of evaluation that no attribute closes: those of the walk over generators, and a few others. An expression of a new form gets an equation in
-- `Arms` and in `Falls`, and a lemma in `Stays`.
use Rattle.csp_values.proofs.Prelude.{slice_get, ◌≡◌, ◌+◌, ◌<◌, ℕ, List, Gen, get_or, length, Some, Ok, ap, refl, subst, sym, ◌∙◌, arith, env_in, parameters, with_bound, gathered_of, one_more_binding, yielded, slice_get_read, passed}
use Rattle.csp_values.proofs.Arms.{binding_passed, walk_passed, front_fault}
use Rattle.csp_values.proofs.Again.{adds_nothing, there_after}
use Rattle.csp_values.proofs.Stays.{once_begun}
use Rattle.csp_values.proofs.Courses.{binding_found, condition_fails, condition_fault, condition_holds, gathering_fault, gathering_next, goes_under, over_end, over_fault, set_entered, set_fault, step_passed}
use Rattle.csp_values.proofs.Falls.{condition_falls, set_falls}
use Rattle.csp_values.proofs.FieldSteps.{field_refused, field_taken, front_placed}
use Rattle.csp_values.proofs.Steps.{items_refused}
use Rattle.csp_values.proofs.evaluation.+eval.Goals as goal
use Rattle.csp_values.proofs.evaluation.+eval.Goals.{enter-then-holds, enter-else-holds}
use Rattle.csp_program.specs.declared.expressions.Gen.TheVariants as generator

-- the generator on turn
placed : (gens : List Gen) (place : ℕ) (found g : Gen) → place < length gens → found ≡ get_or gens place found → found ≡ g → slice_get gens place ≡ Some g
placed gens place found g within at is = let here : slice_get gens place ≡ Some found = slice_get_read gens (length gens) place found refl within at in cc

pub enter-eval_atoms-requires : goal.enter-eval_atoms-requires
enter-eval_atoms-requires t c =
    let h = placed c.args.gens.now c.args.place c.in-Some-From.field-0.now (generator.From c.in-Some-From.slot c.in-Some-From.set) c.in-Some-From.ensures.lookup.3.0 c.in-Some-From.ensures.lookup.1 c.in-Some-From.field-0-is in
    (omega (arith, set_falls c.args.gens.now c.args.place c.in-Some-From.slot c.in-Some-From.set h), tt)

pub enter-returns-in_err-atoms-in-Some-From : goal.enter-returns-in_err-atoms-in-Some-From
enter-returns-in_err-atoms-in-Some-From t c =
    let h = placed c.args.gens.now c.args.place c.in-Some-From.field-0.now (generator.From c.in-Some-From.slot c.in-Some-From.set) c.in-Some-From.ensures.lookup.3.0 c.in-Some-From.ensures.lookup.1 c.in-Some-From.field-0-is in
    step_passed _ _ _ _ _ _ _ _ c.from_residual.ensures.1 c.in_err-atoms-in-Some-From.ensures
    (λ k e. set_fault c.args.scope.now.content.now c.args.scope.now.uses c.args.gens.now c.args.scope.now.names.now.bound.now (parameters c.args.scope.now.names.now) c.args.walk.now c.requires.under c.args.place c.requires.turn
    c.in-Some-From.slot c.in-Some-From.set c.bound_names.result.now k h c.bound_names.ensures e)

pub enter-returns-in_ok-take-in-Some-From : goal.enter-returns-in_ok-take-in-Some-From
enter-returns-in_ok-take-in-Some-From t c =
    let h = placed c.args.gens.now c.args.place c.in-Some-From.field-0.now (generator.From c.in-Some-From.slot c.in-Some-From.set) c.in-Some-From.ensures.lookup.3.0 c.in-Some-From.ensures.lookup.1 c.in-Some-From.field-0-is in (
      set_entered c.args.scope.now.content.now c.args.scope.now.uses c.args.gens.now c.args.scope.now.names.now.bound.now (parameters c.args.scope.now.names.now) c.args.walk.now c.requires.under c.args.place c.requires.turn
          c.in-Some-From.slot c.in-Some-From.set c.bound_names.result.now c.in_ok-atoms-in-Some-From.atoms c.take.new.self h c.bound_names.ensures c.in_ok-atoms-in-Some-From.ensures c.in_ok-take-in-Some-From.ensures,
      goes_under c.args.scope.now.names.now.bound.now c.args.walk.now c.args.walk.now c.take.new.self c.in-Some-From.slot c.in_ok-atoms-in-Some-From.atoms 0 (c.args.place + 1) c.requires.under (λ names under. under) c.in_ok-take-in-Some-From.ensures,
    )

pub enter-eval_truth-requires : goal.enter-eval_truth-requires
enter-eval_truth-requires t c =
    let h = placed c.args.gens.now c.args.place c.in-Some-Cond.field-0.now (generator.Cond c.in-Some-Cond.condition) c.in-Some-Cond.ensures.lookup.3.0 c.in-Some-Cond.ensures.lookup.1 c.in-Some-Cond.field-0-is in
    (omega (arith, condition_falls c.args.gens.now c.args.place c.in-Some-Cond.condition h), tt)

pub enter-returns-in_err-holds-in-Some-Cond : goal.enter-returns-in_err-holds-in-Some-Cond
enter-returns-in_err-holds-in-Some-Cond t c =
    let h = placed c.args.gens.now c.args.place c.in-Some-Cond.field-0.now (generator.Cond c.in-Some-Cond.condition) c.in-Some-Cond.ensures.lookup.3.0 c.in-Some-Cond.ensures.lookup.1 c.in-Some-Cond.field-0-is in
    step_passed _ _ _ _ _ _ _ _ c.from_residual-in_err-holds-in-Some-Cond.ensures.1 c.in_err-holds-in-Some-Cond.ensures
    (λ k e. condition_fault c.args.scope.now.content.now c.args.scope.now.uses c.args.gens.now c.args.scope.now.names.now.bound.now (parameters c.args.scope.now.names.now) c.args.walk.now c.requires.under c.args.place c.requires.turn
    c.in-Some-Cond.condition c.bound_names.result.now k h c.bound_names.ensures e)

pub enter-returns-after-holds : goal.enter-returns-after-holds
enter-returns-after-holds t c =
    let h = placed c.args.gens.now c.args.place c.in-Some-Cond.field-0.now (generator.Cond c.in-Some-Cond.condition) c.in-Some-Cond.ensures.lookup.3.0 c.in-Some-Cond.ensures.lookup.1 c.in-Some-Cond.field-0-is in
    elim c.if-holds.branch [
      | enter-then-holds w ↦ (
        condition_holds c.args.scope.now.content.now c.args.scope.now.uses c.args.gens.now c.args.scope.now.names.now.bound.now (parameters c.args.scope.now.names.now) c.args.walk.now c.requires.under c.args.place c.requires.turn
            c.in-Some-Cond.condition c.bound_names.result.now c.in_ok-holds-in-Some-Cond.holds c.if-holds.walk h c.bound_names.ensures c.in_ok-holds-in-Some-Cond.ensures w.if-holds.true w.walk-is,
        c.requires.under,
      )
      | enter-else-holds w ↦ (
        condition_fails c.args.scope.now.content.now c.args.scope.now.uses c.args.gens.now c.args.scope.now.names.now.bound.now (parameters c.args.scope.now.names.now) c.args.walk.now c.requires.under c.args.place c.requires.turn
            c.in-Some-Cond.condition c.bound_names.result.now c.in_ok-holds-in-Some-Cond.holds c.if-holds.walk h c.bound_names.ensures c.in_ok-holds-in-Some-Cond.ensures w.if-holds.false w.walk-is,
        c.requires.under,
      )
    ]

pub enter-returns-in-None : goal.enter-returns-in-None
enter-returns-in-None t c = (
  binding_found c.args.scope.now.content.now c.args.scope.now.uses c.args.gens.now c.args.scope.now.names.now.bound.now (parameters c.args.scope.now.names.now) c.args.walk.now c.requires.under c.args.place c.requires.turn c.in-None.ensures.lookup.3,
  c.requires.under,
)

pub gather_each-returns-in_err-find_binding : goal.gather_each-returns-in_err-find_binding
gather_each-returns-in_err-find_binding t c =
    binding_passed _ _ _ _ c.from_residual-in_err-find_binding.ensures.1 c.in_err-find_binding.ensures
    (λ k e. c.bindings.invariant.same ∙ over_fault (one_more_binding c.args.scope.now.content.now c.args.scope.now.uses c.args.yields.now.items.now c.args.yields.now.parts.now) _ (gathered_of c.bindings.tally) k e)

pub gather_each-returns-in_err-tally : goal.gather_each-returns-in_err-tally
gather_each-returns-in_err-tally t c =
    let found = rw c.if-branch.true at c.in_ok-find_binding.ensures in
    walk_passed _ _ _ _ c.from_residual-in_err-tally.ensures.1 c.in_err-tally.ensures
    (λ k e. gathering_fault (one_more_binding c.args.scope.now.content.now c.args.scope.now.uses c.args.yields.now.items.now c.args.yields.now.parts.now) _ _ _ _ _ (gathered_of c.bindings.tally) k c.bindings.invariant.same found.0 (ap (λ bs. with_bound bs (parameters c.args.scope.now.names.now)) c.bound_names.ensures) e)

pub gather_each-bindings-preserved : goal.gather_each-bindings-preserved
gather_each-bindings-preserved t c =
    let found = rw c.if-branch.true at c.in_ok-find_binding.ensures in
    record {
      same = gathering_next (one_more_binding c.args.scope.now.content.now c.args.scope.now.uses c.args.yields.now.items.now c.args.yields.now.parts.now) _ _ _ _ _ (gathered_of c.bindings.tally) (gathered_of c.in_ok-tally.tally) c.bindings.invariant.same found.0
          (ap (λ bs. with_bound bs (parameters c.args.scope.now.names.now)) c.bound_names.ensures) c.in_ok-tally.ensures;
      under = found.1;
    }

pub gather_once-returns-in_err-find_binding : goal.gather_once-returns-in_err-find_binding
gather_once-returns-in_err-find_binding t c =
    let begun = once_begun c.args.scope.now.content.now c.args.scope.now.uses c.args.gens.now c.args.yields.now.items.now c.args.yields.now.parts.now c.args.scope.now.names.now.bound.now (parameters c.args.scope.now.names.now) c.in_ok-walk.walk (gathered_of c.args.tally) c.requires.items c.requires.parts c.in_ok-walk.ensures in
    binding_passed _ _ _ _ c.from_residual-in_err-find_binding.ensures.1 c.in_err-find_binding.ensures
    (λ k e. begun ∙ over_fault (λ _. one_more_binding c.args.scope.now.content.now c.args.scope.now.uses c.args.yields.now.items.now c.args.yields.now.parts.now (env_in c.args.scope.now.names.now)) _ (gathered_of c.args.tally) k e)

pub gather_once-returns-then-not-branch : goal.gather_once-returns-then-not-branch
gather_once-returns-then-not-branch t c =
    let begun = once_begun c.args.scope.now.content.now c.args.scope.now.uses c.args.gens.now c.args.yields.now.items.now c.args.yields.now.parts.now c.args.scope.now.names.now.bound.now (parameters c.args.scope.now.names.now) c.in_ok-walk.walk (gathered_of c.args.tally) c.requires.items c.requires.parts c.in_ok-walk.ensures in
    let ended = rw c.if-not-branch.true at c.in_ok-find_binding.ensures in
    begun ∙ over_end (λ _. one_more_binding c.args.scope.now.content.now c.args.scope.now.uses c.args.yields.now.items.now c.args.yields.now.parts.now (env_in c.args.scope.now.names.now)) _ (gathered_of c.args.tally) ended

pub gather_once-returns-in_err-tally : goal.gather_once-returns-in_err-tally
gather_once-returns-in_err-tally t c =
    let begun = once_begun c.args.scope.now.content.now c.args.scope.now.uses c.args.gens.now c.args.yields.now.items.now c.args.yields.now.parts.now c.args.scope.now.names.now.bound.now (parameters c.args.scope.now.names.now) c.in_ok-walk.walk (gathered_of c.args.tally) c.requires.items c.requires.parts c.in_ok-walk.ensures in
    let found = rw c.if-not-branch.false at c.in_ok-find_binding.ensures in
    walk_passed _ _ _ _ c.from_residual-in_err-tally.ensures.1 c.in_err-tally.ensures
    (λ k e. gathering_fault (λ _. one_more_binding c.args.scope.now.content.now c.args.scope.now.uses c.args.yields.now.items.now c.args.yields.now.parts.now (env_in c.args.scope.now.names.now)) _ _ _ _ _ (gathered_of c.args.tally) k begun found.0 refl e)

pub gather_once-bindings-init : goal.gather_once-bindings-init
gather_once-bindings-init t c =
    let begun = once_begun c.args.scope.now.content.now c.args.scope.now.uses c.args.gens.now c.args.yields.now.items.now c.args.yields.now.parts.now c.args.scope.now.names.now.bound.now (parameters c.args.scope.now.names.now) c.in_ok-walk.walk (gathered_of c.args.tally) c.requires.items c.requires.parts c.in_ok-walk.ensures in
    let found = rw c.if-not-branch.false at c.in_ok-find_binding.ensures in
    record {
      same = gathering_next (λ _. one_more_binding c.args.scope.now.content.now c.args.scope.now.uses c.args.yields.now.items.now c.args.yields.now.parts.now (env_in c.args.scope.now.names.now)) _ _ _ _ _ (gathered_of c.args.tally) (gathered_of c.in_ok-tally.tally) begun found.0 refl c.in_ok-tally.ensures;
      under = found.1;
      there = there_after c.args.scope.now.content.now c.args.scope.now.uses c.args.yields.now.items.now c.args.yields.now.parts.now (env_in c.args.scope.now.names.now) (gathered_of c.args.tally) (gathered_of c.in_ok-tally.tally) c.requires.set c.in_ok-tally.ensures;
    }

pub gather_once-returns-in_err-find_binding-2 : goal.gather_once-returns-in_err-find_binding-2
gather_once-returns-in_err-find_binding-2 t c =
    binding_passed _ _ _ _ c.from_residual-in_err-find_binding-2.ensures.1 c.in_err-find_binding-2.ensures
    (λ k e. c.bindings.invariant.same ∙ over_fault (λ _. one_more_binding c.args.scope.now.content.now c.args.scope.now.uses c.args.yields.now.items.now c.args.yields.now.parts.now (env_in c.args.scope.now.names.now)) _ (gathered_of c.bindings.tally) k e)

pub gather_once-returns-in_err-tally-2 : goal.gather_once-returns-in_err-tally-2
gather_once-returns-in_err-tally-2 t c =
    let found = rw c.if-branch.true at c.in_ok-find_binding-2.ensures in
    walk_passed _ _ _ _ c.from_residual-in_err-tally-2.ensures.1 c.in_err-tally-2.ensures.tally
    (λ k e. gathering_fault (λ _. one_more_binding c.args.scope.now.content.now c.args.scope.now.uses c.args.yields.now.items.now c.args.yields.now.parts.now (env_in c.args.scope.now.names.now)) _ _ _ _ _ (gathered_of c.bindings.tally) k c.bindings.invariant.same found.0 refl
    (adds_nothing c.args.scope.now.content.now c.args.scope.now.uses c.args.yields.now.items.now c.args.yields.now.parts.now (env_in c.args.scope.now.names.now) (gathered_of c.bindings.tally) c.bindings.invariant.there ∙ e))

pub gather_once-bindings-preserved : goal.gather_once-bindings-preserved
gather_once-bindings-preserved t c =
    let found = rw c.if-branch.true at c.in_ok-find_binding-2.ensures in
    record {
      same = gathering_next (λ _. one_more_binding c.args.scope.now.content.now c.args.scope.now.uses c.args.yields.now.items.now c.args.yields.now.parts.now (env_in c.args.scope.now.names.now)) _ _ _ _ _ (gathered_of c.bindings.tally) (gathered_of c.in_ok-tally-2.tally) c.bindings.invariant.same found.0 refl
          (adds_nothing c.args.scope.now.content.now c.args.scope.now.uses c.args.yields.now.items.now c.args.yields.now.parts.now (env_in c.args.scope.now.names.now) (gathered_of c.bindings.tally) c.bindings.invariant.there ∙ c.in_ok-tally-2.ensures.tally);
      under = found.1;
      there = subst (λ atoms. yielded c.args.scope.now.content.now c.args.scope.now.uses c.args.yields.now.items.now c.args.yields.now.parts.now (env_in c.args.scope.now.names.now) atoms ≡ Ok atoms) (sym c.in_ok-tally-2.ensures.atoms) c.bindings.invariant.there;
    }

pub add_front-returns-in_err-first : goal.add_front-returns-in_err-first
add_front-returns-in_err-first t c =
    passed _ _ _ _ c.from_residual.ensures.1 c.in_err-first.ensures
    (λ k e. front_fault c.args.scope.now.content.now c.args.scope.now.uses (env_in c.args.scope.now.names.now) c.channels-channels.result.now c.channels-channels.ensures.channels c.channels-channels.ensures.fit c.args.part.now c.args.atoms c.as_slice.result.now k c.as_slice.ensures e)

pub eval_fields-returns-in_err-place : goal.eval_fields-returns-in_err-place
eval_fields-returns-in_err-place t c = passed _ _ _ _ c.from_residual.ensures.1 c.in_err-place.ensures (λ k e. field_refused _ c.args.scope.now.content.now c.args.scope.now.uses (env_in c.args.scope.now.names.now) c.args.fields.now c.loop-field.rest.now c.in-Some.set.now c.in-Some.others.now c.args.each c.loop-field.number c.loop-field.field-index c.field-item.result k c.loop-field.invariant.same (omega arith) c.field-item.is c.in-Some.ensures.cases.0 e)

pub eval_fields-loop-field-preserved : goal.eval_fields-loop-field-preserved
eval_fields-loop-field-preserved t c = record {
  within = omega (arith, c.with_field-number.ensures);
  same =
      field_taken _ c.args.scope.now.content.now c.args.scope.now.uses (env_in c.args.scope.now.names.now) c.args.fields.now c.loop-field.rest.now c.in-Some.set.now c.in-Some.others.now c.args.each c.loop-field.number c.with_field-number.result c.in_ok-place.place c.loop-field.field-index c.field-item.result c.loop-field.invariant.same (omega arith) c.field-item.is c.in-Some.ensures.cases.0 c.in_ok-place.ensures c.with_field-number.ensures;
}

pub eval_front-event_at-requires : goal.eval_front-event_at-requires
eval_front-event_at-requires t c =
    (front_placed c.args.scope.now.content.now c.args.scope.now.uses (env_in c.args.scope.now.names.now) c.args.channel c.args.fields.now c.in-Some.sets.now c.channels-channels.result.now c.in_ok-place-in-Some.place c.channels-channels.ensures.channels c.channels-channels.ensures.fit c.in-Some.ensures c.in_ok-place-in-Some.ensures).1

pub add_items-returns-in_err-atoms : goal.add_items-returns-in_err-atoms
add_items-returns-in_err-atoms t c = passed _ _ _ _ c.from_residual.ensures.1 c.in_err-atoms.ensures (λ k e. items_refused _ c.args.scope.now.content.now c.args.scope.now.uses (env_in c.args.scope.now.names.now) c.loop-item.atoms c.args.items.now c.loop-item.item-index c.item-item.result k c.loop-item.invariant (omega arith) c.item-item.is e)
