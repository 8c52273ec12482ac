use Rattle.csp_steps.proofs.Prelude.{map, length, refl, ap, ◌∙◌, arith, length-map, steps_of, tree_at, id_or, all_within}
use Rattle.csp_steps.proofs.Alike.{around_each, around_passed, choice_each, known_each, on_ok_of, same_each, these_each}
use Rattle.csp_steps.proofs.Computing.{passed}
use Rattle.csp_steps.proofs.Choosing.{at_any, choice_begin, choice_end, operand_fault, operand_in, operand_less, operand_next}
use Rattle.csp_steps.proofs.Looking.{around_is, choice_below, choice_steps, less_around, less_choice, less_same, made_of, of_choice, these, those}
use Rattle.csp_steps.proofs.Noting.{fits_stay}
use Rattle.csp_steps.proofs.Places.{all_below_stay, front_both, front_same, still_within, tree_stays}
use Rattle.csp_steps.proofs.steps.+steps_at.Goals as goal

pub steps_at-returns-in_err-found-clause-steps : goal.steps_at-returns-in_err-found-clause-steps
steps_at-returns-in_err-found-clause-steps t c =
    passed _ _ _ _ _ c.from_residual-in_err-found.ensures.1 c.in_err-found.ensures.look (λ k e. e)

pub steps_at-returns-in_ok-steps-in-Steps-clause-steps : goal.steps_at-returns-in_ok-steps-in-Steps-clause-steps
steps_at-returns-in_ok-steps-in-Steps-clause-steps t c =
    these_each c.look_at.new.pool c.len.ensures.different c.in-Steps.steps c.in_ok-steps-in-Steps.steps (steps_of c.args.program.now (tree_at c.args.pool.now c.args.id))
    (these c.args.program.now c.look_at.new.pool (tree_at c.args.pool.now c.args.id) c.in_ok-found.found c.in_ok-found.ensures.look c.in-Steps.steps c.in-Steps.is) c.in_ok-steps-in-Steps.ensures

pub steps_at-steps_at-requires : goal.steps_at-steps_at-requires
steps_at-steps_at-requires t c =
    let is = those c.args.program.now c.look_at.new.pool (tree_at c.args.pool.now c.args.id) c.in_ok-found.found c.in_ok-found.ensures.look c.in-Same.same c.in-Same.is in
    let less = less_same c.args.program.now c.look_at.new.pool c.in-Same.same (tree_at c.args.pool.now c.args.id) is in
    (omega (arith, less), (is.within, c.in_ok-found.ensures.fits))

pub steps_at-returns-in-Same-clause-steps : goal.steps_at-returns-in-Same-clause-steps
steps_at-returns-in-Same-clause-steps t c =
    let is = those c.args.program.now c.look_at.new.pool (tree_at c.args.pool.now c.args.id) c.in_ok-found.found c.in_ok-found.ensures.look c.in-Same.same c.in-Same.is in
    same_each _ _ _ _ is.same c.steps_at.ensures.steps

pub steps_at-steps_of_operands-requires : goal.steps_at-steps_of_operands-requires
steps_at-steps_of_operands-requires t c =
    let is = of_choice c.args.program.now c.look_at.new.pool (tree_at c.args.pool.now c.args.id) c.in_ok-found.found c.in_ok-found.ensures.look c.in-Choice.ids c.in-Choice.is in
    let less = less_choice c.args.program.now c.look_at.new.pool c.in-Choice.ids c.as_slice.result.now (tree_at c.args.pool.now c.args.id) is c.as_slice.ensures in
    (omega (arith, less), (choice_below c.args.program.now c.look_at.new.pool c.in-Choice.ids c.as_slice.result.now (tree_at c.args.pool.now c.args.id) is c.as_slice.ensures, c.in_ok-found.ensures.fits))

pub steps_at-steps_at-requires-in-Around : goal.steps_at-steps_at-requires-in-Around
steps_at-steps_at-requires-in-Around t c =
    let is = made_of c.args.program.now c.look_at.new.pool (tree_at c.args.pool.now c.args.id) c.in_ok-found.found c.in_ok-found.ensures.look c.in-Around.below c.in-Around.is in
    let less = less_around c.args.program.now c.look_at.new.pool c.in-Around.below (tree_at c.args.pool.now c.args.id) is in
    (omega (arith, less), (is.within, c.in_ok-found.ensures.fits))

pub steps_of_operands-loop-index-init : goal.steps_of_operands-loop-index-init
steps_of_operands-loop-index-init t c = record {
  front = front_same c.args.pool.now;
  fits = c.requires.fits;
  so_far = choice_begin c.args.program.now (map (tree_at c.args.pool.now) c.args.ids.now) c.args.pool.now c.new-numbered.result c.new-numbered.ensures;
}

pub steps_of_operands-returns-in_err-below-clause-steps : goal.steps_of_operands-returns-in_err-below-clause-steps
steps_of_operands-returns-in_err-below-clause-steps t c =
    passed _ _ _ _ _ c.from_residual.ensures.1 c.in_err-below.ensures.steps
    (λ k e. c.loop-index.invariant.so_far.rest ∙
    operand_fault c.args.program.now c.args.pool.now c.loop-index.pool c.loop-index.pool c.loop-index.pool c.loop-index.invariant.front (front_same c.loop-index.pool) c.args.ids.now c.requires.within
    c.loop-index.index (id_or c.args.ids.now c.loop-index.index) (omega arith) (at_any c.args.ids.now c.loop-index.index (record { 0 = 0 }) (id_or c.args.ids.now c.loop-index.index) (omega arith)) c.loop-index.invariant.so_far.moves k e)

pub steps_of_operands-of_operand-requires : goal.steps_of_operands-of_operand-requires
steps_of_operands-of_operand-requires t c = record {
  operands = all_below_stay c.args.pool.now c.steps_at.new.pool (front_both c.args.pool.now c.loop-index.pool c.steps_at.new.pool c.loop-index.invariant.front c.in_ok-below.ensures.front) c.args.ids.now c.requires.within;
  index = omega arith;
  below = ap (all_within (length c.steps_at.new.pool)) c.as_slice.ensures ∙ c.in_ok-below.ensures.steps.within;
}

pub steps_of_operands-loop-index-preserved : goal.steps_of_operands-loop-index-preserved
steps_of_operands-loop-index-preserved t c = record {
  front = front_both c.args.pool.now c.steps_at.new.pool c.of_operand.new.pool
      (front_both c.args.pool.now c.loop-index.pool c.steps_at.new.pool c.loop-index.invariant.front c.in_ok-below.ensures.front) c.in_ok-made.ensures.front;
  fits = fits_stay c.args.program.now c.steps_at.new.pool c.of_operand.new.pool c.steps_at.new.evaluated c.in_ok-made.ensures.front c.in_ok-below.ensures.fits;
  so_far = operand_next c.args.program.now c.args.pool.now c.loop-index.pool c.steps_at.new.pool c.of_operand.new.pool c.loop-index.invariant.front c.in_ok-below.ensures.front c.args.ids.now c.requires.within
      c.loop-index.index (id_or c.args.ids.now c.loop-index.index) (omega arith) (at_any c.args.ids.now c.loop-index.index (record { 0 = 0 }) (id_or c.args.ids.now c.loop-index.index) (omega arith))
      c.loop-index.numbered c.loop-index.invariant.so_far c.in_ok-below.below c.in_ok-made.made c.add_each.new.numbered c.in_ok-below.ensures.steps c.as_slice.result.now c.as_slice.ensures c.in_ok-made.ensures.front c.in_ok-made.ensures.steps
      c.as_slice-in-loop-index.result.now c.as_slice-in-loop-index.ensures c.len.ensures.different c.in_ok-add_each.ensures;
}

pub steps_of_operands-returns-clause-steps : goal.steps_of_operands-returns-clause-steps
steps_of_operands-returns-clause-steps t c =
    choice_end c.args.program.now (map (tree_at c.args.pool.now) c.args.ids.now) c.loop-index.pool c.loop-index.numbered c.in_ok-steps.steps c.loop-index.index
    (let e = length-map c.args.ids.now (tree_at c.args.pool.now) in omega (arith, e)) c.loop-index.invariant.so_far c.in_ok-steps.ensures

pub steps_of_operands-steps_at-requires : goal.steps_of_operands-steps_at-requires
steps_of_operands-steps_at-requires t c =
    let less = operand_less c.args.program.now c.args.pool.now c.loop-index.pool c.loop-index.pool c.loop-index.pool c.loop-index.invariant.front (front_same c.loop-index.pool) c.args.ids.now c.requires.within
    c.loop-index.index (id_or c.args.ids.now c.loop-index.index) (omega arith) (at_any c.args.ids.now c.loop-index.index (record { 0 = 0 }) (id_or c.args.ids.now c.loop-index.index) (omega arith)) in (
      omega (arith, less),
      (
        operand_in c.args.program.now c.args.pool.now c.loop-index.pool c.loop-index.pool c.loop-index.pool c.loop-index.invariant.front (front_same c.loop-index.pool) c.args.ids.now c.requires.within
            c.loop-index.index (id_or c.args.ids.now c.loop-index.index) (omega arith) (at_any c.args.ids.now c.loop-index.index (record { 0 = 0 }) (id_or c.args.ids.now c.loop-index.index) (omega arith)),
        c.loop-index.invariant.fits,
      ),
    )

pub steps_at-returns-in_err-steps-in-Around-clause-steps : goal.steps_at-returns-in_err-steps-in-Around-clause-steps
steps_at-returns-in_err-steps-in-Around-clause-steps t c =
    let is = made_of c.args.program.now c.look_at.new.pool (tree_at c.args.pool.now c.args.id) c.in_ok-found.found c.in_ok-found.ensures.look c.in-Around.below c.in-Around.is in
    let each = c.in_ok-below-in-Around.ensures.steps in
    around_passed c.args.program.now (tree_at c.args.pool.now c.args.id) (tree_at c.steps_at-in-Around.new.pool c.args.id) (steps_of c.args.program.now (tree_at c.args.pool.now c.args.id)) each.moves
    c.steps_at-in-Around.new.pool c.steps_around.new.pool c.in_ok-below-in-Around.below c.as_slice-in-Around.result.now
    (around_is c.args.program.now c.look_at.new.pool c.in-Around.below (tree_at c.args.pool.now c.args.id) each.moves is each.has) each.firsts c.as_slice-in-Around.ensures
    (tree_stays c.args.pool.now c.steps_at-in-Around.new.pool
    (front_both c.args.pool.now c.look_at.new.pool c.steps_at-in-Around.new.pool c.in_ok-found.ensures.front c.in_ok-below-in-Around.ensures.front) c.args.id c.requires.within)
    _ _ c.from_residual-in_err-steps-in-Around.ensures.1 c.in_err-steps-in-Around.ensures.steps

pub steps_at-returns-in_ok-keep_steps-in-Around-clause-steps : goal.steps_at-returns-in_ok-keep_steps-in-Around-clause-steps
steps_at-returns-in_ok-keep_steps-in-Around-clause-steps t c =
    let is = made_of c.args.program.now c.look_at.new.pool (tree_at c.args.pool.now c.args.id) c.in_ok-found.found c.in_ok-found.ensures.look c.in-Around.below c.in-Around.is in
    let each = c.in_ok-below-in-Around.ensures.steps in
    around_each c.args.program.now (tree_at c.args.pool.now c.args.id) (tree_at c.steps_at-in-Around.new.pool c.args.id) (steps_of c.args.program.now (tree_at c.args.pool.now c.args.id)) each.moves
    c.steps_at-in-Around.new.pool c.steps_around.new.pool c.in_ok-below-in-Around.below c.as_slice-in-Around.result.now
    (around_is c.args.program.now c.look_at.new.pool c.in-Around.below (tree_at c.args.pool.now c.args.id) each.moves is each.has) each.firsts c.as_slice-in-Around.ensures
    (tree_stays c.args.pool.now c.steps_at-in-Around.new.pool
    (front_both c.args.pool.now c.look_at.new.pool c.steps_at-in-Around.new.pool c.in_ok-found.ensures.front c.in_ok-below-in-Around.ensures.front) c.args.id c.requires.within)
    c.len-in-Around.ensures.different c.in_ok-steps-in-Around.steps c.in_ok-steps-in-Around-2.steps c.in_ok-steps-in-Around.ensures.steps c.in_ok-steps-in-Around-2.ensures

pub steps_at-returns-in-Some-clause-steps : goal.steps_at-returns-in-Some-clause-steps
steps_at-returns-in-Some-clause-steps t c =
    known_each c.args.pool.now (steps_of c.args.program.now (tree_at c.args.pool.now c.args.id)) c.in_ok-steps.field-0 c.in-Some.steps c.in-Some.is (c.in_ok-steps.ensures c.args.program.now c.args.pool.now c.requires.fits)

pub steps_at-steps_around-requires-clause-within : goal.steps_at-steps_around-requires-clause-within
steps_at-steps_around-requires-clause-within t c =
    still_within c.args.pool.now c.steps_at-in-Around.new.pool (front_both c.args.pool.now c.look_at.new.pool c.steps_at-in-Around.new.pool c.in_ok-found.ensures.front c.in_ok-below-in-Around.ensures.front) c.args.id c.requires.within

pub steps_at-returns-in_ok-keep_steps-in-Choice-clause-fits : goal.steps_at-returns-in_ok-keep_steps-in-Choice-clause-fits
steps_at-returns-in_ok-keep_steps-in-Choice-clause-fits t c =
    let is = of_choice c.args.program.now c.look_at.new.pool (tree_at c.args.pool.now c.args.id) c.in_ok-found.found c.in_ok-found.ensures.look c.in-Choice.ids c.in-Choice.is in
    let front = front_both c.args.pool.now c.look_at.new.pool c.steps_of_operands.new.pool c.in_ok-found.ensures.front c.in_ok-steps-in-Choice.ensures.front in
    let each = choice_each c.steps_of_operands.new.pool c.in_ok-steps-in-Choice.steps c.as_slice-in-Choice.result.now (steps_of c.args.program.now (tree_at c.args.pool.now c.args.id)) _
    (steps_of c.args.program.now (tree_at c.steps_of_operands.new.pool c.args.id))
    (choice_steps c.args.program.now c.look_at.new.pool c.in-Choice.ids c.as_slice.result.now (tree_at c.args.pool.now c.args.id) is c.as_slice.ensures) c.as_slice-in-Choice.ensures
    (ap (steps_of c.args.program.now) (tree_stays c.args.pool.now c.steps_of_operands.new.pool front c.args.id c.requires.within)) c.in_ok-steps-in-Choice.ensures.steps in
    let kept = c.keep_steps.ensures c.args.program.now c.steps_of_operands.new.pool c.in_ok-steps-in-Choice.ensures.fits (still_within c.args.pool.now c.steps_of_operands.new.pool front c.args.id c.requires.within) each in
    on_ok_of c.keep_steps.result c.in_ok-keep_steps-in-Choice.field-0 _ c.in_ok-keep_steps-in-Choice.was kept

pub steps_at-returns-in_ok-keep_steps-in-Choice-clause-steps : goal.steps_at-returns-in_ok-keep_steps-in-Choice-clause-steps
steps_at-returns-in_ok-keep_steps-in-Choice-clause-steps t c =
    let is = of_choice c.args.program.now c.look_at.new.pool (tree_at c.args.pool.now c.args.id) c.in_ok-found.found c.in_ok-found.ensures.look c.in-Choice.ids c.in-Choice.is in
    choice_each c.steps_of_operands.new.pool c.in_ok-steps-in-Choice.steps c.in_ok-steps-in-Choice.steps (steps_of c.args.program.now (tree_at c.args.pool.now c.args.id)) _
    (steps_of c.args.program.now (tree_at c.args.pool.now c.args.id))
    (choice_steps c.args.program.now c.look_at.new.pool c.in-Choice.ids c.as_slice.result.now (tree_at c.args.pool.now c.args.id) is c.as_slice.ensures) refl refl c.in_ok-steps-in-Choice.ensures.steps

pub steps_at-returns-in_err-steps-in-Choice-clause-steps : goal.steps_at-returns-in_err-steps-in-Choice-clause-steps
steps_at-returns-in_err-steps-in-Choice-clause-steps t c =
    let is = of_choice c.args.program.now c.look_at.new.pool (tree_at c.args.pool.now c.args.id) c.in_ok-found.found c.in_ok-found.ensures.look c.in-Choice.ids c.in-Choice.is in
    passed _ _ _ _ _ c.from_residual-in_err-steps-in-Choice.ensures.1 c.in_err-steps-in-Choice.ensures.steps
    (λ k e. choice_steps c.args.program.now c.look_at.new.pool c.in-Choice.ids c.as_slice.result.now (tree_at c.args.pool.now c.args.id) is c.as_slice.ensures ∙ e)

pub steps_at-returns-in_ok-keep_steps-in-Around-clause-fits : goal.steps_at-returns-in_ok-keep_steps-in-Around-clause-fits
steps_at-returns-in_ok-keep_steps-in-Around-clause-fits t c =
    let is = made_of c.args.program.now c.look_at.new.pool (tree_at c.args.pool.now c.args.id) c.in_ok-found.found c.in_ok-found.ensures.look c.in-Around.below c.in-Around.is in
    let below = c.in_ok-below-in-Around.ensures.steps in
    let deep = front_both c.args.pool.now c.look_at.new.pool c.steps_at-in-Around.new.pool c.in_ok-found.ensures.front c.in_ok-below-in-Around.ensures.front in
    let front = front_both c.args.pool.now c.steps_at-in-Around.new.pool c.steps_around.new.pool deep c.in_ok-steps-in-Around.ensures.front in
    let steps = around_each c.args.program.now (tree_at c.args.pool.now c.args.id) (tree_at c.steps_at-in-Around.new.pool c.args.id) (steps_of c.args.program.now (tree_at c.args.pool.now c.args.id)) below.moves
    c.steps_at-in-Around.new.pool c.steps_around.new.pool c.in_ok-below-in-Around.below c.as_slice-in-Around.result.now
    (around_is c.args.program.now c.look_at.new.pool c.in-Around.below (tree_at c.args.pool.now c.args.id) below.moves is below.has) below.firsts c.as_slice-in-Around.ensures
    (tree_stays c.args.pool.now c.steps_at-in-Around.new.pool deep c.args.id c.requires.within)
    c.len-in-Around.ensures.different c.in_ok-steps-in-Around.steps c.in_ok-steps-in-Around-2.steps c.in_ok-steps-in-Around.ensures.steps c.in_ok-steps-in-Around-2.ensures in
    let each = choice_each c.steps_around.new.pool c.in_ok-steps-in-Around-2.steps c.as_slice-in-Around-2.result.now (steps_of c.args.program.now (tree_at c.args.pool.now c.args.id)) _
    (steps_of c.args.program.now (tree_at c.steps_around.new.pool c.args.id)) refl c.as_slice-in-Around-2.ensures
    (ap (steps_of c.args.program.now) (tree_stays c.args.pool.now c.steps_around.new.pool front c.args.id c.requires.within)) steps in
    let kept = c.keep_steps-in-Around.ensures c.args.program.now c.steps_around.new.pool c.in_ok-steps-in-Around.ensures.fits (still_within c.args.pool.now c.steps_around.new.pool front c.args.id c.requires.within) each in
    on_ok_of c.keep_steps-in-Around.result c.in_ok-keep_steps-in-Around.field-0 _ c.in_ok-keep_steps-in-Around.was kept
