use Rattle.csp_steps.proofs.Prelude.{List, [], map, refl, sym, subst, arith, in_choice, tree_at, AreMoves, StepTo, made_then}
use Rattle.csp_steps.proofs.Computing.{whole_moves}
use Rattle.csp_steps.proofs.Places.{all_below_stay, front_both, front_same}
use Rattle.csp_steps.proofs.Rounds.{choice_next, step_in}
use Rattle.csp_steps.proofs.choice.of_operand.Goals as goal

pub loop-step-init : goal.loop-step-init
loop-step-init c = record {
  front = front_same c.args.pool.now;
  moves = subst (λ (ss : List StepTo). AreMoves c.args.pool.now ss []) (sym c.new-steps.ensures) (record { same = refl; within = refl });
}

pub in_choice-requires : goal.in_choice-requires
in_choice-requires c = record {
  operands = all_below_stay c.args.pool.now c.loop-step.pool c.loop-step.invariant.front c.args.ids.now c.requires.operands;
  index = c.requires.index;
  within = step_in c.args.pool.now c.loop-step.pool c.loop-step.pool c.loop-step.invariant.front (front_same c.loop-step.pool) c.args.below.now c.requires.below c.loop-step.step-index c.step-item.result (omega arith) c.step-item.is;
}

pub loop-step-preserved : goal.loop-step-preserved
loop-step-preserved c = record {
  front = front_both c.args.pool.now c.loop-step.pool c.in_choice.new.pool c.loop-step.invariant.front c.in_choice.ensures.front;
  moves = made_then c.in_choice.result _ _ _ c.in_choice.ensures.move_ c.in_ok-push_made.ensures.ok (λ x p q. choice_next c.args.pool.now c.loop-step.pool c.in_choice.new.pool c.loop-step.invariant.front c.in_choice.ensures.front c.args.below.now c.requires.below
      c.loop-step.step-index c.step-item.result (omega arith) c.step-item.is c.args.ids.now c.requires.operands c.args.index [] c.loop-step.steps c.push_made.new.self x
      c.loop-step.invariant.moves p q);
}

pub returns-clause-steps : goal.returns-clause-steps
returns-clause-steps c =
    whole_moves c.args.pool.now c.loop-step.pool (λ m. in_choice (map (tree_at c.args.pool.now) c.args.ids.now) c.args.index m.0 m.1) [] c.args.below.now c.loop-step.steps c.loop-step.step-index (omega arith)
    c.loop-step.invariant.moves
