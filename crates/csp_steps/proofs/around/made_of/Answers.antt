use Rattle.csp_steps.proofs.Prelude.{List, [], refl, sym, subst, arith, tree_at, AreMoves, effect_as, moves_of, StepTo}
use Rattle.csp_steps.proofs.Alike.{on_ok_of}
use Rattle.csp_steps.proofs.Computing.{whole_joined}
use Rattle.csp_steps.proofs.Effects.{operator_stays}
use Rattle.csp_steps.proofs.Noting.{numbered_stay}
use Rattle.csp_steps.proofs.Places.{front_both, front_same, still_within}
use Rattle.csp_steps.proofs.Rounds.{made_next, step_in}
use Rattle.csp_steps.proofs.around.made_of.Goals as goal

pub loop-step-init : goal.loop-step-init
loop-step-init c = record {
  front = front_same c.args.pool.now;
  moves = subst (λ (ss : List StepTo). AreMoves c.args.pool.now ss []) (sym c.new-steps.ensures) (record { same = refl; within = refl });
  noted = λ p operators is h. h;
}

pub add_made-requires : goal.add_made-requires
add_made-requires c = record {
  id = still_within c.args.pool.now c.loop-step.pool c.loop-step.invariant.front c.args.round.now.id c.requires.id;
  operator = operator_stays c.args.pool.now c.loop-step.pool c.loop-step.invariant.front c.args.round.now.operator.now c.requires.operator;
  below = step_in c.args.pool.now c.loop-step.pool c.loop-step.pool c.loop-step.invariant.front (front_same c.loop-step.pool) c.args.below.now c.requires.below c.loop-step.step-index c.step-item.result (omega arith) c.step-item.is;
  within = c.loop-step.invariant.moves.within;
}

pub loop-step-preserved : goal.loop-step-preserved
loop-step-preserved c = record {
  front = front_both c.args.pool.now c.loop-step.pool c.add_made.new.pool c.loop-step.invariant.front c.in_ok-add_made.ensures.front;
  moves = made_next c.args.pool.now c.loop-step.pool c.add_made.new.pool c.loop-step.invariant.front c.in_ok-add_made.ensures.front c.args.below.now c.requires.below
      c.loop-step.step-index c.step-item.result (omega arith) c.step-item.is c.args.round.now.id c.requires.id c.args.round.now.operator.now c.requires.operator c.loop-step.steps c.add_made.new.steps
      c.loop-step.invariant.moves c.in_ok-add_made.ensures.steps;
  noted = λ p operators is h. on_ok_of c.add_made.result c.in_ok-add_made.field-0 _ c.in_ok-add_made.was
      (c.add_made.ensures.noted p operators (numbered_stay p c.args.pool.now c.loop-step.pool operators c.args.round.now c.loop-step.invariant.front c.requires.id is) (c.loop-step.invariant.noted p operators is h));
}

pub returns-clause-steps : goal.returns-clause-steps
returns-clause-steps c =
    whole_joined c.args.pool.now c.loop-step.pool (λ m. moves_of (effect_as c.args.pool.now c.args.round.now.operator.now) (tree_at c.args.pool.now c.args.round.now.id) m.0 m.1) c.args.below.now c.loop-step.steps
    c.loop-step.step-index (omega arith) c.loop-step.invariant.moves

pub returns-clause-noted : goal.returns-clause-noted
returns-clause-noted c = λ p operators is h. c.loop-step.invariant.noted p operators is h
