use Rattle.csp_steps.proofs.Prelude.{map, take, in_choice, IsFront, tree_at, AreMoves, seen}
use Rattle.csp_steps.proofs.choice.of_operand.Given as goal

abbrev pub invariant-loop-step : goal.invariant-loop-step
invariant-loop-step l = record {
  front : IsFront l.initial.pool l.pool;
  moves : AreMoves l.pool l.steps (map (λ m. in_choice (map (tree_at l.initial.pool) l.ids) l.index m.0 m.1) (map (seen l.initial.pool) (take l.step-index l.below)));
}
