use Rattle.csp_steps.proofs.Prelude.{List, map, take, Content, IsFront, tree_at, AreMoves, all_moves, effect_as, AreNoted, IsNumbered, seen, Operator}
use Rattle.csp_steps.proofs.around.made_of.Given as goal

abbrev pub invariant-loop-step : goal.invariant-loop-step
invariant-loop-step l = record {
  front : IsFront l.initial.pool l.pool;
  moves : AreMoves l.pool l.steps (all_moves (effect_as l.initial.pool l.round.operator.now) (tree_at l.initial.pool l.round.id) (map (seen l.initial.pool) (take l.step-index l.below)));
  noted : (p : Content) (operators : List Operator) → IsNumbered p l.initial.pool operators l.round → AreNoted p l.initial.pool operators l.initial.places → AreNoted p l.pool operators l.places;
}
