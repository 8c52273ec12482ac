use Rattle.csp_steps.proofs.Prelude.{take, each_put, IsFront, tree_at, AreAt}
use Rattle.csp_steps.proofs.choice.each_put.Given as goal

abbrev pub invariant-loop-atom : goal.invariant-loop-atom
invariant-loop-atom l = record {
  front : IsFront l.initial.pool l.pool;
  places : AreAt l.pool l.ids (each_put l.name (take l.atom-index l.atoms) (tree_at l.initial.pool l.id));
}
