use Rattle.csp_steps.proofs.Prelude.{◌+◌, ◌*◌, map, proc_depth, IsFront, tree_at, Fits, greatest}
use Rattle.csp_steps.proofs.Choosing.{IsChoiceSoFar}
use Rattle.csp_steps.proofs.steps.+steps_at.Given as goal

-- each call goes to a process that is less deep, or from the operands of a choice to one that is no deeper than the deepest
abbrev pub decreases-steps_at : goal.decreases-steps_at
decreases-steps_at l = 2 * proc_depth (tree_at l.pool.now l.id)

abbrev pub decreases-steps_of_operands : goal.decreases-steps_of_operands
decreases-steps_of_operands l = 2 * greatest (map proc_depth (map (tree_at l.pool.now) l.ids.now)) + 1

-- the operands that are left still have their steps to come
abbrev pub invariant-steps_of_operands-loop-index : goal.invariant-steps_of_operands-loop-index
invariant-steps_of_operands-loop-index l = record {
  front : IsFront l.initial.pool l.pool;
  fits : Fits l.program l.pool l.evaluated;
  so_far : IsChoiceSoFar l.program (map (tree_at l.initial.pool) l.ids) l.pool l.numbered l.index;
}
