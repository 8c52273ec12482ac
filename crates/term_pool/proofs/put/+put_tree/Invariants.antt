use Rattle.term_pool.proofs.Prelude.{◌+◌, ◌*◌, max, take, Grows, StandAt}
use Rattle.csp_program.proofs.processes.Proc.TheLaws.{the_size}
use Rattle.term_pool.proofs.put.+put_tree.Given as goal

-- the processes so far are put
abbrev pub invariant-put_trees-loop-proc : goal.invariant-put_trees-loop-proc
invariant-put_trees-loop-proc l = record {
  places : StandAt l.pool l.ids (take l.proc-index l.procs);
  grows : Grows l.initial.pool l.pool (take l.proc-index l.procs);
}

-- how deep what is left is, five for each level: the sub-processes of a process come below it, then one of them, and then several
abbrev pub decreases-put_below : goal.decreases-put_below
decreases-put_below l = 5 * goal.size-put_below l

abbrev pub decreases-put_tree : goal.decreases-put_tree
decreases-put_tree l = 5 * goal.size-put_tree l + 1

abbrev pub decreases-put_one : goal.decreases-put_one
decreases-put_one l = 5 * goal.size-put_one l + 2

abbrev pub decreases-put_two : goal.decreases-put_two
decreases-put_two l = 5 * max (the_size l.p.now) (the_size l.q.now) + 2

abbrev pub decreases-put_trees : goal.decreases-put_trees
decreases-put_trees l = 5 * goal.size-put_trees l + 2
