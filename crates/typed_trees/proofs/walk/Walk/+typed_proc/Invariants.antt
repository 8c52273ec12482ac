use Rattle.typed_trees.proofs.Prelude.{◌≡◌, ◌+◌, ◌*◌, ◌++◌, drop, max, all_tokens, procs_at}
use Rattle.csp_text.proofs.tree.Tree.TheLaws.{the_size}
use Rattle.typed_trees.proofs.walk.Walk.+typed_proc.Given as goal

-- what is made so far, followed by what is made of the rest, is what is made of all
abbrev pub invariant-processes-loop-tree : goal.invariant-processes-loop-tree
invariant-processes-loop-tree l = record {
  made : l.made ++ procs_at l.self (drop l.tree-index l.trees) ≡ procs_at l.initial.self l.trees;
  names : l.self.names ≡ l.initial.self.names;
  kinds : l.self.kinds ≡ l.initial.self.kinds;
  scope : l.self.scope ≡ l.initial.self.scope;
  next : l.self.next + all_tokens (drop l.tree-index l.trees) ≡ l.initial.self.next + all_tokens l.trees;
}

-- how deep what is left is, four for each level: a list or a tree on the heap comes above what stands in it, and a form
-- above those
abbrev pub decreases-process : goal.decreases-process
decreases-process l = 4 * the_size l.tree.now

abbrev pub decreases-box_proc : goal.decreases-box_proc
decreases-box_proc l = 4 * the_size l.tree.now + 1

abbrev pub decreases-processes : goal.decreases-processes
decreases-processes l = 4 * goal.size-processes l + 1

abbrev pub decreases-prefix : goal.decreases-prefix
decreases-prefix l = 4 * the_size l.p.now + 2

abbrev pub decreases-guard : goal.decreases-guard
decreases-guard l = 4 * the_size l.p.now + 2

abbrev pub decreases-for_each : goal.decreases-for_each
decreases-for_each l = 4 * the_size l.p.now + 2

abbrev pub decreases-hiding : goal.decreases-hiding
decreases-hiding l = 4 * the_size l.p.now + 2

abbrev pub decreases-renaming : goal.decreases-renaming
decreases-renaming l = 4 * the_size l.p.now + 2

abbrev pub decreases-two_procs : goal.decreases-two_procs
decreases-two_procs l = 4 * max (the_size l.p.now) (the_size l.q.now) + 2

abbrev pub decreases-proc_choice : goal.decreases-proc_choice
decreases-proc_choice l = 4 * max (the_size l.p.now) (the_size l.q.now) + 3

abbrev pub decreases-sequence : goal.decreases-sequence
decreases-sequence l = 4 * max (the_size l.p.now) (the_size l.q.now) + 3
