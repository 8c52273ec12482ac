use Rattle.substitution.proofs.Prelude.{◌≡◌, ◌+◌, ◌*◌, ◌++◌, drop, map, max, given_by, proc_with}
use Rattle.csp_program.proofs.processes.Proc.TheLaws.{the_size}
use Rattle.substitution.proofs.processes.+put_proc.Given as goal

-- what is made so far, followed by what is made of the rest, is what is made of all
abbrev pub invariant-put_procs-loop-proc : goal.invariant-put_procs-loop-proc
invariant-put_procs-loop-proc l = l.made ++ map (proc_with (given_by l.values)) (drop l.proc-index l.procs) ≡ map (proc_with (given_by l.values)) l.procs

-- how deep what is left is, four for each level: a list or a process on the heap comes above what stands in it, two of them above one, and a form above those
abbrev pub decreases-put_proc : goal.decreases-put_proc
decreases-put_proc l = 4 * the_size l.proc.now

abbrev pub decreases-replace_boxed_proc : goal.decreases-replace_boxed_proc
decreases-replace_boxed_proc l = 4 * the_size l.proc.now + 1

abbrev pub decreases-replace_after : goal.decreases-replace_after
decreases-replace_after l = 4 * the_size l.p.now + 2

abbrev pub decreases-put_procs : goal.decreases-put_procs
decreases-put_procs l = 4 * goal.size-put_procs l + 1

abbrev pub decreases-prefix : goal.decreases-prefix
decreases-prefix l = 4 * the_size l.p.now + 3

abbrev pub decreases-guard : goal.decreases-guard
decreases-guard l = 4 * the_size l.p.now + 3

abbrev pub decreases-replication : goal.decreases-replication
decreases-replication l = 4 * the_size l.p.now + 3

abbrev pub decreases-hiding : goal.decreases-hiding
decreases-hiding l = 4 * the_size l.p.now + 3

abbrev pub decreases-renaming : goal.decreases-renaming
decreases-renaming l = 4 * the_size l.p.now + 3

abbrev pub decreases-choice : goal.decreases-choice
decreases-choice l = 4 * max (the_size l.p.now) (the_size l.q.now) + 3

abbrev pub decreases-replace_two : goal.decreases-replace_two
decreases-replace_two l = 4 * max (the_size l.p.now) (the_size l.q.now) + 2
