use Rattle.equal_futures.proofs.Numbered.{IsNumbered}
use Rattle.normal_form.proofs.Marking.{same_sets, accept_at}
use Rattle.normal_form.proofs.marks.accept_marks.Given as goal

abbrev pub invariant-loop-node : goal.invariant-loop-node
invariant-loop-node l = IsNumbered same_sets (accept_at l.nodes) l.node-index l.numbering l.marks.items
