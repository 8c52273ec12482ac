use Rattle.std.proofs.Common.{nat_eq, get_or}
use Rattle.equal_futures.proofs.Numbered.{IsNumbered}
use Rattle.equal_futures.proofs.classes.renumber.Given as goal

abbrev pub invariant-loop-block : goal.invariant-loop-block
invariant-loop-block l = IsNumbered nat_eq (λ k. get_or l.blocks k 0) l.block-index l.numbering l.numbers.items
