use Rattle.std.proofs.Common.{◌≡◌, take}
use Rattle.csp_program.proofs.copies.copy_pairs.Given as goal

-- those so far are copied
abbrev pub invariant-loop-pair : goal.invariant-loop-pair
invariant-loop-pair l = l.copies ≡ take l.pair-index l.pairs
