use Rattle.std.proofs.Common.{◌≡◌, [], length, replicate}
use Rattle.shape_links.proofs.odd_links.empty_sets.Given as goal

abbrev pub invariant-loop : goal.invariant-loop
invariant-loop l = record { count : length l.sets.items ≡ l.counter; empty : l.sets.items ≡ replicate l.counter [] }
