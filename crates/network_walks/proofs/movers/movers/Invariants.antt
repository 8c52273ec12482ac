use Rattle.network_walks.proofs.Prelude.{◌≡◌, ◌++◌, drop, numbered}
use Rattle.network_walks.proofs.movers.movers.Given as goal

abbrev pub invariant-loop-place : goal.invariant-loop-place
invariant-loop-place l = l.made.items ++ numbered (drop l.place l.seats) (drop l.place l.tables) ≡ numbered l.seats l.tables
