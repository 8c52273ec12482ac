use Rattle.event_tables.proofs.Prelude.{◌≡◌, ◌++◌, drop, lent, spread}
use Rattle.event_tables.proofs.sets.spread_sets.Given as goal

abbrev pub invariant-loop-one : goal.invariant-loop-one
invariant-loop-one l = lent l.all.items ++ spread (drop l.one-index l.shared) ≡ spread l.shared
