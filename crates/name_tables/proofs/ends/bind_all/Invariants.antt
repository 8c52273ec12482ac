use Rattle.name_tables.proofs.Prelude.{◌≡◌, ◌++◌, drop, parameters}
use Rattle.name_tables.proofs.ends.bind_all.Given as goal

abbrev pub invariant-loop-x : goal.invariant-loop-x
invariant-loop-x l = record {
  scope : l.scope ++ parameters l.n (drop l.x-index l.xs) ≡ l.initial.scope ++ parameters 0 l.xs;
  place : l.n ≡ l.x-index;
}
