use Rattle.event_tables.proofs.Prelude.{◌≡◌, ◌++◌, ◌∷◌, [], map, take, Atom}
use Rattle.event_tables.proofs.rows.add_copies.Given as goal

abbrev pub invariant-loop-atom : goal.invariant-loop-atom
invariant-loop-atom l = l.made.items ≡ l.initial.made.items ++ map (λ (a : Atom). l.row ++ a ∷ []) (take l.atom-index l.set)
