use Rattle.cyclic_conditions.proofs.Prelude.{◌≡◌, ◌++◌, drop, links_in_order}
use Rattle.cyclic_conditions.proofs.facts.in_order.Given as goal

abbrev pub invariant-loop-first : goal.invariant-loop-first
invariant-loop-first l = l.links ++ links_in_order (drop l.first-index l.firsts) ≡ links_in_order l.firsts
