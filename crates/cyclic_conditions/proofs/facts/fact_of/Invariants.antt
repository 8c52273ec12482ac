use Rattle.cyclic_conditions.proofs.Prelude.{ℕ, ◌<◌, HasFirst}
use Rattle.cyclic_conditions.proofs.facts.fact_of.Given as goal

abbrev pub invariant-loop-first : goal.invariant-loop-first
invariant-loop-first l = (r : ℕ) → r < l.first-index → HasFirst l.firsts r l.link → ⊥
