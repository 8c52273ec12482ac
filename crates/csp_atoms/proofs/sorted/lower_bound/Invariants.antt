use Rattle.csp_atoms.proofs.Prelude.{◌-◌, ◌≤◌, length, count_before}
use Rattle.csp_atoms.proofs.sorted.lower_bound.Given as goal

abbrev pub invariant-loop-low : goal.invariant-loop-low
invariant-loop-low l = record {
  low_enough : l.low ≤ count_before l.atoms l.atom;
  high_enough : count_before l.atoms l.atom ≤ l.high;
  within : l.high ≤ length l.atoms;
}

abbrev pub decreases-loop-low : goal.decreases-loop-low
decreases-loop-low l = l.high - l.low
