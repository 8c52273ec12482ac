use Rattle.local_tables.proofs.Prelude.{◌-◌, ◌^◌, AreTermsOf, IsUpTo}
use Rattle.local_tables.proofs.exploring.explore.Given as goal

abbrev pub invariant-loop-at : goal.invariant-loop-at
invariant-loop-at l = record {
  terms : AreTermsOf l.task.program.now l.terms;
  up_to : IsUpTo l.task l.terms.pool l.found l.at;
}

abbrev pub decreases-loop-at : goal.decreases-loop-at
decreases-loop-at l = 2 ^ 32 - l.at
