use Rattle.conformance.proofs.Prelude.{length, AllAccept}
use Rattle.conformance.proofs.conforming.refusing_place.Given as goal

abbrev pub invariant-loop-place : goal.invariant-loop-place
invariant-loop-place l = record {
  accept : AllAccept l.part.table l.specified.table l.pairs l.place;
  known : AllAccept l.part.table l.specified.table l.accepted (length l.accepted);
}
