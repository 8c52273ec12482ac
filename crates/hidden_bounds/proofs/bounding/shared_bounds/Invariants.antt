use Rattle.hidden_bounds.proofs.Prelude.{◌≡◌, take, shared_bounds, alphabet_at, taken_in}
use Rattle.hidden_bounds.proofs.bounding.shared_bounds.Given as goal

abbrev pub invariant-loop-place : goal.invariant-loop-place
invariant-loop-place l = l.total ≡ shared_bounds l.scope.hidden.now (alphabet_at l.scope.seats.now l.part) (taken_in l.scope.seats.now (take l.place l.order))
