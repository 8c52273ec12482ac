use Rattle.hidden_bounds.proofs.Prelude.{◌≡◌, length, AreBounds, sum_before}
use Rattle.hidden_bounds.proofs.bounding.add_up.Given as goal

abbrev pub invariant-loop-place : goal.invariant-loop-place
invariant-loop-place l = record {
  as_many : length l.bounds.items ≡ l.place;
  bounds : AreBounds l.scope.hidden.now l.scope.seats.now l.order l.bounds.items;
  total : l.total ≡ sum_before l.scope.hidden.now l.scope.seats.now l.order l.place;
}
