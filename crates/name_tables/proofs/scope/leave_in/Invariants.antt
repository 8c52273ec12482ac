use Rattle.name_tables.proofs.Prelude.{◌≡◌, ◌≤◌, [], length, map, take, shown, KeepHidden, HasNumbers}
use Rattle.name_tables.proofs.scope.leave_in.Given as goal

abbrev pub invariant-loop-bindings : goal.invariant-loop-bindings
invariant-loop-bindings l = record {
  kept : KeepHidden [] l.bindings.items;
  numbers : HasNumbers l.last (map shown l.bindings.items);
  enough : l.count ≤ length l.bindings.items;
  within : length l.bindings.items ≤ length l.initial.bindings.items;
  is : l.bindings.items ≡ take (length l.bindings.items) l.initial.bindings.items;
}

abbrev pub decreases-loop-bindings : goal.decreases-loop-bindings
decreases-loop-bindings l = length l.bindings.items
