use Rattle.step_values.proofs.Prelude.{◌≡◌, [], IsUnder, course_under, over_course, size, binding_renamed, gathering_of, renamed_walk}
use Rattle.step_values.proofs.renaming.gather_all.Given as goal

-- the bindings that are left are still to be gathered
abbrev pub invariant-bindings : goal.invariant-bindings
invariant-bindings l = record {
  same : renamed_walk l.scope.program.now l.scope.pairs.now l.gens [] (gathering_of l.fn.tally) ≡ over_course (course_under l.scope.program.now l.gens l.walk) (binding_renamed l.scope.program.now l.scope.pairs.now) (gathering_of l.tally);
  under : IsUnder [] l.walk;
}

abbrev pub decreases-bindings : goal.decreases-bindings
decreases-bindings l = size (course_under l.scope.program.now l.gens l.walk)
