use Rattle.step_values.proofs.Prelude.{[], ap, ◌∙◌, begun_under, binding_less, gathering_fault, gathering_next, over_end, over_fault, binding_renamed, with_bound, gathering_of}
use Rattle.step_values.proofs.Walking.{binding_passed, walk_begun, walk_passed}
use Rattle.step_values.proofs.renaming.gather_all.Goals as goal

pub bindings-init : goal.bindings-init
bindings-init c = record {
  same = walk_begun c.args.scope.now.program.now c.args.scope.now.pairs.now c.args.gens.now c.in_ok-walk.walk (gathering_of c.args.tally) c.in_ok-walk.ensures;
  under = begun_under [] c.in_ok-walk.walk c.in_ok-walk.ensures;
}

pub returns-in_err-binding_under : goal.returns-in_err-binding_under
returns-in_err-binding_under c =
    binding_passed _ _ _ _ c.from_residual-in_err-binding_under.ensures.1 c.in_err-binding_under.ensures
    (λ k e. c.bindings.invariant.same ∙ over_fault (binding_renamed c.args.scope.now.program.now c.args.scope.now.pairs.now) _ (gathering_of c.bindings.tally) k e)

pub returns-in_err-tally : goal.returns-in_err-tally
returns-in_err-tally c =
    let found = rw c.if-branch.true at c.in_ok-binding_under.ensures in
    walk_passed _ _ _ _ c.from_residual-in_err-tally.ensures.1 c.in_err-tally.ensures
    (λ k e. gathering_fault (binding_renamed c.args.scope.now.program.now c.args.scope.now.pairs.now) _ _ _ _ _ (gathering_of c.bindings.tally) k c.bindings.invariant.same found.0 (ap (λ bs. with_bound bs []) c.bound_names.ensures) e)

pub bindings-smaller : goal.bindings-smaller
bindings-smaller c = let found = rw c.if-branch.true at c.in_ok-binding_under.ensures in binding_less _ _ _ found.0

pub bindings-preserved : goal.bindings-preserved
bindings-preserved c =
    let found = rw c.if-branch.true at c.in_ok-binding_under.ensures in
    record {
      same = gathering_next (binding_renamed c.args.scope.now.program.now c.args.scope.now.pairs.now) _ _ _ _ _ (gathering_of c.bindings.tally) (gathering_of c.in_ok-tally.tally) c.bindings.invariant.same found.0
          (ap (λ bs. with_bound bs []) c.bound_names.ensures) c.in_ok-tally.ensures;
      under = found.1;
    }

pub returns : goal.returns
returns c =
    let ended = rw c.if-branch.false at c.in_ok-binding_under.ensures in
    c.bindings.invariant.same ∙ over_end (binding_renamed c.args.scope.now.program.now c.args.scope.now.pairs.now) _ (gathering_of c.bindings.tally) ended
