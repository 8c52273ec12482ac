use Rattle.observed_runs.proofs.Prelude.{◌<◌, ℕ, List, length, sym, subst, arith, get_or_read, AreEnoughSoFar}
use Rattle.observed_runs.proofs.Keeping.{none_kept, one_kept, all_kept}
use Rattle.observed_runs.proofs.steps.enough.Goals as goal

pub loop-step-init : goal.loop-step-init
loop-step-init c = subst (λ (zs : List (ℕ × ℕ)). AreEnoughSoFar c.args.events.now c.args.mark c.args.next.now 0 zs c.args.marks.now) (sym c.new-some.ensures) (none_kept c.args.events.now c.args.mark c.args.next.now c.args.marks.now c.requires.unmarked)

pub loop-step-preserved : goal.loop-step-preserved
loop-step-preserved c =
    let next = c.args.next.now in
    let n = c.loop-step.step-index in
    let x = c.step-item.result in
    let at = get_or_read next n x c.loop-step-test.true c.step-item.is (0, 0) in
    let node : x.1 < length c.args.marks.now = subst (λ (p : ℕ × ℕ). p.1 < length c.args.marks.now) (sym at) (c.requires.nodes n c.loop-step-test.true) in
    one_kept c.args.events.now c.args.mark next n c.loop-step.some c.loop-step.marks c.loop-step.invariant x c.loop-step-test.true at c.keep.new.some c.keep.new.marks (omega (arith, c.loop-step.auto.marks)) c.in_ok-keep.ensures.kept

pub returns-clause-enough : goal.returns-clause-enough
returns-clause-enough c = all_kept c.args.events.now c.args.mark c.args.next.now c.loop-step.step-index c.loop-step.some c.loop-step.marks c.loop-step-test.false c.loop-step.invariant
