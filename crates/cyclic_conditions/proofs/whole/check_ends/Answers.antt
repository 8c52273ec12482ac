use Rattle.cyclic_conditions.proofs.Prelude.{◌≡◌, length, ap, arith, inl, inr, subst, cases_lt, Link, Shape, HasWholeEnd}
use Rattle.cyclic_conditions.proofs.whole.check_ends.Goals as goal

pub loop-link-preserved : goal.loop-link-preserved
loop-link-preserved c m h =
    elim (cases_lt m c.loop-link.link) as (λ _. HasWholeEnd c.args.sorted.now m) [
      | inl old ↦ c.loop-link.invariant m old
      | inr now ↦ subst (HasWholeEnd c.args.sorted.now) (let same : c.loop-link.link ≡ m = omega arith in same) c.in_ok-check_link.ensures.whole
    ]

pub returns-clause-whole : goal.returns-clause-whole
returns-clause-whole c m h = c.loop-link.invariant m (omega (arith, c.loop-link-test.false, ap (length {A = Link}) c.links-link-end.ensures.value, ap (λ (x : Shape). length x.links) c.shape.ensures.value))
