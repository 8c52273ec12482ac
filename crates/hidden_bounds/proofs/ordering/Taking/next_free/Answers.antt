use Rattle.std.proofs.Common.{arith}
use Rattle.hidden_bounds.proofs.Known.{same_known, then_known}
use Rattle.hidden_bounds.proofs.Steps.{known_next, least_here}
use Rattle.hidden_bounds.proofs.ordering.Taking.next_free.Goals as goal

pub loop-part-init : goal.loop-part-init
loop-part-init c = record { so_far = c.requires.so_far; stay = same_known _; known = λ j below. absurd (omega arith) }

pub returns-in-Some-clause-stay : goal.returns-in-Some-clause-stay
returns-in-Some-clause-stay c = then_known _ _ _ c.loop-part.invariant.stay c.in_ok-height.ensures.stay

pub returns-in-Some-clause-free : goal.returns-in-Some-clause-free
returns-in-Some-clause-free c =
    least_here _ _ _ _ _ _ _ _ c.loop-part-test.true c.loop-part.invariant.known c.in_ok-height.ensures.stay (rw c.in-Some.is at c.in_ok-height.ensures.free)

pub loop-part-preserved : goal.loop-part-preserved
loop-part-preserved c = record {
  so_far = c.in_ok-height.ensures.so_far;
  stay = then_known _ _ _ c.loop-part.invariant.stay c.in_ok-height.ensures.stay;
  known = known_next _ _ c.loop-part.part c.loop-part.invariant.known c.in_ok-height.ensures.stay (rw c.in-None.is at c.in_ok-height.ensures.known);
}

pub returns-clause-known : goal.returns-clause-known
returns-clause-known c = λ j below. c.loop-part.invariant.known j (let size = c.loop-part.invariant.so_far.one_each in omega arith)
