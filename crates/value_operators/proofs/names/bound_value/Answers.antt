use Rattle.std.proofs.Common.{◌∙◌}
use Rattle.value_operators.proofs.NameLaws.{named_here, named_past}
use Rattle.value_operators.proofs.names.bound_value.Goals as goal

pub returns-then-last-slot : goal.returns-then-last-slot
returns-then-last-slot c = c.loop-last.invariant ∙ named_here _ c.in-Some.front.now c.in-Some.last.now _ _ c.in-Some.ensures.cases.0 c.if-last-slot.true

pub loop-last-preserved : goal.loop-last-preserved
loop-last-preserved c = c.loop-last.invariant ∙ named_past _ c.in-Some.front.now c.in-Some.last.now _ _ c.in-Some.ensures.cases.0 c.if-last-slot.false
