use Rattle.std.proofs.Common.{◌∙◌}
use Rattle.substitution.proofs.NamesFound.{bound_here, bound_before}
use Rattle.substitution.proofs.lookup.bound_last.Goals as goal

pub returns-then-last-name : goal.returns-then-last-name
returns-then-last-name c = λ env. c.loop-last.invariant env ∙ bound_here _ c.in-Some.front.now c.in-Some.last.now env _ c.in-Some.ensures.cases.0 c.if-last-name.true

pub loop-last-preserved : goal.loop-last-preserved
loop-last-preserved c = λ env. c.loop-last.invariant env ∙ bound_before _ c.in-Some.front.now c.in-Some.last.now env _ c.in-Some.ensures.cases.0 c.if-last-name.false
