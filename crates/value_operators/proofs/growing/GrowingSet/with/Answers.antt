use Rattle.std.proofs.Common.{sym, ◌∙◌}
use Rattle.value_operators.proofs.GrowingLaws.{refused_settled, refused_waiting, taken}
use Rattle.value_operators.proofs.growing.GrowingSet.with.Goals as goal

pub returns-then-not-can_take : goal.returns-then-not-can_take
returns-then-not-can_take c = refused_settled _ _ _ c.self.view_is c.args.one c.self.invariant (sym c.can_take.ensures ∙ c.if-not-can_take.true)

pub returns-then-not-can_take-2 : goal.returns-then-not-can_take-2
returns-then-not-can_take-2 c = refused_waiting _ _ _ c.self.view_is c.args.one c.self.invariant (sym c.can_take-2.ensures ∙ c.if-not-can_take-2.true)

pub returns : goal.returns
returns c =
    taken _ _ _ c.self.view_is c.args.one _ _ c.self.invariant (sym c.can_take.ensures ∙ c.if-not-can_take.false) (sym c.can_take-2.ensures ∙ c.if-not-can_take-2.false) c.in_ok-put.ensures c.limit.ensures
