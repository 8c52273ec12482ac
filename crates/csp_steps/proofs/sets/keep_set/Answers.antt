use Rattle.std.proofs.Common.{refl}
use Rattle.csp_steps.proofs.SetLemmas.{is_new, is_old, set_added, set_there}
use Rattle.csp_steps.proofs.sets.keep_set.Goals as goal

pub returns-then-not-is_new : goal.returns-then-not-is_new
returns-then-not-is_new c =
    λ p h worth. set_there p c.args.sets.now _ c.in_ok-number.number c.args.expr.now c.in_ok-copy.copy h (is_old c.args.sets.now.exprs _ c.in_ok-copy.copy _ _ c.in_ok-number.ensures.list c.in_ok-number.ensures.new c.if-not-is_new.true) refl
    c.in_ok-copy.ensures c.in_ok-number.ensures.place

pub returns : goal.returns
returns c =
    λ p h worth. set_added p c.args.sets.now _ c.in_ok-number.number c.args.expr.now c.in_ok-copy.copy c.args.atoms h worth c.in_ok-copy.ensures
    (is_new c.args.sets.now.exprs _ c.in_ok-copy.copy _ _ c.in_ok-number.ensures.list c.in_ok-number.ensures.new c.if-not-is_new.false) c.in_ok-push.ensures.ok c.in_ok-number.ensures.place
