use Rattle.client_server_conditions.proofs.Prelude.{ℕ, List, ap, subst, has, TakesAnswers}
use Rattle.client_server_conditions.proofs.OpenLinks.{one_fewer}
use Rattle.client_server_conditions.proofs.duty.Duty.takes_answers.Goals as goal

pub loop-link-preserved : goal.loop-link-preserved
loop-link-preserved c =
    let taken = TakesAnswers c.args.self.now c.args.node in
    one_fewer taken c.args.opened.now c.loop-link.link-iterator c.next.new.self c.in-Some.link c.in-Some.ensures.steps (subst taken c.link.view_is (c.in_ok-takes_answers_on.ensures c.if-not-branch.false)) c.loop-link.invariant

pub returns : goal.returns
returns c _ l h opened asks = c.loop-link.invariant l (ap (λ (xs : List ℕ). has xs l) c.in-None.ensures.steps.0) opened
