use Rattle.hidden_bounds.proofs.Prelude.{sym, subst, OwnArc}
use Rattle.hidden_bounds.proofs.OwnTrails.{found_round, one_more_linked}
use Rattle.hidden_bounds.proofs.own_search.OwnSearch.take.Goals as goal

pub returns-in_ok-enter-in-Open-clause-trail : goal.returns-in_ok-enter-in-Open-clause-trail
returns-in_ok-enter-in-Open-clause-trail c =
    let Arc = OwnArc c.args.graph.now.table.now c.args.graph.now.events.now in
    one_more_linked Arc c.args.trail.now.items _ c.args.step.to c.in_ok-enter-in-Open.ensures (λ k end. subst (λ x. Arc x c.args.step.to) (sym (c.requires.last k end)) (c.requires.own c.if-not-step.false)) c.requires.trail

pub returns-in-Passed-clause-round : goal.returns-in-Passed-clause-round
returns-in-Passed-clause-round c =
    let Arc = OwnArc c.args.graph.now.table.now c.args.graph.now.events.now in
    found_round Arc c.args.trail.now.items _ c.args.step.to _ c.as_slice.ensures.value c.contains.ensures.cases (λ k end. subst (λ x. Arc x c.args.step.to) (sym (c.requires.last k end)) (c.requires.own c.if-not-step.false)) c.requires.trail
