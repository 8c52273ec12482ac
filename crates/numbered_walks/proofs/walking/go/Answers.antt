use Rattle.numbered_walks.proofs.Prelude.{◌≡◌, ◌+◌, ℕ, List, length, sym, ap, subst, ◌∙◌, length_push, MatchOption-at_some, Goes, Has, next_number, IsAtEnd, IsStep, number_after, Chooses, IsWalk, Move}
use Rattle.numbered_walks.proofs.Longer.{number_push, one_more_step}
use Rattle.numbered_walks.proofs.walking.go.Goals as goal

pub loop-preserved : goal.loop-preserved
loop-preserved c =
    let number : c.next_number-number.result ≡ next_number (number_after c.args.seed c.loop.moves.items) = c.next_number-number.ensures ∙ ap next_number c.loop.invariant.number in
    let step = MatchOption-at_some (IsAtEnd c.args.movers.now c.loop.standing c.step.new.standing) (IsStep c.args.movers.now c.next_number-number.result c.loop.standing c.step.new.standing) c.in-Some.option c.in-Some.is c.in_ok-option.ensures.steps in
    let longer =
    one_more_step (Has c.args.movers.now) (Goes c.args.movers.now) c.args.seed c.args.standing.now.drawn c.args.standing.now.terms.items c.loop.standing.terms.items c.step.new.standing.terms.items
    c.loop.standing.drawn c.step.new.standing.drawn c.loop.moves.items c.in-Some.option c.loop.invariant.walk
    (subst (λ (n : ℕ). Chooses (Has c.args.movers.now c.loop.standing.terms.items) n c.in-Some.option) number step.chosen) step.goes in
    record {
      form = c.in_ok-option.ensures.form;
      walk =
          subst (λ (ms : List Move). IsWalk (Has c.args.movers.now) (Goes c.args.movers.now) c.args.seed c.args.standing.now.drawn c.args.standing.now.terms.items ms c.step.new.standing.terms.items c.step.new.standing.drawn)
          (sym c.in_ok-push.ensures.items) longer;
      count = ap length c.in_ok-push.ensures.items ∙ length_push c.loop.moves.items c.in-Some.option ∙ ap (λ n. n + 1) c.loop.invariant.count;
      number = number ∙ sym (ap (number_after c.args.seed) c.in_ok-push.ensures.items ∙ number_push c.args.seed c.loop.moves.items c.in-Some.option);
    }
