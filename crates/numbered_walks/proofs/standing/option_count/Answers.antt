use Rattle.numbered_walks.proofs.Prelude.{◌≡◌, ap, ◌∙◌, arith, mark_count}
use Rattle.numbered_walks.proofs.Optioning.{option_count}
use Rattle.numbered_walks.proofs.standing.option_count.Goals as goal

pub overflow_add-result : goal.overflow_add-result
overflow_add-result c = let left = c.count.ensures.few in let right = c.count-2.ensures.few in omega (arith, left, right)

pub returns : goal.returns
returns c =
    let left = c.count.ensures.count in
    let right : c.count-2.result ≡ mark_count c.args.standing.now.agreement.agreed = c.count-2.ensures.count ∙ ap mark_count c.agreed_events.ensures in
    let all = option_count c.args.standing.now.restless c.args.standing.now.agreement.agreed in
    omega (arith, left, right, all)
