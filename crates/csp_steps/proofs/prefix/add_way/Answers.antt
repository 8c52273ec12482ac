use Rattle.csp_steps.proofs.Prelude.{Some, [], ap, ◌∙◌, given_by, proc_with, Visible, tree_at, with_bound, way_move, StepTo}
use Rattle.csp_steps.proofs.Choosing.{as_move}
use Rattle.csp_steps.proofs.Rounds.{add_one}
use Rattle.csp_steps.proofs.prefix.add_way.Goals as goal

pub returns-clause-steps : goal.returns-clause-steps
returns-clause-steps c =
    let made : StepTo = record { label = Visible c.event_at.result; to = c.in_ok-to.to } in
    let move = way_move c.args.filling.now.start.now.first (tree_at c.args.pool.now c.args.filling.now.to) (with_bound c.args.bound.now [], c.args.number) in
    add_one c.args.pool.now c.put_all_in.new.self c.in_ok-to.ensures.front c.args.steps.now c.requires.within made move c.push.new.self
    (as_move c.put_all_in.new.self made move (ap (λ e. Visible e) c.event_at.ensures) (c.in_ok-to.ensures.process ∙ ap (λ env. Some (proc_with (given_by env) (tree_at c.args.pool.now c.args.filling.now.to))) c.from_bound-values.ensures))
    c.in_ok-push.ensures.ok
