use Rattle.csp_steps.proofs.Prelude.{with_first, tree_at, labels_by}
use Rattle.csp_steps.proofs.Noting.{noted_going}
use Rattle.csp_steps.proofs.Rounds.{add_many}
use Rattle.csp_steps.proofs.around.add_going.Goals as goal

pub returns-clause-steps : goal.returns-clause-steps
returns-clause-steps c =
    add_many c.args.pool.now c.put_with_first.new.self c.in_ok-to.ensures.front c.args.steps.now c.requires.within c.in_ok-to.to
    (with_first (tree_at c.args.pool.now c.args.round.now.id) (tree_at c.args.pool.now c.args.step.to)) (labels_by c.args.round.now.operator.now c.args.step.label) c.add_seen.new.steps
    c.in_ok-to.ensures.process c.in_ok-add_seen.ensures

pub returns-clause-noted : goal.returns-clause-noted
returns-clause-noted c =
    λ p operators is h. noted_going p c.args.pool.now c.put_with_first.new.self operators c.args.round.now c.args.places.now c.keep.new.numbers c.in_ok-to.to (tree_at c.args.pool.now c.args.step.to)
    c.in_ok-to.ensures.front is c.in_ok-to.ensures.process c.in_ok-keep.ensures.ok h
