use Rattle.csp_steps.proofs.Prelude.{◌++◌, List, map, sym, subst, Move, Label, tree_at, AreMoves, effect_as, last_by, moves_of, seen}
use Rattle.csp_steps.proofs.Alike.{on_ok_of}
use Rattle.csp_steps.proofs.Effects.{goes_on}
use Rattle.csp_steps.proofs.Noting.{noted_stay}
use Rattle.csp_steps.proofs.Rounds.{add_one}
use Rattle.csp_steps.proofs.around.add_made.Goals as goal

pub returns-in_ok-push-in-Tick-clause-steps : goal.returns-in_ok-push-in-Tick-clause-steps
returns-in_ok-push-in-Tick-clause-steps c =
    subst (λ (l : Label). AreMoves c.last_step.new.pool c.push.new.self (map (seen c.args.pool.now) c.args.steps.now ++
    moves_of (effect_as c.args.pool.now c.args.round.now.operator.now) (tree_at c.args.pool.now c.args.round.now.id) l (tree_at c.args.pool.now c.args.step.to))) (sym c.in-Tick.is)
    (add_one c.args.pool.now c.last_step.new.pool c.in_ok-last-in-Tick.ensures.front c.args.steps.now c.requires.within c.in_ok-last-in-Tick.last (last_by c.args.pool.now c.args.round.now.operator.now)
    c.push.new.self c.in_ok-last-in-Tick.ensures.move_ c.in_ok-push-in-Tick.ensures.ok)

pub returns-in_ok-push-in-Tick-clause-noted : goal.returns-in_ok-push-in-Tick-clause-noted
returns-in_ok-push-in-Tick-clause-noted c = λ p operators is h. noted_stay p c.args.pool.now c.last_step.new.pool c.in_ok-last-in-Tick.ensures.front operators c.args.places.now h

pub returns-in_ok-add_going-in_default-clause-steps : goal.returns-in_ok-add_going-in_default-clause-steps
returns-in_ok-add_going-in_default-clause-steps c =
    subst (λ (ms : List Move). AreMoves c.add_going.new.pool c.add_going.new.steps (map (seen c.args.pool.now) c.args.steps.now ++ ms))
    (sym (goes_on (effect_as c.args.pool.now c.args.round.now.operator.now) (tree_at c.args.pool.now c.args.round.now.id) c.args.step.label (tree_at c.args.pool.now c.args.step.to) c.in_default.not-Tick))
    c.in_ok-add_going-in_default.ensures.steps

pub returns-in_ok-add_going-in_default-clause-noted : goal.returns-in_ok-add_going-in_default-clause-noted
returns-in_ok-add_going-in_default-clause-noted c =
    λ p operators is h. on_ok_of c.add_going.result c.in_ok-add_going-in_default.field-0 _ c.in_ok-add_going-in_default.was (c.add_going.ensures.noted p operators is h)
