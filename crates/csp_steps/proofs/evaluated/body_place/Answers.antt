use Rattle.std.proofs.Common.{sym, ◌∙◌}
use Rattle.csp_steps.proofs.Noting.{bodies_put, body_at}
use Rattle.csp_steps.proofs.evaluated.body_place.Goals as goal

pub returns-in-Some-clause-process : goal.returns-in-Some-clause-process
returns-in-Some-clause-process c = λ p h is. body_at p c.args.pool.now c.args.number c.in-Some.place c.args.body.now (h c.args.number c.in-Some.place (sym c.find_number.ensures ∙ c.in-Some.is)) is

pub returns-clause-bodies : goal.returns-clause-bodies
returns-clause-bodies c =
    λ p h is. bodies_put p c.args.pool.now c.put.new.self c.in_ok-id.ensures.front c.args.bodies.now c.keep.new.numbers c.args.number c.in_ok-id.id.0 c.args.body.now h is c.in_ok-id.ensures.process c.in_ok-keep.ensures.ok
