use Rattle.std.proofs.Common.{sym}
use Rattle.csp_steps.proofs.Noting.{operator_known, operator_new}
use Rattle.csp_steps.proofs.evaluated.operator_number.Goals as goal

pub returns-in-Some : goal.returns-in-Some
returns-in-Some c = operator_known c.args.program.now c.args.pool.now c.args.evaluated.now c.args.id c.in-Some.number c.requires.fits (sym c.in-Some.ensures)

pub returns : goal.returns
returns c =
    operator_new c.args.program.now c.args.pool.now c.args.evaluated.now c.args.id c.in-Ok.number c.in_ok-operator.operator c.put_value.new.values c.put_value.new.numbers c.requires.fits c.requires.within
    c.in_ok-operator.ensures c.in-Ok.ensures.number c.in-Ok.ensures.values c.in-Ok.ensures.numbers
