use Rattle.std.proofs.Common.{arith}
use Rattle.csp_parser.proofs.DeclarationSteps.{at_end, at_start, one_more, stops}
use Rattle.csp_parser.proofs.declarations.declarations.Goals as goal

pub loop-rest-init : goal.loop-rest-init
loop-rest-init c = at_start _ c.args.tokens.now _ c.new-decls.ensures

pub returns-in-Err : goal.returns-in-Err
returns-in-Err c = record { reads = stops _ _ c.in-Err.fault c.loop-rest.rest.now c.loop-rest-test.ensures c.loop-rest.invariant c.in-Err.ensures.reads (omega arith) }

pub loop-rest-preserved : goal.loop-rest-preserved
loop-rest-preserved c =
    one_more c.loop-rest.rest.now c.loop-rest-test.ensures c.loop-rest.invariant c.in_ok-push.ensures.ok c.in-Ok.ensures.reads (omega arith) (omega (arith, c.in-Ok.ensures.shorter))

pub returns : goal.returns
returns c = record { reads = at_end c.loop-rest.rest.now c.loop-rest-test.ensures (omega arith) c.loop-rest.invariant }
