use Rattle.std.proofs.Common.{◌+◌, ◌*◌, length}
use Rattle.csp_parser.proofs.DeclarationSteps.{DeclarationsSoFar}
use Rattle.csp_parser.proofs.declarations.declarations.Given as goal

abbrev pub invariant-loop-rest : goal.invariant-loop-rest
invariant-loop-rest l = DeclarationsSoFar (8 * length l.tokens + 1) l.tokens l.decls (8 * length l.rest + 1) l.rest

abbrev pub decreases-loop-rest : goal.decreases-loop-rest
decreases-loop-rest l = length l.rest
