use Rattle.csp_parser.proofs.Prelude.{◌≤◌, ◌+◌, ◌*◌, length, SoFar}
use Rattle.csp_parser.proofs.names.names.Given as goal

abbrev pub invariant-loop-found : goal.invariant-loop-found
invariant-loop-found l = SoFar (8 * length l.tokens + 1) (λ L. L.names l.sign l.tokens) l.all (8 * length l.rest + 1) (λ L. L.names l.sign l.rest) × (length l.rest ≤ length l.tokens)

abbrev pub decreases-loop-found : goal.decreases-loop-found
decreases-loop-found l = length l.rest
