use Rattle.csp_lexer.proofs.Prelude.{◌≡◌, ◌≤◌, drop, continued}
use Rattle.csp_lexer.proofs.scan.number_token.Given as goal

abbrev pub invariant-loop-digit : goal.invariant-loop-digit
invariant-loop-digit l = (l.number ≤ 1000000) × (continued l.number (drop l.digit-index l.digits) ≡ continued 0 l.digits)
