use Rattle.csp_lexer.proofs.Prelude.{◌≡◌, ◌+◌, ◌≤◌, length, after_closing}
use Rattle.csp_lexer.proofs.forms.after_closing.Given as goal

abbrev pub invariant-loop-nested : goal.invariant-loop-nested
invariant-loop-nested l = (after_closing l.nested l.rest ≡ after_closing 1 l.tokens) × (l.nested + length l.rest ≤ 1 + length l.tokens)

abbrev pub decreases-loop-nested : goal.decreases-loop-nested
decreases-loop-nested l = length l.rest
