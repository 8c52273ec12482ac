use Rattle.csp_lexer.proofs.Prelude.{◌≡◌, ◌+◌, ◌≤◌, length, after_comments}
use Rattle.csp_lexer.proofs.comments.after_comment.Given as goal

abbrev pub invariant-loop-nested : goal.invariant-loop-nested
invariant-loop-nested l = (after_comments l.nested l.rest ≡ after_comments 1 l.text) × (l.nested + length l.rest ≤ 1 + length l.text) × (length l.rest ≤ length l.text)

abbrev pub decreases-loop-nested : goal.decreases-loop-nested
decreases-loop-nested l = length l.rest
