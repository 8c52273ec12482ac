use Rattle.std.proofs.Common.{sym, ◌∙◌, arith}
use Rattle.csp_lexer.proofs.CommentsLemmas.{comment_is_open, comments_closed}
use Rattle.csp_lexer.proofs.comments.after_comment.Goals as goal

-- no mark fits any more
pub returns-then-rest-lt2-clause-value : goal.returns-then-rest-lt2-clause-value
returns-then-rest-lt2-clause-value c = sym (comment_is_open c.loop-nested.nested c.loop-nested.rest.now (omega arith) (omega arith)) ∙ c.loop-nested.invariant.0

-- no comment is open
pub returns-clause-value : goal.returns-clause-value
returns-clause-value c = comments_closed c.loop-nested.nested _ _ (omega arith) c.loop-nested.invariant.0
