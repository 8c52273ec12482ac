use Rattle.std.proofs.Common.{sym, ◌∙◌, arith}
use Rattle.csp_lexer.proofs.FormsLemmas.{none_closes, all_closed}
use Rattle.csp_lexer.proofs.forms.after_closing.Goals as goal

-- no token is left
pub returns-in_default : goal.returns-in_default
returns-in_default c = sym (none_closes c.loop-nested.nested c.loop-nested.rest.now (omega arith) (rw c.in_default.is at c.split_first.ensures.cases)) ∙ c.loop-nested.invariant.0

-- no parenthesis is open
pub returns : goal.returns
returns c = all_closed c.loop-nested.nested _ _ (omega arith) c.loop-nested.invariant.0
