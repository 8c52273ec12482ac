use Rattle.csp_lexer.proofs.Prelude.{false, ap, ◌∙◌, is_deadlock_assertion, is_deadlock_free, option_map_or}
use Rattle.csp_lexer.proofs.forms.is_deadlock_assertion.Goals as goal

pub returns-in-Some : goal.returns-in-Some
unfolding is_deadlock_assertion
returns-in-Some c = c.is_deadlock_free.ensures ∙ ap (λ o. option_map_or is_deadlock_free o false) c.in-Some.ensures

pub returns-in-None : goal.returns-in-None
unfolding is_deadlock_assertion
returns-in-None c = ap (λ o. option_map_or is_deadlock_free o false) c.in-None.ensures
