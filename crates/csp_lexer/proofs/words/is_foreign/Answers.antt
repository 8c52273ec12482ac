use Rattle.csp_lexer.proofs.Prelude.{rules, tests, YieldsList-from_slice, any_from_yields_List, bytes_eq, is_foreign}
use Rattle.csp_lexer.proofs.words.is_foreign.Goals as goal

pub returns : goal.returns
unfolding is_foreign
returns c = any_from_yields_List (λ foreign. bytes_eq c.args.word.now foreign.now) _ _ _ c.any.ensures.ran (YieldsList-from_slice _ c.iter.ensures.rest) (λ x b q k. search (rules, tests))
