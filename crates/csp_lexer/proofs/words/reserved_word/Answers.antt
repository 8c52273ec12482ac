use Rattle.csp_lexer.proofs.Prelude.{◌∙◌, rules, tests, YieldsList-from_slice, find_from_yields_List, bytes_eq, word_text, reserved_word}
use Rattle.csp_lexer.proofs.words.reserved_word.Goals as goal

pub returns : goal.returns
unfolding reserved_word
returns c = c.copied.ensures ∙ find_from_yields_List (λ word. bytes_eq c.args.bytes.now (word_text word)) _ _ _ c.find.ensures.ran (YieldsList-from_slice _ c.iter.ensures.rest) (λ x b q k. search (rules, tests))
