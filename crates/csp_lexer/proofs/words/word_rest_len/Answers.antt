use Rattle.csp_lexer.proofs.Prelude.{refl, take_rest, word_rest_len}
use Rattle.csp_lexer.proofs.words.word_rest_len.Goals as goal

pub returns-clause-value : goal.returns-clause-value
unfolding word_rest_len
returns-clause-value c = rw (c.bytes_of.ensures.value, c.bytes_of-names.ensures.value, take_rest) refl
