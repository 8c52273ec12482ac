use Rattle.csp_lexer.proofs.WordsLemmas.{short_not_foreign, short_not_reserved}
use Rattle.csp_lexer.proofs.words.is_plain.Goals as goal

pub returns-in_default-clause-reserved : goal.returns-in_default-clause-reserved
returns-in_default-clause-reserved c is = short_not_reserved c.args.word.now c.in_default.len_below

pub returns-in_default-clause-foreign : goal.returns-in_default-clause-foreign
returns-in_default-clause-foreign c is = short_not_foreign c.args.word.now c.in_default.len_below
