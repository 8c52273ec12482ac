use Rattle.csp_lexer.proofs.CutLemmas.{cut_tokens_are_found}
use Rattle.csp_lexer.proofs.lexer.cut_tokens_are_found.Goals as goal

pub returns : goal.returns
returns c = cut_tokens_are_found
