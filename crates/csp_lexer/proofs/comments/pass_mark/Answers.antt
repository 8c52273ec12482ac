use Rattle.csp_lexer.proofs.Prelude.{sym, take_rest}
use Rattle.csp_lexer.proofs.CommentsLemmas.{comment_opens, comment_closes, comment_goes_on}
use Rattle.csp_lexer.proofs.comments.pass_mark.Goals as goal

pub returns-then-starts_with-clause-value : goal.returns-then-starts_with-clause-value
returns-then-starts_with-clause-value c = rw take_rest (comment_opens c.args.nested c.args.text.now c.requires.long c.requires.positive (sym c.if-starts_with.ensures.value))

pub returns-then-starts_with-2-clause-value : goal.returns-then-starts_with-2-clause-value
returns-then-starts_with-2-clause-value c = rw take_rest (comment_closes c.args.nested c.args.text.now c.requires.long c.requires.positive (sym c.if-starts_with.ensures.value) (sym c.if-starts_with-2.ensures.value))

pub returns-clause-value : goal.returns-clause-value
returns-clause-value c = rw take_rest (comment_goes_on c.args.nested c.args.text.now c.requires.long c.requires.positive (sym c.if-starts_with.ensures.value) (sym c.if-starts_with-2.ensures.value))
