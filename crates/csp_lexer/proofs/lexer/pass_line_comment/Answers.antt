use Rattle.csp_lexer.proofs.Prelude.{◌<◌, length, drop, arith, length-drop, take_rest, line_len}
use Rattle.csp_lexer.proofs.CommentsLemmas.{left_is_shorter, line_has_byte}
use Rattle.csp_lexer.proofs.lexer.pass_line_comment.Goals as goal

-- the comment has a byte
pub returns-clause-shorter : goal.returns-clause-shorter
returns-clause-shorter c =
    let len = c.line_len-len.ensures in
    let has_byte : 0 < line_len c.args.text.now = line_has_byte c.args.text.now c.requires in
    let shorter : length (drop c.line_len-len.result c.args.text.now) < length c.args.text.now = omega (arith, length-drop c.line_len-len.result c.args.text.now) in
    left_is_shorter _ _ _ c.in_ok-left.ensures.same (rw take_rest shorter)
