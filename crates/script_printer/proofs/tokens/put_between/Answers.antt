use Rattle.csp_text.specs.declared.token.Token.TheVariants as token
use Rattle.script_printer.proofs.Written.{none_before}
use Rattle.script_printer.proofs.tokens.put_between.Goals as goal

pub returns-then-place-eq0 : goal.returns-then-place-eq0
returns-then-place-eq0 c = none_before c.args.text.now c.args.place (token.Symbol c.args.sign) c.if-place-eq0.true
