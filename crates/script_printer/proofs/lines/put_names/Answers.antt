use Rattle.script_printer.proofs.Prelude.{[], ◌∷◌, List, ℕ, arith, Token, names_tokens}
use Rattle.csp_text.specs.declared.token.Token.TheVariants as token
use Rattle.script_printer.proofs.Written.{separated_step, separated_end}
use Rattle.script_printer.proofs.lines.put_names.Goals as goal

abbrev one_name : List ℕ → List Token
one_name name = token.Name name ∷ []

pub loop-place-preserved : goal.loop-place-preserved
loop-place-preserved c =
    separated_step one_name (token.Symbol c.args.sign) c.args.names.now c.loop-place.place c.index-names-place.result _ _ _ _
    c.loop-place-test.true c.index-names-place.is c.in_ok-put_between.ensures c.in_ok-put_name.ensures c.loop-place.invariant

pub returns : goal.returns
unfolding names_tokens
returns c =
    separated_end one_name (token.Symbol c.args.sign) c.args.names.now c.loop-place.place _ _ (omega arith) c.loop-place.invariant
