use Rattle.script_printer.proofs.Prelude.{◌≡◌, ◌++◌, [], ◌∷◌, spaced, separated}
use Rattle.csp_text.specs.declared.token.Token.TheVariants as token
use Rattle.script_printer.proofs.Written.{left_separated}
use Rattle.script_printer.proofs.lines.put_names.Given as goal

-- what is written and what is left are all names
abbrev pub invariant-loop-place : goal.invariant-loop-place
invariant-loop-place l =
    l.text ++ spaced (left_separated (λ name. token.Name name ∷ []) (token.Symbol l.sign) l.place l.names)
    ≡ l.fn.text ++ spaced (separated (λ name. token.Name name ∷ []) (token.Symbol l.sign) l.names)
