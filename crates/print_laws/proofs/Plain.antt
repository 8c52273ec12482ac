-- Tokens of a line that is no assertion and no annotation.
use Rattle.print_laws.proofs.Prelude.{◌≡◌, ◌≤◌, true, Token, IsName, is_common}
use Rattle.csp_text.specs.declared.token.Token.TheVariants as token

abbrev pub Plain : Token → Type 0
Plain (token.Name x) = IsName x
Plain (token.Num n) = n ≤ 1000000
Plain (token.Word w) = is_common w ≡ true
Plain (token.Symbol s) = Unit {0}
Plain (token.Roles names) = ⊥
Plain (token.Resource names) = ⊥
