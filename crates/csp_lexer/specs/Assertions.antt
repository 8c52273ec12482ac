-- Assertions. The word `assert` takes the rest of its line, up to a line feed, a comment or the end of the text. Where that rest is
-- blanks and tokens which say that a process is free of deadlock, they are tokens of the script; any other assertion is skipped.
use Rattle.std.specs.Prelude.{◌≡◌, ℕ, zero, suc, ◌+◌, Bool, ◌||◌, nat_eq, if◌then◌else◌, List, [], ◌∷◌, codes, Option, Some, None}
use Rattle.csp_base.specs.Standard.{starts_with}
use Rattle.csp_text.specs.declared.token.Symbol.TheVariants.{Colon, OpenParen, CloseParen, OpenBracket, CloseBracket}
use Rattle.csp_text.specs.declared.token.Token.{Token}
use Rattle.csp_text.specs.declared.token.Token.TheVariants.{Name, Symbol}
use Rattle.csp_grammar.specs.Declarations.{ModelText}

-- the rest of an assertion's line ends here
abbrev pub ends_line : List ℕ → Bool
ends_line text = starts_with nat_eq text (10 ∷ []) || starts_with nat_eq text (codes "--") || starts_with nat_eq text (codes "{-")

-- how many bytes the rest of an assertion's line has
unfoldable pub rest_len : List ℕ → ℕ
rest_len [] = 0
rest_len (b ∷ text) = if ends_line (b ∷ text) then 0 else 1 + rest_len text

-- what follows once so many open parentheses are closed
unfoldable pub after_closing : ℕ → List Token → Option (List Token)
after_closing zero tokens = Some tokens
after_closing (suc n) [] = None
after_closing (suc n) (Symbol OpenParen ∷ tokens) = after_closing (suc (suc n)) tokens
after_closing (suc n) (Symbol CloseParen ∷ tokens) = after_closing n tokens
after_closing (suc n) (_ ∷ tokens) = after_closing (suc n) tokens

-- `: [ deadlock free ]`, with a model or without
pub data FreeText : List Token → Type 0 where
  free : {ts : List Token} → ModelText ts (Symbol CloseBracket ∷ []) → FreeText (Symbol Colon ∷ Symbol OpenBracket ∷ Name (codes "deadlock") ∷ Name (codes "free") ∷ ts)

-- a name, which may have arguments in parentheses, is asserted to be free of deadlock
pub data Asserts : List Token → Type 0 where
  name : {x : List ℕ} {ts : List Token} → FreeText ts → Asserts (Name x ∷ ts)
  call : {x : List ℕ} {ts us : List Token} → after_closing 1 ts ≡ Some us → FreeText us → Asserts (Name x ∷ Symbol OpenParen ∷ ts)
