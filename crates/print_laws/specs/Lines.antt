-- What the lexer knows of the order of tokens: behind the word of an assertion stands a name, and where a parenthesis opens behind that, it is closed, and
-- no symbol before that is made of two brackets.
use Rattle.std.specs.Prelude.{ℕ, zero, suc, Bool, false, not, if◌then◌else◌, List, [], ◌∷◌}
use Rattle.csp_text.specs.declared.token.Symbol.TheVariants.{OpenParen, CloseParen}
use Rattle.csp_text.specs.declared.token.Token.{Token}
use Rattle.csp_text.specs.declared.token.Token.TheVariants as token
use Rattle.print_laws.specs.Fits.{FitsLine, is_common}

-- where a token stands: in no assertion, behind its word, behind its name, or within its arguments, where so many more parentheses are open
pub data Position : Type 0 where
  outside : Position
  behind-word : Position
  behind-name : Position
  within : ℕ → Position

abbrev pub is_assert : Token → Bool
is_assert (token.Word w) = not (is_common w)
is_assert _ = false

-- behind a closed parenthesis
abbrev pub closed : ℕ → Position
closed zero = outside
closed (suc k) = within k

-- behind a token within arguments
abbrev pub behind : ℕ → Token → Position
behind k (token.Symbol OpenParen) = within (suc k)
behind k (token.Symbol CloseParen) = closed k
behind k _ = within k

-- The tokens from this position on. They do not end within an assertion.
unfoldable pub Lines : Position → List Token → Type 0
Lines outside [] = Unit {0}
Lines outside (t ∷ ts) = Lines (if is_assert t then behind-word else outside) ts
Lines behind-word (token.Name x ∷ ts) = Lines behind-name ts
Lines behind-word _ = ⊥
Lines behind-name [] = ⊥
Lines behind-name (token.Symbol OpenParen ∷ ts) = Lines (within 0) ts
Lines behind-name (_ ∷ ts) = Lines outside ts
Lines (within k) [] = ⊥
Lines (within k) (t ∷ ts) = FitsLine t × Lines (behind k t) ts
