-- Symbols before a space or a line feed.
use Rattle.print_laws.proofs.Prelude.{◌≡◌, ℕ, true, List, ◌∷◌, ◌++◌, refl, false≢true, Some, Place, symbol_text, line_front, front, begins_assertion, one, longest_symbol, symbol_at, digits_len, token_at, word_len, is_single}
use Rattle.csp_text.specs.declared.token.Token.TheVariants as token
use Rattle.csp_text.specs.declared.token.Symbol.{Symbol}
use Rattle.csp_text.specs.declared.token.Symbol.TheVariants as symbol

pub symbol_before_space : (s : Symbol) (at : Place) (r : List ℕ) → front at (symbol_text s ++ 32 ∷ r) ≡ Some (one (token.Symbol s) at (32 ∷ r))
unfolding front begins_assertion longest_symbol symbol_at digits_len token_at word_len
symbol_before_space symbol.Arrow at r = refl
symbol_before_space _ at r = refl

pub symbol_before_line_feed : (s : Symbol) (at : Place) (r : List ℕ) → front at (symbol_text s ++ 10 ∷ r) ≡ Some (one (token.Symbol s) at (10 ∷ r))
unfolding front begins_assertion longest_symbol symbol_at digits_len token_at word_len
symbol_before_line_feed symbol.Arrow at r = refl
symbol_before_line_feed _ at r = refl

-- on the line of an assertion
pub symbol_on_line : (s : Symbol) (at : Place) (r : List ℕ) → is_single s ≡ true → line_front at (symbol_text s ++ 32 ∷ r) ≡ Some (one (token.Symbol s) at (32 ∷ r))
unfolding line_front longest_symbol symbol_at digits_len token_at word_len
symbol_on_line symbol.ExternalChoice at r h = absurd (false≢true h)
symbol_on_line symbol.OpenRename at r h = absurd (false≢true h)
symbol_on_line symbol.CloseRename at r h = absurd (false≢true h)
symbol_on_line _ at r h = refl
