-- Reserved words before a space or a line feed.
use Rattle.print_laws.proofs.Prelude.{◌≡◌, ℕ, true, List, ◌∷◌, ◌++◌, refl, false≢true, Some, Place, Word, word_text, line_front, front, begins_assertion, one, token_at, reserved_word, word_len, word_rest_len, is_common}
use Rattle.csp_text.specs.declared.token.Token.TheVariants as token
use Rattle.csp_text.specs.declared.token.Word.TheVariants as word

pub word_before_space : (w : Word) (at : Place) (r : List ℕ) → is_common w ≡ true → front at (word_text w ++ 32 ∷ r) ≡ Some (one (token.Word w) at (32 ∷ r))
unfolding front begins_assertion token_at word_len word_rest_len reserved_word
word_before_space word.Assert at r h = absurd (false≢true h)
word_before_space _ at r h = refl

pub word_before_line_feed : (w : Word) (at : Place) (r : List ℕ) → is_common w ≡ true → front at (word_text w ++ 10 ∷ r) ≡ Some (one (token.Word w) at (10 ∷ r))
unfolding front begins_assertion token_at word_len word_rest_len reserved_word
word_before_line_feed word.Assert at r h = absurd (false≢true h)
word_before_line_feed _ at r h = refl

pub word_on_line : (w : Word) (at : Place) (r : List ℕ) → line_front at (word_text w ++ 32 ∷ r) ≡ Some (one (token.Word w) at (32 ∷ r))
unfolding line_front token_at word_len word_rest_len reserved_word
word_on_line word.And at r = refl
word_on_line _ at r = refl
