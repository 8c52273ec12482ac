-- A token of a length, as a piece of a text.
use Rattle.csp_lexer.proofs.Prelude.{◌≡◌, ℕ, List, drop, refl, Option, Some, None, Place, Token, one_at, one_before, with_len}

pub one_with_len : (at : Place) (text : List ℕ) (n : ℕ) (o : Option Token) → one_at at text (with_len n o) ≡ one_before at (drop n text) o
one_with_len at text n None = refl
one_with_len at text n (Some t) = refl
