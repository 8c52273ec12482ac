-- Words and symbols that are written alike are the same: each stands in the list of all at the first place where one is written so.
use Rattle.std.proofs.Common.{◌≡◌, ℕ, true, refl, sym, ap, ◌∙◌}
use Rattle.csp_base.proofs.Standard.{same_Some, bytes_eq-Decides}
use Rattle.std.specs.Prelude.{Some}
use Rattle.csp_base.specs.Standard.{position_or_len, slice_get, bytes_eq}
use Rattle.csp_text.specs.Prelude.{Symbol, same_symbol, same_word, symbol_text, symbols, word_text, words}
use Rattle.csp_text.specs.declared.token.Word.{Word}
use Rattle.csp_text.specs.declared.token.Symbol.TheVariants as symbol
use Rattle.csp_text.specs.declared.token.Word.TheVariants as word

abbrev pub symbol_place : Symbol → ℕ
symbol_place s = position_or_len (λ other. bytes_eq (symbol_text other) (symbol_text s)) symbols

pub symbol_stands : (s : Symbol) → slice_get symbols (symbol_place s) ≡ Some s
symbol_stands symbol.Arrow = refl
symbol_stands _ = refl

abbrev word_place : Word → ℕ
word_place w = position_or_len (λ other. bytes_eq (word_text other) (word_text w)) words

word_stands : (w : Word) → slice_get words (word_place w) ≡ Some w
word_stands word.And = refl
word_stands _ = refl

pub symbol_is : (s u : Symbol) → same_symbol s u ≡ true → s ≡ u
symbol_is s u h =
    let place = ap (λ t. position_or_len (λ other. bytes_eq (symbol_text other) t) symbols) ((bytes_eq-Decides (symbol_text s) (symbol_text u)).0 h) in
    same_Some s u (sym (symbol_stands s) ∙ ap (slice_get symbols) place ∙ symbol_stands u)

pub word_is : (w v : Word) → same_word w v ≡ true → w ≡ v
word_is w v h =
    let place = ap (λ t. position_or_len (λ other. bytes_eq (word_text other) t) words) ((bytes_eq-Decides (word_text w) (word_text v)).0 h) in
    same_Some w v (sym (word_stands w) ∙ ap (slice_get words) place ∙ word_stands v)
