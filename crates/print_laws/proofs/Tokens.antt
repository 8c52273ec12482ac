-- Each token that is written before a space or a line feed is found there.
use Rattle.print_laws.proofs.Prelude.{◌≡◌, ℕ, ◌<◌, true, List, [], ◌∷◌, ◌++◌, length, refl, sym, ◌∙◌, subst, append_assoc, length-append, lit<, arith, Option, Some, decimal, nat_lt, Place, symbol_text, word_text, Token, Word, line_front, front, Piece, nothing, one, longest_symbol, symbol_at, digits_len, token_at, word_len, line, row, spaced, token_text, Every, FitsLine, symbol_has_byte}
use Rattle.csp_text.specs.declared.token.Token.TheVariants as token
use Rattle.csp_text.specs.declared.token.Word.TheVariants as word
use Rattle.csp_text.specs.declared.token.Symbol.TheVariants as symbol
use Rattle.print_laws.proofs.Plain.{Plain}
use Rattle.csp_lexer.proofs.Cuts.{Cuts, IsPiece, Stands, cuts_more, cuts_nothing}
use Rattle.print_laws.proofs.Names.{name_front, name_line_front, name_parts}
use Rattle.print_laws.proofs.Numbers.{decimal_digits, number_front, number_line_front}
use Rattle.print_laws.proofs.Quiet.{Gap}
use Rattle.print_laws.proofs.Quiet as gap
use Rattle.print_laws.proofs.Symbols.{symbol_before_line_feed, symbol_before_space, symbol_on_line}
use Rattle.print_laws.proofs.Words.{word_before_line_feed, word_before_space, word_on_line}

pub piece_is : {result : Option Piece} {t : Token} {at : Place} {rest : List ℕ} → result ≡ Some (one t at rest) → IsPiece result (t ∷ []) rest
piece_is {t = t} {at = at} {rest = rest} e = record { piece = one t at rest; is = e; tokens_are = refl; rest_is = refl }

blank_is : {result : Option Piece} {rest : List ℕ} → result ≡ Some (nothing rest) → IsPiece result [] rest
blank_is {rest = rest} e = record { piece = nothing rest; is = e; tokens_are = refl; rest_is = refl }

front_space : (at : Place) (r : List ℕ) → front at (32 ∷ r) ≡ Some (nothing r)
unfolding front
front_space at r = refl

front_feed : (at : Place) (r : List ℕ) → front at (10 ∷ r) ≡ Some (nothing r)
unfolding front
front_feed at r = refl

line_space : (at : Place) (r : List ℕ) → line_front at (32 ∷ r) ≡ Some (nothing r)
unfolding line_front
line_space at r = refl

longer : (b : ℕ) (r : List ℕ) → length r < length (b ∷ r)
longer b r = omega arith

pub space_stands : (r : List ℕ) → Stands front (32 ∷ r) [] r
space_stands r = record { stands = λ at. blank_is (front_space at r); shorter = longer 32 r }

pub feed_stands : (r : List ℕ) → Stands front (10 ∷ r) [] r
feed_stands r = record { stands = λ at. blank_is (front_feed at r); shorter = longer 10 r }

line_space_stands : (r : List ℕ) → Stands line_front (32 ∷ r) [] r
line_space_stands r = record { stands = λ at. blank_is (line_space at r); shorter = longer 32 r }

word_long : (w : Word) → 0 < length (word_text w)
word_long word.And = lit< tt
word_long _ = lit< tt

from_lt : (n : ℕ) → nat_lt 0 n ≡ true → 0 < n
from_lt n h = grind (arith)

behind_text : (x text : List ℕ) → 0 < length x → length text < length (x ++ text)
behind_text x text h = omega (arith, length-append x text)

pub token_stands : (t : Token) {text : List ℕ} → Plain t → Gap text → Stands front (token_text t ++ text) (t ∷ []) text
token_stands (token.Name x) f (gap.space {r = r}) = record { stands = λ at. piece_is (name_front x at 32 r f refl refl); shorter = behind_text x _ (from_lt _ (name_parts x f).long) }
token_stands (token.Name x) f (gap.feed {r = r}) = record { stands = λ at. piece_is (name_front x at 10 r f refl refl); shorter = behind_text x _ (from_lt _ (name_parts x f).long) }
token_stands (token.Num n) f (gap.space {r = r}) = record { stands = λ at. piece_is (number_front n at 32 r f refl); shorter = behind_text (decimal n) _ (decimal_digits n f).long }
token_stands (token.Num n) f (gap.feed {r = r}) = record { stands = λ at. piece_is (number_front n at 10 r f refl); shorter = behind_text (decimal n) _ (decimal_digits n f).long }
token_stands (token.Word w) f (gap.space {r = r}) = record { stands = λ at. piece_is (word_before_space w at r f); shorter = behind_text (word_text w) _ (word_long w) }
token_stands (token.Word w) f (gap.feed {r = r}) = record { stands = λ at. piece_is (word_before_line_feed w at r f); shorter = behind_text (word_text w) _ (word_long w) }
token_stands (token.Symbol s) f (gap.space {r = r}) = record { stands = λ at. piece_is (symbol_before_space s at r); shorter = behind_text (symbol_text s) _ (symbol_has_byte s) }
token_stands (token.Symbol s) f (gap.feed {r = r}) = record { stands = λ at. piece_is (symbol_before_line_feed s at r); shorter = behind_text (symbol_text s) _ (symbol_has_byte s) }
token_stands (token.Roles names) f p = absurd f
token_stands (token.Resource names) f p = absurd f

line_token_stands : (t : Token) (r : List ℕ) → FitsLine t → Stands line_front (token_text t ++ 32 ∷ r) (t ∷ []) (32 ∷ r)
line_token_stands (token.Name x) r f = record { stands = λ at. piece_is (name_line_front x at 32 r f refl refl); shorter = behind_text x _ (from_lt _ (name_parts x f).long) }
line_token_stands (token.Num n) r f = record { stands = λ at. piece_is (number_line_front n at 32 r f refl); shorter = behind_text (decimal n) _ (decimal_digits n f).long }
line_token_stands (token.Word w) r f = record { stands = λ at. piece_is (word_on_line w at r); shorter = behind_text (word_text w) _ (word_long w) }
line_token_stands (token.Symbol s) r f = record { stands = λ at. piece_is (symbol_on_line s at r f); shorter = behind_text (symbol_text s) _ (symbol_has_byte s) }
line_token_stands (token.Roles names) r f = absurd f
line_token_stands (token.Resource names) r f = absurd f

-- tokens in a row

pub spaced_more : (t : Token) (ts : List Token) (z : List ℕ) → spaced (t ∷ ts) ++ z ≡ 32 ∷ (token_text t ++ (spaced ts ++ z))
unfolding spaced
spaced_more t ts z = append_assoc (32 ∷ token_text t) (spaced ts) z

pub no_spaced : (z : List ℕ) → spaced [] ++ z ≡ z
unfolding spaced
no_spaced z = refl

pub gap_behind : (ts : List Token) (rest : List ℕ) → Gap (spaced ts ++ 10 ∷ rest)
gap_behind [] rest = subst Gap (sym (no_spaced (10 ∷ rest))) gap.feed
gap_behind (t ∷ ts) rest = subst Gap (sym (spaced_more t ts (10 ∷ rest))) gap.space

pub cuts_spaced : (ts : List Token) (rest : List ℕ) (us : List Token) → Every Plain ts → Cuts front rest us → Cuts front (spaced ts ++ 10 ∷ rest) (ts ++ us)
cuts_spaced [] rest us f c = subst (λ l. Cuts front l us) (sym (no_spaced (10 ∷ rest))) (cuts_more (feed_stands rest) c)
cuts_spaced (t ∷ ts) rest us f c =
    subst (λ l. Cuts front l (t ∷ ts ++ us)) (sym (spaced_more t ts (10 ∷ rest)))
    (cuts_more (space_stands _) (cuts_more (token_stands t f.0 (gap_behind ts rest)) (cuts_spaced ts rest us f.1 c)))

pub line_is : (t : Token) (ts : List Token) (rest : List ℕ) → line (t ∷ ts) ++ rest ≡ token_text t ++ (spaced ts ++ 10 ∷ rest)
unfolding row
line_is t ts rest = append_assoc (token_text t ++ spaced ts) (10 ∷ []) rest ∙ append_assoc (token_text t) (spaced ts) (10 ∷ rest)

-- a line of tokens
pub cuts_line : (t : Token) (ts : List Token) (rest : List ℕ) (us : List Token) → Every Plain (t ∷ ts) → Cuts front rest us → Cuts front (line (t ∷ ts) ++ rest) (t ∷ ts ++ us)
cuts_line t ts rest us f c =
    subst (λ l. Cuts front l (t ∷ ts ++ us)) (sym (line_is t ts rest)) (cuts_more (token_stands t f.0 (gap_behind ts rest)) (cuts_spaced ts rest us f.1 c))

-- the tokens of an assertion, up to its last bracket

last_bracket : (at : Place) → line_front at (93 ∷ []) ≡ Some (one (token.Symbol symbol.CloseBracket) at [])
unfolding line_front longest_symbol symbol_at digits_len token_at word_len
last_bracket at = refl

bracket_stands : Stands line_front (93 ∷ []) (token.Symbol symbol.CloseBracket ∷ []) []
bracket_stands = record { stands = λ at. piece_is (last_bracket at); shorter = longer 93 [] }

begins_with_space : (ts : List Token) (z : List ℕ) → (r : List ℕ) × (spaced ts ++ 32 ∷ z ≡ 32 ∷ r)
begins_with_space [] z = (z, no_spaced (32 ∷ z))
begins_with_space (t ∷ ts) z = (_, spaced_more t ts (32 ∷ z))

before_space : (t : Token) (text r : List ℕ) → text ≡ 32 ∷ r → FitsLine t → Stands line_front (token_text t ++ text) (t ∷ []) text
before_space t text r e f = subst (λ l. Stands line_front (token_text t ++ l) (t ∷ []) l) (sym e) (line_token_stands t r f)

pub cuts_on_line : (ts : List Token) → Every FitsLine ts → Cuts line_front (spaced ts ++ 32 ∷ 93 ∷ []) (ts ++ token.Symbol symbol.CloseBracket ∷ [])
cuts_on_line [] f =
    subst (λ l. Cuts line_front l (token.Symbol symbol.CloseBracket ∷ [])) (sym (no_spaced (32 ∷ 93 ∷ [])))
    (cuts_more (line_space_stands _) (cuts_more bracket_stands (cuts_nothing line_front)))
cuts_on_line (t ∷ ts) f =
    let space = begins_with_space ts (93 ∷ []) in
    subst (λ l. Cuts line_front l (t ∷ ts ++ token.Symbol symbol.CloseBracket ∷ [])) (sym (spaced_more t ts (32 ∷ 93 ∷ [])))
    (cuts_more (line_space_stands _) (cuts_more (before_space t _ space.0 space.1 f.0) (cuts_on_line ts f.1)))
