-- The token that is found at the front of a text is the one with which the text begins: its longest lexeme.
use Rattle.csp_lexer.proofs.Prelude.{◌≡◌, ℕ, ◌+◌, ◌<◌, ◌≤◌, Bool, true, false, ◌&&◌, List, [], ◌∷◌, ◌++◌, length, take, drop, codes, refl, sym, ap, ◌∙◌, subst, length-append, length-take-le, take-append-drop, take-append_seam, take_all, append-nil, not, not-true, is_none, is_name, same_Some, none-some, arith, and_parts, cond, cond-true, cond-false, if◌then◌else◌, false≢true, both_ways, bytes_eq-Decides, nat_tests, list_all, Option, Some, None, find, nat_eq, nat_le, nat_lt, starts_with, bytes_eq, Symbol, Token, Word, symbol_text, symbol_is, word_text, words, GREATEST_NUMBER, Begins, IsFront, IsLongest, IsName, IsWord, Lexeme, digits_len, is_digit, is_foreign, is_single, longest_symbol, decimal_value, number_token, reserved_word, symbol_at, symbol_with_len, token_at, with_len, word_len, word_or_name, word_token}
use Rattle.csp_text.specs.declared.token.Token.TheVariants as token
use Rattle.csp_text.specs.declared.token.Word.TheVariants as word
use Rattle.csp_text.specs.declared.token.Symbol.TheVariants as symbol
use Rattle.csp_lexer.specs.Lexemes as lexeme
use Rattle.csp_lexer.specs.Words as form
use Rattle.csp_lexer.proofs.SymbolsLemmas.{found_longest, front_tested, passed_front, symbol_has_byte}
use Rattle.csp_lexer.proofs.FrontsLemmas.{digits_front, digits_len_within, digits_no_word, digits_within, word_front, word_has_byte, word_len_within, word_no_digits, word_within}

-- WORDS

found_here : {X : Type 0} (test : X → Bool) (x y : X) (rest : Option X) → (rest ≡ Some y → test y ≡ true) → (t : Bool) → test x ≡ t → cond t (Some x) rest ≡ Some y → test y ≡ true
found_here test x y rest more true e h = let same : x ≡ y = cc in ap test (sym same) ∙ e
found_here test x y rest more false e h = more h

pub passes_where_found : {X : Type 0} (test : X → Bool) (xs : List X) (y : X) → find test xs ≡ Some y → test y ≡ true
passes_where_found test [] y h = cc
passes_where_found test (x ∷ xs) y h = found_here test x y (find test xs) (passes_where_found test xs y) (test x) refl h

pub reserved_is : (x : List ℕ) (w : Word) → reserved_word x ≡ Some w → bytes_eq x (word_text w) ≡ true
unfolding reserved_word
reserved_is x w h = passes_where_found (λ w. bytes_eq x (word_text w)) words w h

written_so : (x : List ℕ) (w : Word) → reserved_word x ≡ Some w → x ≡ word_text w
written_so x w h = (bytes_eq-Decides x (word_text w)).0 (reserved_is x w h)

reserved_itself : (w : Word) → reserved_word (word_text w) ≡ Some w
unfolding reserved_word
reserved_itself word.And = refl
reserved_itself _ = refl

pub reserved_word_is : (w : Word) → IsWord (word_text w)
reserved_word_is word.And = form.word (codes "nd") [] refl refl refl
reserved_word_is word.Assert = form.word (codes "ssert") [] refl refl refl
reserved_word_is word.Channel = form.word (codes "hannel") [] refl refl refl
reserved_word_is word.Datatype = form.word (codes "atatype") [] refl refl refl
reserved_word_is word.Diff = form.word (codes "iff") [] refl refl refl
reserved_word_is word.Else = form.word (codes "lse") [] refl refl refl
reserved_word_is word.False = form.word (codes "alse") [] refl refl refl
reserved_word_is word.If = form.word (codes "f") [] refl refl refl
reserved_word_is word.Inter = form.word (codes "nter") [] refl refl refl
reserved_word_is word.Nametype = form.word (codes "ametype") [] refl refl refl
reserved_word_is word.Not = form.word (codes "ot") [] refl refl refl
reserved_word_is word.Or = form.word (codes "r") [] refl refl refl
reserved_word_is word.Then = form.word (codes "hen") [] refl refl refl
reserved_word_is word.True = form.word (codes "rue") [] refl refl refl
reserved_word_is word.Union = form.word (codes "nion") [] refl refl refl
reserved_word_is word.Stop = form.word (codes "TOP") [] refl refl refl
reserved_word_is word.Skip = form.word (codes "KIP") [] refl refl refl

reserved_apart : (x : List ℕ) → reserved_word x ≡ None → (w : Word) → x ≡ word_text w → ⊥
reserved_apart x none w is = let found : reserved_word x ≡ Some w = ap reserved_word is ∙ reserved_itself w in absurd (none-some w (sym none ∙ found))

module _ (on_line : Bool) where
  name_lexeme : (x : List ℕ) → IsWord x → reserved_word x ≡ None → (t : Bool) → is_foreign x ≡ t → Lexeme on_line x (if t then None else Some (token.Name x))
  name_lexeme x is none true foreign = lexeme.foreign is foreign
  name_lexeme x is none false ours = lexeme.name (is, reserved_apart x none, ours)

  word_lexeme_at : (x : List ℕ) → IsWord x → (o : Option Word) → reserved_word x ≡ o → Lexeme on_line x (word_or_name o x)
  word_lexeme_at x is (Some w) found = subst (λ y. Lexeme on_line y (Some (token.Word w))) (sym (written_so x w found)) (lexeme.word w)
  word_lexeme_at x is None none = name_lexeme x is none (is_foreign x) refl

  -- a word is a lexeme, of the token that is found
  pub word_lexeme : (x : List ℕ) → IsWord x → Lexeme on_line x (word_token x)
  word_lexeme x is = word_lexeme_at x is (reserved_word x) refl

no_reserved : (x : List ℕ) → ((w : Word) → x ≡ word_text w → ⊥) → (o : Option Word) → reserved_word x ≡ o → o ≡ None
no_reserved x apart None is = refl
no_reserved x apart (Some w) is = absurd (apart w (written_so x w is))

name_token : (x : List ℕ) → IsName x → word_token x ≡ Some (token.Name x)
name_token x is = ap (λ o. word_or_name o x) (no_reserved x is.1 (reserved_word x) refl) ∙ cond-false (is_foreign x) None (Some (token.Name x)) is.2

reserved_token : (w : Word) → word_token (word_text w) ≡ Some (token.Word w)
reserved_token w = ap (λ o. word_or_name o (word_text w)) (reserved_itself w)

-- NUMBERS

small : (n m : ℕ) → nat_le n m ≡ true → n ≤ m
small n m h = grind (arith, nat_tests)

great : (n m : ℕ) → nat_le n m ≡ false → m < n
great n m h = grind (arith, nat_tests)

is_small : (n m : ℕ) → n ≤ m → nat_le n m ≡ true
is_small n m h = grind (arith, nat_tests)

module _ (on_line : Bool) where
  number_lexeme_at : (d : ℕ) (ds : List ℕ) → list_all is_digit (d ∷ ds) ≡ true → (t : Bool) → nat_le (decimal_value (d ∷ ds)) GREATEST_NUMBER ≡ t
      → Lexeme on_line (d ∷ ds) (if t then Some (token.Num (decimal_value (d ∷ ds))) else None)
  number_lexeme_at d ds all true fits = lexeme.number all (small (decimal_value (d ∷ ds)) GREATEST_NUMBER fits)
  number_lexeme_at d ds all false large = lexeme.great all (great (decimal_value (d ∷ ds)) GREATEST_NUMBER large)

  -- digits are a lexeme, of the token that is found
  pub number_lexeme : (x : List ℕ) → 0 < length x → list_all is_digit x ≡ true → Lexeme on_line x (number_token x)
  unfolding number_token
  number_lexeme [] has all = absurd (omega arith)
  number_lexeme (d ∷ ds) has all = number_lexeme_at d ds all (nat_le (decimal_value (d ∷ ds)) GREATEST_NUMBER) refl

small_token : (x : List ℕ) → decimal_value x ≤ GREATEST_NUMBER → number_token x ≡ Some (token.Num (decimal_value x))
unfolding number_token
small_token x fits = cond-true _ _ _ (is_small (decimal_value x) GREATEST_NUMBER fits)

-- SYMBOLS

symbol_no_word : (s : Symbol) (rest : List ℕ) → word_len (symbol_text s ++ rest) ≡ 0
unfolding word_len
symbol_no_word symbol.Arrow rest = refl
symbol_no_word _ rest = refl

symbol_no_digits : (s : Symbol) (rest : List ℕ) → digits_len (symbol_text s ++ rest) ≡ 0
unfolding digits_len
symbol_no_digits symbol.Arrow rest = refl
symbol_no_digits _ rest = refl

abbrev Counts : Bool → Symbol → Type 0
Counts on_line s = on_line ≡ true → is_single s ≡ true

open_alone : (s : Symbol) (y : List ℕ) → is_single s ≡ true → starts_with nat_eq (91 ∷ y) (symbol_text s) ≡ true → length (symbol_text s) ≤ 1
open_alone symbol.ExternalChoice y single fits = absurd (false≢true single)
open_alone symbol.OpenRename y single fits = absurd (false≢true single)
open_alone symbol.OpenBracket y single fits = omega arith
open_alone _ y single fits = absurd (false≢true fits)

close_alone : (s : Symbol) (y : List ℕ) → is_single s ≡ true → starts_with nat_eq (93 ∷ y) (symbol_text s) ≡ true → length (symbol_text s) ≤ 1
close_alone symbol.CloseRename y single fits = absurd (false≢true single)
close_alone symbol.CloseBracket y single fits = omega arith
close_alone _ y single fits = absurd (false≢true fits)

first_byte : (c d : ℕ) (text : List ℕ) → starts_with nat_eq text (c ∷ d ∷ []) ≡ true → starts_with nat_eq text (c ∷ []) ≡ true
first_byte c d [] h = absurd (false≢true h)
first_byte c d (e ∷ text) h = let both = and_parts (nat_eq c e) (starts_with nat_eq text (d ∷ [])) h in ap (λ t. t && true) both.0

pub single_is : (text : List ℕ) (s : Symbol) → starts_with nat_eq text (codes "[") ≡ false → starts_with nat_eq text (codes "]") ≡ false → starts_with nat_eq text (symbol_text s) ≡ true → is_single s ≡ true
single_is text symbol.ExternalChoice h k l = absurd (both_ways _ h (first_byte 91 93 text l))
single_is text symbol.OpenRename h k l = absurd (both_ways _ h (first_byte 91 91 text l))
single_is text symbol.CloseRename h k l = absurd (both_ways _ k (first_byte 93 93 text l))
single_is text _ h k l = refl

-- what is known of the symbol that is found: it stands at the front, and none that counts is longer
record IsSymbol (on_line : Bool) (text : List ℕ) (s : Symbol) : Type 0 where
  front : IsFront (symbol_text s) text
  counts : Counts on_line s
  longest : (other : Symbol) → IsFront (symbol_text other) text → Counts on_line other → length (symbol_text other) ≤ length (symbol_text s)

-- what is known where none is found, and where one is
abbrev Symbols : Bool → List ℕ → Option Symbol → Type 0
Symbols on_line text None = (s : Symbol) → IsFront (symbol_text s) text → Counts on_line s → ⊥
Symbols on_line text (Some s) = IsSymbol on_line text s

off_line : (text : List ℕ) (o : Option Symbol) → IsLongest text o → Symbols false text o
off_line text None none = λ s front counts. none s front
off_line text (Some s) found = record { front = found.0; counts = λ e. absurd (false≢true e); longest = λ other front counts. found.1 other front }

on_line_else : (text : List ℕ) (o : Option Symbol) → starts_with nat_eq text (codes "[") ≡ false → starts_with nat_eq text (codes "]") ≡ false → IsLongest text o → Symbols true text o
on_line_else text None h k none = λ s front counts. none s front
on_line_else text (Some s) h k found =
    record { front = found.0; counts = λ e. single_is text s h k (front_tested text (symbol_text s) found.0); longest = λ other front counts. found.1 other front }

opened : (text : List ℕ) → starts_with nat_eq text (codes "[") ≡ true → Symbols true text (Some symbol.OpenBracket)
opened text h =
    let front = passed_front text (codes "[") h in
    record {
      front = front;
      counts = λ e. refl;
      longest = λ other stands counts. open_alone other front.0 (counts refl) (subst (λ l. starts_with nat_eq l (symbol_text other) ≡ true) front.1 (front_tested text (symbol_text other) stands));
    }

closed : (text : List ℕ) → starts_with nat_eq text (codes "]") ≡ true → Symbols true text (Some symbol.CloseBracket)
closed text h =
    let front = passed_front text (codes "]") h in
    record {
      front = front;
      counts = λ e. refl;
      longest = λ other stands counts. close_alone other front.0 (counts refl) (subst (λ l. starts_with nat_eq l (symbol_text other) ≡ true) front.1 (front_tested text (symbol_text other) stands));
    }

pub either : {A : Type 0} (P : A → Type 0) (test : Bool) (x y : A) → (test ≡ true → P x) → (test ≡ false → P y) → P (if test then x else y)
either P true x y h k = h refl
either P false x y h k = k refl

symbols_found : (on_line : Bool) (text : List ℕ) → Symbols on_line text (symbol_at on_line text)
unfolding symbol_at
symbols_found false text = off_line text (longest_symbol text) (found_longest text (longest_symbol text) refl)
symbols_found true text =
    either (Symbols true text) (starts_with nat_eq text (codes "[")) _ _ (λ h. opened text h)
    (λ h. either (Symbols true text) (starts_with nat_eq text (codes "]")) _ _ (λ k. closed text k)
    (λ k. on_line_else text (longest_symbol text) h k (found_longest text (longest_symbol text) refl)))

-- LEXEMES AT THE FRONT OF A TEXT

-- what a lexeme that stands at the front says of the text
data Kind (on_line : Bool) (text part : List ℕ) : Type 0 where
  a-word : 0 < length part → length part ≤ word_len text → Kind on_line text part
  a-number : 0 < length part → length part ≤ digits_len text → Kind on_line text part
  a-symbol : (s : Symbol) → part ≡ symbol_text s → IsFront (symbol_text s) text → Counts on_line s → Kind on_line text part
  a-line : on_line ≡ false → starts_with nat_eq text (codes "--") ≡ true → Kind on_line text part
  a-comment : on_line ≡ false → starts_with nat_eq text (codes "{-") ≡ true → Kind on_line text part

kind_of : (on_line : Bool) (part after : List ℕ) (found : Option Token) → Lexeme on_line part found → Kind on_line (part ++ after) part
kind_of on_line part after found (lexeme.word w) = a-word (word_has_byte _ (reserved_word_is w)) (word_within _ after (reserved_word_is w))
kind_of on_line part after found (lexeme.name is) = a-word (word_has_byte _ is.0) (word_within _ after is.0)
kind_of on_line part after found (lexeme.foreign is e) = a-word (word_has_byte _ is) (word_within _ after is)
kind_of on_line part after found (lexeme.number {d = d} {ds = ds} all fits) = a-number (omega arith) (digits_within (d ∷ ds) after all)
kind_of on_line part after found (lexeme.great {d = d} {ds = ds} all large) = a-number (omega arith) (digits_within (d ∷ ds) after all)
kind_of on_line part after found (lexeme.symbol s counts) = a-symbol s refl (after, refl) counts
kind_of on_line part after found (lexeme.line-comment e) = a-line e refl
kind_of on_line part after found (lexeme.comment e) = a-comment e refl

kind_at : (on_line : Bool) (text part after : List ℕ) (found : Option Token) → text ≡ part ++ after → Lexeme on_line part found → Kind on_line text part
kind_at on_line text part after found is l = subst (λ y. Kind on_line y part) (sym is) (kind_of on_line part after found l)

-- the text is not that of a comment, where comments are looked for
abbrev pub NoComment : Bool → List ℕ → Type 0
NoComment on_line text = on_line ≡ false → (starts_with nat_eq text (codes "--") ≡ false) × (starts_with nat_eq text (codes "{-") ≡ false)

no_symbol : {A : Type 0} (text : List ℕ) (s : Symbol) → IsFront (symbol_text s) text → 0 < word_len text → A
no_symbol text s front has = let none : word_len text ≡ 0 = ap word_len front.1 ∙ symbol_no_word s front.0 in absurd (omega arith)

no_symbol_digit : {A : Type 0} (text : List ℕ) (s : Symbol) → IsFront (symbol_text s) text → 0 < digits_len text → A
no_symbol_digit text s front has = let none : digits_len text ≡ 0 = ap digits_len front.1 ∙ symbol_no_digits s front.0 in absurd (omega arith)

-- no lexeme at the front is longer than the word, the number or the symbol that is found
module _ (on_line : Bool) (text : List ℕ) (plain : NoComment on_line text) (part : List ℕ) where
  below_word : 0 < word_len text → Kind on_line text part → length part ≤ word_len text
  below_word has (a-word byte within) = within
  below_word has (a-number byte within) = let none = word_no_digits text has in absurd (omega arith)
  below_word has (a-symbol s is front counts) = no_symbol text s front has
  below_word has (a-line e opens) = absurd (both_ways _ (plain e).0 opens)
  below_word has (a-comment e opens) = absurd (both_ways _ (plain e).1 opens)

  below_number : word_len text ≡ 0 → 0 < digits_len text → Kind on_line text part → length part ≤ digits_len text
  below_number none has (a-word byte within) = absurd (omega arith)
  below_number none has (a-number byte within) = within
  below_number none has (a-symbol s is front counts) = no_symbol_digit text s front has
  below_number none has (a-line e opens) = absurd (both_ways _ (plain e).0 opens)
  below_number none has (a-comment e opens) = absurd (both_ways _ (plain e).1 opens)

  below_symbol : (found : Symbol) → IsSymbol on_line text found → word_len text ≡ 0 → digits_len text ≡ 0 → Kind on_line text part → length part ≤ length (symbol_text found)
  below_symbol found is none no_digits (a-word byte within) = absurd (omega arith)
  below_symbol found is none no_digits (a-number byte within) = absurd (omega arith)
  below_symbol found is none no_digits (a-symbol s part_is front counts) = let most = is.longest s front counts in let same : length part ≡ length (symbol_text s) = ap length part_is in omega arith
  below_symbol found is none no_digits (a-line e opens) = absurd (both_ways _ (plain e).0 opens)
  below_symbol found is none no_digits (a-comment e opens) = absurd (both_ways _ (plain e).1 opens)

-- WHAT IS FOUND STANDS AT THE FRONT

-- a token of this length stands at the front of the text
pub record Found (on_line : Bool) (text : List ℕ) (t : Token) (n : ℕ) : Type 0 where
  pub begins : Begins on_line (take n text) (drop n text) t
  pub has_byte : 0 < n
  pub within : n ≤ length text

begun : (on_line : Bool) (text : List ℕ) (t : Token) (n : ℕ) → 0 < n → n ≤ length text → Lexeme on_line (take n text) (Some t)
    → ((part : List ℕ) → Kind on_line text part → length part ≤ n) → Found on_line text t n
begun on_line text t n has fits l most = record {
  begins = record {
    lexeme = l;
    longest = λ other after found is k.
        let below : length other ≤ n = most other (kind_at on_line text other after found (sym (take-append-drop n text) ∙ is) k) in
        omega (arith, length-take-le n text fits, below);
  };
  has_byte = has;
  within = fits;
}

-- what holds of a token with its length, where there is one
abbrev pub OfToken : (Token → ℕ → Type 0) → Option (Token × ℕ) → Type 0
OfToken P None = Unit {0}
OfToken P (Some found) = P found.0 found.1

len_found : (P : Token → ℕ → Type 0) (n : ℕ) (o : Option Token) → ((t : Token) → o ≡ Some t → P t n) → OfToken P (with_len n o)
len_found P n None h = tt
len_found P n (Some t) h = h t refl

at_least_one : (n : ℕ) → nat_lt 0 n ≡ true → 0 < n
at_least_one n h = grind (arith, nat_tests)

not_one : (n : ℕ) → nat_lt 0 n ≡ false → n ≡ 0
not_one n h = grind (arith, nat_tests)

front_within : (part rest text : List ℕ) → text ≡ part ++ rest → length part ≤ length text
front_within part rest text is = let long : length text ≡ length part + length rest = ap length is ∙ length-append part rest in omega arith

module _ (on_line : Bool) (text : List ℕ) (plain : NoComment on_line text) where
  word_found : 0 < word_len text → (t : Token) → word_token (take (word_len text) text) ≡ Some t → Found on_line text t (word_len text)
  word_found has t is =
      begun on_line text t (word_len text) has (word_len_within text) (subst (Lexeme on_line (take (word_len text) text)) is (word_lexeme on_line (take (word_len text) text) (word_front text has)))
      (λ part k. below_word on_line text plain part has k)

  number_found : word_len text ≡ 0 → 0 < digits_len text → (t : Token) → number_token (take (digits_len text) text) ≡ Some t → Found on_line text t (digits_len text)
  number_found none has t is =
      let long : length (take (digits_len text) text) ≡ digits_len text = length-take-le (digits_len text) text (digits_len_within text) in
      begun on_line text t (digits_len text) has (digits_len_within text)
      (subst (Lexeme on_line (take (digits_len text) text)) is (number_lexeme on_line (take (digits_len text) text) (omega arith) (digits_front text)))
      (λ part k. below_number on_line text plain part none has k)

  symbol_found : word_len text ≡ 0 → digits_len text ≡ 0 → (o : Option Symbol) → Symbols on_line text o → OfToken (Found on_line text) (symbol_with_len o)
  symbol_found none no_digits None h = tt
  symbol_found none no_digits (Some s) h =
      let written : take (length (symbol_text s)) text ≡ symbol_text s = ap (take (length (symbol_text s))) h.front.1 ∙ take-append_seam (symbol_text s) h.front.0 in
      begun on_line text (token.Symbol s) (length (symbol_text s)) (symbol_has_byte s) (front_within (symbol_text s) h.front.0 text h.front.1)
      (subst (λ y. Lexeme on_line y (Some (token.Symbol s))) (sym written) (lexeme.symbol s h.counts)) (λ part k. below_symbol on_line text plain part s h none no_digits k)

  pub token_found : OfToken (Found on_line text) (token_at on_line text)
  unfolding token_at
  token_found =
      either (OfToken (Found on_line text)) (nat_lt 0 (word_len text)) _ _ (λ h. len_found (Found on_line text) (word_len text) _ (word_found (at_least_one _ h)))
      (λ h. either (OfToken (Found on_line text)) (nat_lt 0 (digits_len text)) _ _ (λ k. len_found (Found on_line text) (digits_len text) _ (number_found (not_one _ h) (at_least_one _ k)))
      (λ k. symbol_found (not_one _ h) (not_one _ k) (symbol_at on_line text) (symbols_found on_line text)))

-- WHAT STANDS AT THE FRONT IS FOUND

is_positive : (n : ℕ) → 0 < n → nat_lt 0 n ≡ true
is_positive n h = grind (arith, nat_tests)

same_front : (a b r s text : List ℕ) → text ≡ a ++ r → text ≡ b ++ s → length a ≡ length b → a ≡ b
same_front a b r s text is other long =
    sym (take-append_seam a r) ∙ ap (take (length a)) (sym is) ∙ ap (λ n. take n text) long ∙ ap (take (length b)) other ∙ take-append_seam b s

alike : (s u : Symbol) → symbol_text s ≡ symbol_text u → s ≡ u
alike s u is = symbol_is s u ((bytes_eq-Decides (symbol_text s) (symbol_text u)).1 is)

module _ (on_line : Bool) (part rest : List ℕ) (longest : (other after : List ℕ) (found : Option Token) → part ++ rest ≡ other ++ after → Lexeme on_line other found → length other ≤ length part) where
  pub word_len_at : IsWord part → word_len (part ++ rest) ≡ length part
  word_len_at is =
      let text : List ℕ = part ++ rest in
      let n : ℕ = word_len text in
      let least : length part ≤ n = word_within part rest is in
      let has : 0 < n = omega (arith, word_has_byte part is) in
      let most = longest (take n text) (drop n text) _ (sym (take-append-drop n text)) (word_lexeme on_line (take n text) (word_front text has)) in
      omega (arith, length-take-le n text (word_len_within text), most)

  word_begun : (t : Token) → IsWord part → word_token part ≡ Some t → token_at on_line (part ++ rest) ≡ Some (t, length part)
  unfolding token_at
  word_begun t is found =
      let n = word_len_at is in
      cond-true _ _ _ (ap (nat_lt 0) n ∙ is_positive (length part) (word_has_byte part is))
      ∙ ap (λ k. with_len k (word_token (take k (part ++ rest)))) n
      ∙ ap (λ y. with_len (length part) (word_token y)) (take-append_seam part rest)
      ∙ ap (with_len (length part)) found

  number_begun : (t : Token) → 0 < length part → list_all is_digit part ≡ true → word_len (part ++ rest) ≡ 0 → number_token part ≡ Some t → token_at on_line (part ++ rest) ≡ Some (t, length part)
  unfolding token_at
  number_begun t has all none found =
      let text : List ℕ = part ++ rest in
      let n : ℕ = digits_len text in
      let least : length part ≤ n = digits_within part rest all in
      let long : length (take n text) ≡ n = length-take-le n text (digits_len_within text) in
      let most = longest (take n text) (drop n text) _ (sym (take-append-drop n text)) (number_lexeme on_line (take n text) (omega arith) (digits_front text)) in
      let same : digits_len (part ++ rest) ≡ length part = omega (arith, long, most) in
      cond-false _ _ _ (ap (nat_lt 0) none)
      ∙ cond-true _ _ _ (ap (nat_lt 0) same ∙ is_positive (length part) has)
      ∙ ap (λ k. with_len k (number_token (take k (part ++ rest)))) same
      ∙ ap (λ y. with_len (length part) (number_token y)) (take-append_seam part rest)
      ∙ ap (with_len (length part)) found

  symbol_begun_at : (s : Symbol) → part ≡ symbol_text s → Counts on_line s → (o : Option Symbol) → Symbols on_line (part ++ rest) o → symbol_with_len o ≡ Some (token.Symbol s, length part)
  symbol_begun_at s is counts None none = absurd (none s (rest, ap (λ y. y ++ rest) is) counts)
  symbol_begun_at s is counts (Some u) found =
      let most = longest (symbol_text u) found.front.0 _ found.front.1 (lexeme.symbol u found.counts) in
      let least = found.longest s (rest, ap (λ y. y ++ rest) is) counts in
      let long : length part ≡ length (symbol_text s) = ap length is in
      let same : part ≡ symbol_text u = same_front part (symbol_text u) rest found.front.0 (part ++ rest) refl found.front.1 (omega (arith, most, least, long)) in
      let u_is : u ≡ s = alike u s (sym same ∙ is) in
      (λ i. Some (token.Symbol (u_is i), length (sym same i)))

  symbol_begun : (s : Symbol) → part ≡ symbol_text s → Counts on_line s → token_at on_line (part ++ rest) ≡ Some (token.Symbol s, length part)
  unfolding token_at
  symbol_begun s is counts =
      let none : word_len (part ++ rest) ≡ 0 = ap (λ y. word_len (y ++ rest)) is ∙ symbol_no_word s rest in
      let no_digits : digits_len (part ++ rest) ≡ 0 = ap (λ y. digits_len (y ++ rest)) is ∙ symbol_no_digits s rest in
      cond-false _ _ _ (ap (nat_lt 0) none) ∙ cond-false _ _ _ (ap (nat_lt 0) no_digits) ∙ symbol_begun_at s is counts (symbol_at on_line (part ++ rest)) (symbols_found on_line (part ++ rest))

first_digit : (d : ℕ) (ds : List ℕ) → list_all is_digit (d ∷ ds) ≡ true → is_digit d ≡ true
first_digit d ds all = (and_parts (is_digit d) (list_all is_digit ds) all).0

begun_token : (on_line : Bool) (part rest : List ℕ) (t : Token) (found : Option Token) → Lexeme on_line part found → found ≡ Some t
    → ((other after : List ℕ) (o : Option Token) → part ++ rest ≡ other ++ after → Lexeme on_line other o → length other ≤ length part) → token_at on_line (part ++ rest) ≡ Some (t, length part)
begun_token on_line part rest t found (lexeme.word w) is longest = word_begun on_line _ rest longest t (reserved_word_is w) (reserved_token w ∙ is)
begun_token on_line part rest t found (lexeme.name {x = x} n) is longest = word_begun on_line x rest longest t n.0 (name_token x n ∙ is)
begun_token on_line part rest t found (lexeme.foreign w e) is longest = absurd (none-some t is)
begun_token on_line part rest t found (lexeme.number {d = d} {ds = ds} all fits) is longest =
    number_begun on_line (d ∷ ds) rest longest t (omega arith) all (digits_no_word d (ds ++ rest) (first_digit d ds all)) (small_token (d ∷ ds) fits ∙ is)
begun_token on_line part rest t found (lexeme.great all large) is longest = absurd (none-some t is)
begun_token on_line part rest t found (lexeme.symbol s counts) is longest =
    symbol_begun on_line (symbol_text s) rest longest s refl counts ∙ ap (λ u. Some (u, length (symbol_text s))) (same_Some (token.Symbol s) t is)
begun_token on_line part rest t found (lexeme.line-comment e) is longest = absurd (none-some t is)
begun_token on_line part rest t found (lexeme.comment e) is longest = absurd (none-some t is)

-- the token with which a text begins is found, with its length
pub begins_found : (on_line : Bool) (part rest : List ℕ) (t : Token) → Begins on_line part rest t → token_at on_line (part ++ rest) ≡ Some (t, length part)
begins_found on_line part rest t b = begun_token on_line part rest t (Some t) b.lexeme refl b.longest

-- NAMES

four : (a b c d : Bool) → (a && b && c && d) ≡ true → (a ≡ true) × (b ≡ true) × (c ≡ true) × (d ≡ true)
four true true true true h = (refl, refl, refl, refl)
four true true true false h = absurd (false≢true h)
four true true false d h = absurd (false≢true h)
four true false c d h = absurd (false≢true h)
four false b c d h = absurd (false≢true h)

all_four : (a b c d : Bool) → a ≡ true → b ≡ true → c ≡ true → d ≡ true → (a && b && c && d) ≡ true
all_four a b c d h k l o = rw (h, k, l, o) refl

none_is : (o : Option Word) → is_none o ≡ true → o ≡ None
none_is None h = refl
none_is (Some w) h = absurd (false≢true h)

same_numbers : (n m : ℕ) → nat_eq n m ≡ true → n ≡ m
same_numbers n m h = grind (arith, nat_tests)

are_same : (n m : ℕ) → n ≡ m → nat_eq n m ≡ true
are_same n m h = grind (arith, nat_tests)

pub name_is : (x : List ℕ) → is_name x ≡ true → IsName x
unfolding is_name
name_is x h =
    let parts = four _ _ _ _ h in
    let has : 0 < length x = at_least_one (length x) parts.0 in
    let long : word_len x ≡ length x = same_numbers (word_len x) (length x) parts.1 in
    let word : IsWord x = subst IsWord (take_all (word_len x) x (omega arith)) (word_front x (omega arith)) in
    (word, reserved_apart x (none_is (reserved_word x) parts.2), not-true (is_foreign x) parts.3)

pub is_name_of : (x : List ℕ) → IsName x → is_name x ≡ true
unfolding is_name
is_name_of x is =
    let most = word_len_within x in
    let least : length x ≤ word_len x = subst (λ y. length x ≤ word_len y) (append-nil x) (word_within x [] is.0) in
    all_four _ _ _ _ (is_positive (length x) (word_has_byte x is.0)) (are_same (word_len x) (length x) (omega arith)) (ap is_none (no_reserved x is.1 (reserved_word x) refl)) (ap not is.2)
