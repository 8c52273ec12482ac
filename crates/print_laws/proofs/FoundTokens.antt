-- Each token that the lexer finds is well formed.
use Rattle.print_laws.proofs.Prelude.{◌≡◌, ℕ, suc, ◌+◌, ◌≤◌, Bool, true, false, ◌&&◌, List, [], ◌∷◌, length, take, codes, refl, sym, ap, ◌∙◌, arith, cond-true, cond-false, false≢true, length-take-le, Option, Some, None, nat_eq, nat_le, nat_lt, not, is_none, if◌then◌else◌, list_all, prefix_len, starts_with, bytes_eq, and_first, and_second, symbol_text, symbols, words, Token, Word, resource, roles, begins_assertion, longest_symbol, symbol_at, continued, digits_len, number_token, symbol_with_len, token_at, with_len, is_foreign, is_letter, is_name, is_name_byte, is_prime, reserved_word, word_len, word_or_name, word_rest_len, word_token, Fits, FitsLine, IsName, is_single, is_assert}
use Rattle.csp_text.specs.declared.token.Symbol.{Symbol}
use Rattle.csp_text.specs.declared.token.Token.TheVariants as token
use Rattle.csp_text.specs.declared.token.Word.TheVariants as word
use Rattle.csp_text.specs.declared.token.Symbol.TheVariants as symbol
use Rattle.csp_lexer.proofs.FrontsLemmas.{no_text, no_word, word_len_is, word_rest_more, word_rest_primes, word_rest_within}
use Rattle.csp_lexer.proofs.LexemeLemmas.{passes_where_found, reserved_is, single_is}

-- what holds of a value, where there is one
abbrev pub Of : {A : Type 0} → (A → Type 0) → Option A → Type 0
Of P None = Unit {0}
Of P (Some x) = P x

pub of_if : {A : Type 0} (P : A → Type 0) (b : Bool) (x y : Option A) → (b ≡ true → Of P x) → (b ≡ false → Of P y) → Of P (if b then x else y)
of_if P true x y p q = p refl
of_if P false x y p q = q refl

-- the front of a list that passes a test

prefix_of_front : (p : ℕ → Bool) (y : List ℕ) → prefix_len p (take (prefix_len p y) y) ≡ prefix_len p y
prefix_of_front p [] = refl
prefix_of_front p (b ∷ y) = at b y (p b) refl (prefix_of_front p y)
  where
    at : (b : ℕ) (y : List ℕ) (t : Bool) → p b ≡ t → prefix_len p (take (prefix_len p y) y) ≡ prefix_len p y → prefix_len p (take (prefix_len p (b ∷ y)) (b ∷ y)) ≡ prefix_len p (b ∷ y)
    at b y true e h =
        let n : ℕ = prefix_len p y in
        let next : 1 + n ≡ suc n = omega arith in
        let len : prefix_len p (b ∷ y) ≡ suc n = cond-true (p b) (1 + n) 0 e ∙ next in
        let here : prefix_len p (b ∷ take n y) ≡ suc n = cond-true (p b) (1 + prefix_len p (take n y)) 0 e ∙ ap (λ k. 1 + k) h ∙ next in
        ap (λ k. prefix_len p (take k (b ∷ y))) len ∙ here ∙ sym len
    at b y false e h =
        let len : prefix_len p (b ∷ y) ≡ 0 = cond-false (p b) (1 + prefix_len p y) 0 e in
        ap (λ k. prefix_len p (take k (b ∷ y))) len ∙ sym len

word_rest_of_none : word_rest_len [] ≡ 0
unfolding word_rest_len
word_rest_of_none = refl

word_rest_front_at : (b : ℕ) (y : List ℕ) (t : Bool) → is_name_byte b ≡ t → word_rest_len (take (word_rest_len y) y) ≡ word_rest_len y →
    word_rest_len (take (word_rest_len (b ∷ y)) (b ∷ y)) ≡ word_rest_len (b ∷ y)
word_rest_front_at b y true e h =
    let n : ℕ = word_rest_len y in
    let next : 1 + n ≡ suc n = omega arith in
    let len : word_rest_len (b ∷ y) ≡ suc n = word_rest_more b y e ∙ next in
    ap (λ k. word_rest_len (take k (b ∷ y))) len ∙ word_rest_more b (take n y) e ∙ ap (λ k. 1 + k) h ∙ next ∙ sym len
word_rest_front_at b y false e h = primes (is_prime b) refl
  where
    primes : (t : Bool) → is_prime b ≡ t → word_rest_len (take (word_rest_len (b ∷ y)) (b ∷ y)) ≡ word_rest_len (b ∷ y)
    primes true k =
        let n : ℕ = prefix_len is_prime y in
        let next : 1 + n ≡ suc n = omega arith in
        let len : word_rest_len (b ∷ y) ≡ suc n = word_rest_primes b y e ∙ cond-true (is_prime b) (1 + n) 0 k ∙ next in
        let here : word_rest_len (b ∷ take n y) ≡ suc n =
        word_rest_primes b (take n y) e ∙ cond-true (is_prime b) (1 + prefix_len is_prime (take n y)) 0 k ∙ ap (λ m. 1 + m) (prefix_of_front is_prime y) ∙ next in
        ap (λ m. word_rest_len (take m (b ∷ y))) len ∙ here ∙ sym len
    primes false k =
        let len : word_rest_len (b ∷ y) ≡ 0 = word_rest_primes b y e ∙ cond-false (is_prime b) (1 + prefix_len is_prime y) 0 k in
        ap (λ m. word_rest_len (take m (b ∷ y))) len ∙ word_rest_of_none ∙ sym len

word_rest_of_front : (y : List ℕ) → word_rest_len (take (word_rest_len y) y) ≡ word_rest_len y
unfolding word_rest_len
word_rest_of_front [] = refl
word_rest_of_front (b ∷ y) = word_rest_front_at b y (is_name_byte b) refl (word_rest_of_front y)

record IsFront (text : List ℕ) : Type 0 where
  again : word_len (take (word_len text) text) ≡ word_len text
  len : length (take (word_len text) text) ≡ word_len text

front_is : (text : List ℕ) → IsFront text
front_is [] = record { again = ap (λ n. word_len (take n [])) no_text; len = ap (λ n. length (take {A = ℕ} n [])) no_text ∙ sym no_text }
front_is (c ∷ y) = at (is_letter c) refl
  where
    at : (t : Bool) → is_letter c ≡ t → IsFront (c ∷ y)
    at true h =
        let n : ℕ = word_rest_len y in
        let next : 1 + n ≡ suc n = omega arith in
        let is : word_len (c ∷ y) ≡ suc n = word_len_is c y h ∙ next in
        record {
          again = ap (λ k. word_len (take k (c ∷ y))) is ∙ word_len_is c (take n y) h ∙ ap (λ k. 1 + k) (word_rest_of_front y) ∙ next ∙ sym is;
          len = length-take-le (word_len (c ∷ y)) (c ∷ y) (omega (arith, is, word_rest_within y));
        }
    at false h =
        let is : word_len (c ∷ y) ≡ 0 = no_word c y h in
        record { again = ap (λ k. word_len (take k (c ∷ y))) is ∙ no_text ∙ sym is; len = ap (λ k. length (take k (c ∷ y))) is ∙ sym is }

same_nat : (n m : ℕ) → n ≡ m → nat_eq n m ≡ true
same_nat n m e = grind (arith)

all_of : (a b c d : Bool) → a ≡ true → b ≡ true → c ≡ true → d ≡ true → (a && b && c && d) ≡ true
all_of a b c d h k l o = rw (h, k, l, o) refl

-- the front of a text is a name, where it is a word that is not reserved
pub front_name : (text : List ℕ) → nat_lt 0 (word_len text) ≡ true → reserved_word (take (word_len text) text) ≡ None → is_foreign (take (word_len text) text) ≡ false → IsName (take (word_len text) text)
unfolding is_name
front_name text h k l =
    let f = front_is text in
    all_of _ _ _ _ (ap (nat_lt 0) f.len ∙ h) (same_nat _ _ (f.again ∙ sym f.len)) (ap is_none k) (ap not l)

-- the reserved word `assert` is written so

begins : (text : List ℕ) → begins_assertion text ≡ bytes_eq (take (word_len text) text) (codes "assert")
unfolding begins_assertion
begins text = refl

-- a token that fits, and is the word `assert` only where the text begins with it
pub record IsToken (text : List ℕ) (t : Token) : Type 0 where
  pub fits : Fits t
  pub asserts : is_assert t ≡ true → begins_assertion text ≡ true

word_asserts : (text : List ℕ) (w : Word) → reserved_word (take (word_len text) text) ≡ Some w → is_assert (token.Word w) ≡ true → begins_assertion text ≡ true
word_asserts text word.Assert h a = begins text ∙ reserved_is (take (word_len text) text) word.Assert h
word_asserts text _ h a = absurd (false≢true a)

word_token_fits : (text : List ℕ) → nat_lt 0 (word_len text) ≡ true → (o : Option Word) → reserved_word (take (word_len text) text) ≡ o → Of (IsToken text) (word_or_name o (take (word_len text) text))
word_token_fits text h (Some w) e = record { fits = tt; asserts = word_asserts text w e }
word_token_fits text h None e =
    of_if (IsToken text) (is_foreign (take (word_len text) text)) None (Some (token.Name (take (word_len text) text))) (λ f. tt)
    (λ f. record { fits = front_name text h e f; asserts = λ a. absurd (false≢true a) })

of_len : (text : List ℕ) (len : ℕ) (o : Option Token) → Of (IsToken text) o → Of (λ found. IsToken text found.0) (with_len len o)
of_len text len None p = tt
of_len text len (Some t) p = p

fits_million : (n : ℕ) → nat_le n 1000000 ≡ true → n ≤ 1000000
fits_million n h = grind (arith)

number_fits : (text digits : List ℕ) → Of (IsToken text) (number_token digits)
unfolding number_token
number_fits text digits =
    of_if (IsToken text) (nat_le (continued 0 digits) 1000000) (Some (token.Num (continued 0 digits))) None
    (λ h. record { fits = fits_million (continued 0 digits) h; asserts = λ a. absurd (false≢true a) }) (λ h. tt)

symbol_fits : (text : List ℕ) (o : Option Symbol) → Of (λ found. IsToken text found.0) (symbol_with_len o)
symbol_fits text None = tt
symbol_fits text (Some s) = record { fits = tt; asserts = λ a. absurd (false≢true a) }

pub token_fits : (text : List ℕ) → Of (λ found. IsToken text found.0) (token_at false text)
unfolding token_at
token_fits text =
    of_if (λ found. IsToken text found.0) (nat_lt 0 (word_len text)) (with_len (word_len text) (word_token (take (word_len text) text)))
    (if nat_lt 0 (digits_len text) then with_len (digits_len text) (number_token (take (digits_len text) text)) else symbol_with_len (symbol_at false text))
    (λ h. of_len text (word_len text) _ (word_token_fits text h (reserved_word (take (word_len text) text)) refl))
    (λ h. of_if (λ found. IsToken text found.0) (nat_lt 0 (digits_len text)) (with_len (digits_len text) (number_token (take (digits_len text) text))) (symbol_with_len (symbol_at false text))
    (λ k. of_len text (digits_len text) _ (number_fits text (take (digits_len text) text)))
    (λ k. symbol_fits text (symbol_at false text)))

-- the same on the line of an assertion

line_word_fits : (text : List ℕ) → nat_lt 0 (word_len text) ≡ true → (o : Option Word) → reserved_word (take (word_len text) text) ≡ o → Of FitsLine (word_or_name o (take (word_len text) text))
line_word_fits text h (Some w) e = tt
line_word_fits text h None e =
    of_if FitsLine (is_foreign (take (word_len text) text)) None (Some (token.Name (take (word_len text) text))) (λ f. tt) (λ f. front_name text h e f)

line_len_fits : (len : ℕ) (o : Option Token) → Of FitsLine o → Of (λ found. FitsLine found.0) (with_len len o)
line_len_fits len None p = tt
line_len_fits len (Some t) p = p

line_number_fits : (digits : List ℕ) → Of FitsLine (number_token digits)
unfolding number_token
line_number_fits digits =
    of_if FitsLine (nat_le (continued 0 digits) 1000000) (Some (token.Num (continued 0 digits))) None (λ h. fits_million (continued 0 digits) h) (λ h. tt)

line_symbol_fits : (o : Option Symbol) → Of (λ s. is_single s ≡ true) o → Of (λ found. FitsLine found.0) (symbol_with_len o)
line_symbol_fits None p = tt
line_symbol_fits (Some s) p = p

-- the text does not begin with a bracket, so neither does a symbol that it begins with

begins_so : (text : List ℕ) (s : Symbol) → longest_symbol text ≡ Some s → starts_with nat_eq text (symbol_text s) ≡ true
unfolding longest_symbol
begins_so text s h = passes_where_found (λ s. starts_with nat_eq text (symbol_text s)) symbols s h

longest_single : (text : List ℕ) → starts_with nat_eq text (codes "[") ≡ false → starts_with nat_eq text (codes "]") ≡ false → (o : Option Symbol) → longest_symbol text ≡ o → Of (λ s. is_single s ≡ true) o
longest_single text h k None e = tt
longest_single text h k (Some s) e = single_is text s h k (begins_so text s e)

line_symbols : (text : List ℕ) → Of (λ s. is_single s ≡ true) (symbol_at true text)
unfolding symbol_at
line_symbols text =
    of_if (λ s. is_single s ≡ true) (starts_with nat_eq text (codes "[")) (Some symbol.OpenBracket) (if starts_with nat_eq text (codes "]") then Some symbol.CloseBracket else longest_symbol text) (λ h. refl)
    (λ h. of_if (λ s. is_single s ≡ true) (starts_with nat_eq text (codes "]")) (Some symbol.CloseBracket) (longest_symbol text) (λ k. refl) (λ k. longest_single text h k (longest_symbol text) refl))

pub line_token_fits : (text : List ℕ) → Of (λ found. FitsLine found.0) (token_at true text)
unfolding token_at
line_token_fits text =
    of_if (λ found. FitsLine found.0) (nat_lt 0 (word_len text)) (with_len (word_len text) (word_token (take (word_len text) text)))
    (if nat_lt 0 (digits_len text) then with_len (digits_len text) (number_token (take (digits_len text) text)) else symbol_with_len (symbol_at true text))
    (λ h. line_len_fits (word_len text) _ (line_word_fits text h (reserved_word (take (word_len text) text)) refl))
    (λ h. of_if (λ found. FitsLine found.0) (nat_lt 0 (digits_len text)) (with_len (digits_len text) (number_token (take (digits_len text) text))) (symbol_with_len (symbol_at true text))
    (λ k. line_len_fits (digits_len text) _ (line_number_fits (take (digits_len text) text)))
    (λ k. line_symbol_fits (symbol_at true text) (line_symbols text)))

-- annotations

-- words that are names
abbrev pub AreNames : List (List ℕ) → Type 0
AreNames [] = Unit {0}
AreNames (word ∷ words) = IsName word × AreNames words

are_names : (words : List (List ℕ)) → list_all is_name words ≡ true → AreNames words
are_names [] h = tt
are_names (word ∷ words) h = (and_first (is_name word) (list_all is_name words) h, are_names words (and_second (is_name word) (list_all is_name words) h))

-- a token that fits and begins no assertion
abbrev pub IsQuietToken : Token → Type 0
IsQuietToken t = Fits t × (is_assert t ≡ false)

pub roles_fit : (words : List (List ℕ)) → Of IsQuietToken (roles words)
unfolding roles
roles_fit (process ∷ creq ∷ cack ∷ sreq ∷ sack ∷ []) =
    of_if IsQuietToken (list_all is_name (process ∷ creq ∷ cack ∷ sreq ∷ sack ∷ [])) _ None
    (λ h. let n = are_names (process ∷ creq ∷ cack ∷ sreq ∷ sack ∷ []) h in (record { process = n.0; creq = n.1.0; cack = n.1.1.0; sreq = n.1.1.1.0; sack = n.1.1.1.1.0 }, refl)) (λ h. tt)
roles_fit _ = tt

pub resource_fits : (words : List (List ℕ)) → Of IsQuietToken (resource words)
unfolding resource
resource_fits (process ∷ acquire ∷ release ∷ []) =
    of_if IsQuietToken (list_all is_name (process ∷ acquire ∷ release ∷ [])) _ None
    (λ h. let n = are_names (process ∷ acquire ∷ release ∷ []) h in (record { process = n.0; acquire = n.1.0; release = n.1.1.0 }, refl)) (λ h. tt)
resource_fits _ = tt
