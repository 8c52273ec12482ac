-- The rest of an assertion's line: a token before a space or a line feed is part of it.
use Rattle.print_laws.proofs.Prelude.{◌≡◌, ℕ, suc, ◌+◌, ◌≤◌, Bool, true, false, ◌||◌, List, [], ◌∷◌, ◌++◌, length, refl, sym, ◌∙◌, arith, cond-false, and_left, decimal, nat_eq, not, cond, list_all, prefix_len, symbol_text, word_text, Token, Word, ends_line, rest_len, is_letter, is_name_byte, is_prime, word_rest_len, is_digit, token_text, FitsLine, IsName, and_first, and_second}
use Rattle.csp_text.specs.declared.token.Symbol.{Symbol}
use Rattle.csp_text.specs.declared.token.Token.TheVariants as token
use Rattle.csp_text.specs.declared.token.Word.TheVariants as word
use Rattle.csp_text.specs.declared.token.Symbol.TheVariants as symbol
use Rattle.csp_lexer.proofs.FrontsLemmas.{word_len_is, word_rest_more, word_rest_primes}
use Rattle.print_laws.proofs.Names.{begins_with_letter, name_parts}
use Rattle.print_laws.proofs.Numbers.{decimal_digits}

-- the byte ends no line, whatever follows it
abbrev pub is_quiet : ℕ → Bool
is_quiet b = not (nat_eq b 10 || nat_eq b 45 || nat_eq b 123)

-- what follows a token
pub data Gap : List ℕ → Type 0 where
  space : {r : List ℕ} → Gap (32 ∷ r)
  feed : {r : List ℕ} → Gap (10 ∷ r)

pub rest_step : (b : ℕ) (text : List ℕ) → ends_line (b ∷ text) ≡ false → rest_len (b ∷ text) ≡ 1 + rest_len text
unfolding rest_len
rest_step b text h = cond-false _ _ _ h

pub rest_ends : (text : List ℕ) → rest_len (10 ∷ text) ≡ 0
unfolding rest_len
rest_ends text = refl

no_feed : (b : ℕ) → is_quiet b ≡ true → nat_eq 10 b ≡ false
no_feed b h = grind (arith)

no_dash : (b : ℕ) → is_quiet b ≡ true → nat_eq 45 b ≡ false
no_dash b h = grind (arith)

no_brace : (b : ℕ) → is_quiet b ≡ true → nat_eq 123 b ≡ false
no_brace b h = grind (arith)

none_of_three : (a b c : Bool) → a ≡ false → b ≡ false → c ≡ false → (a || b || c) ≡ false
none_of_three a b c h k l = rw (h, k, l) refl

pub quiet_goes_on : (b : ℕ) (text : List ℕ) → is_quiet b ≡ true → ends_line (b ∷ text) ≡ false
quiet_goes_on b text h = none_of_three _ _ _ (and_left _ _ (no_feed b h)) (and_left _ _ (no_dash b h)) (and_left _ _ (no_brace b h))

pub quiet_rest : (x text : List ℕ) → list_all is_quiet x ≡ true → rest_len (x ++ text) ≡ length x + rest_len text
quiet_rest [] text h = omega arith
quiet_rest (b ∷ x) text h =
    let more = quiet_rest x text (and_second (is_quiet b) (list_all is_quiet x) h) in
    let here : rest_len (b ∷ x ++ text) ≡ 1 + rest_len (x ++ text) = rest_step b (x ++ text) (quiet_goes_on b (x ++ text) (and_first (is_quiet b) (list_all is_quiet x) h)) in
    omega (arith, here, more)

-- names

pub weaker : (p q : ℕ → Bool) → ((b : ℕ) → p b ≡ true → q b ≡ true) → (x : List ℕ) → list_all p x ≡ true → list_all q x ≡ true
weaker p q f [] h = refl
weaker p q f (b ∷ x) h = rw (f b (and_first (p b) (list_all p x) h)) (weaker p q f x (and_second (p b) (list_all p x) h))

-- a byte of a name
abbrev pub is_word_byte : ℕ → Bool
is_word_byte b = is_name_byte b || is_prime b

by_name_byte : (b : ℕ) → is_name_byte b ≡ true → is_word_byte b ≡ true
by_name_byte b h = rw h refl

by_prime : (b : ℕ) → is_prime b ≡ true → is_word_byte b ≡ true
by_prime b h = grind (arith)

by_letter : (b : ℕ) → is_letter b ≡ true → is_word_byte b ≡ true
by_letter b h = rw h refl

quiet_word_byte : (b : ℕ) → is_word_byte b ≡ true → is_quiet b ≡ true
quiet_word_byte b h = grind (arith)

quiet_digit : (b : ℕ) → is_digit b ≡ true → is_quiet b ≡ true
quiet_digit b h = grind (arith)

prime_first : (t : Bool) (n m : ℕ) → cond t (1 + n) 0 ≡ suc m → (t ≡ true) × (n ≡ m)
prime_first true n m e = (refl, omega arith)
prime_first false n m e = absurd (omega arith)

primes_pass : (y : List ℕ) → prefix_len is_prime y ≡ length y → list_all is_word_byte y ≡ true
primes_pass [] h = refl
primes_pass (b ∷ y) h =
    let first = prime_first (is_prime b) (prefix_len is_prime y) (length y) (h ∙ omega arith) in
    rw (by_prime b first.0) (primes_pass y first.1)

tail_passes_at : (b : ℕ) (y : List ℕ) (t : Bool) → is_name_byte b ≡ t → (word_rest_len y ≡ length y → list_all is_word_byte y ≡ true) → word_rest_len (b ∷ y) ≡ length (b ∷ y) →
    list_all is_word_byte (b ∷ y) ≡ true
tail_passes_at b y true e more h =
    let step = word_rest_more b y e in
    let len : word_rest_len y ≡ length y = omega (arith, h, step) in
    rw (by_name_byte b e) (more len)
tail_passes_at b y false e more h = primes_pass (b ∷ y) (sym (word_rest_primes b y e) ∙ h)

tail_passes : (y : List ℕ) → word_rest_len y ≡ length y → list_all is_word_byte y ≡ true
tail_passes [] h = refl
tail_passes (b ∷ y) h = tail_passes_at b y (is_name_byte b) refl (tail_passes y) h

pub name_bytes : (x : List ℕ) → IsName x → list_all is_word_byte x ≡ true
name_bytes [] h = refl
name_bytes (c ∷ y) h =
    let whole = (name_parts (c ∷ y) h).whole in
    let letter = begins_with_letter c y whole in
    let step = word_len_is c y letter in
    let len : word_rest_len y ≡ length y = omega (arith, whole, step) in
    rw (by_letter c letter) (tail_passes y len)

quiet_name : (x : List ℕ) → IsName x → list_all is_quiet x ≡ true
quiet_name x h = weaker is_word_byte is_quiet quiet_word_byte x (name_bytes x h)

quiet_number : (n : ℕ) → n ≤ 1000000 → list_all is_quiet (decimal n) ≡ true
quiet_number n h = weaker is_digit is_quiet quiet_digit (decimal n) (decimal_digits n h).digits

quiet_word : (w : Word) → list_all is_quiet (word_text w) ≡ true
quiet_word word.And = refl
quiet_word _ = refl

quiet_behind : (b : ℕ) (x text : List ℕ) → ends_line (b ∷ x ++ text) ≡ false → list_all is_quiet x ≡ true → rest_len (b ∷ x ++ text) ≡ length (b ∷ x) + rest_len text
quiet_behind b x text e h =
    let here = rest_step b (x ++ text) e in
    let more = quiet_rest x text h in
    omega (arith, here, more)

symbol_rest : (s : Symbol) {text : List ℕ} → Gap text → rest_len (symbol_text s ++ text) ≡ length (symbol_text s) + rest_len text
symbol_rest symbol.Arrow (space {r = r}) = quiet_behind 45 (62 ∷ []) (32 ∷ r) refl refl
symbol_rest symbol.Arrow (feed {r = r}) = quiet_behind 45 (62 ∷ []) (10 ∷ r) refl refl
symbol_rest symbol.OpenProduct (space {r = r}) = quiet_behind 123 (124 ∷ []) (32 ∷ r) refl refl
symbol_rest symbol.OpenProduct (feed {r = r}) = quiet_behind 123 (124 ∷ []) (10 ∷ r) refl refl
symbol_rest symbol.LeftArrow (space {r = r}) = let more = quiet_behind 45 [] (32 ∷ r) refl refl in let here = rest_step 60 (45 ∷ 32 ∷ r) refl in omega (arith, here, more)
symbol_rest symbol.LeftArrow (feed {r = r}) = let more = quiet_behind 45 [] (10 ∷ r) refl refl in let here = rest_step 60 (45 ∷ 10 ∷ r) refl in omega (arith, here, more)
symbol_rest symbol.Minus (space {r = r}) = quiet_behind 45 ([]) (32 ∷ r) refl refl
symbol_rest symbol.Minus (feed {r = r}) = quiet_behind 45 ([]) (10 ∷ r) refl refl
symbol_rest symbol.OpenBrace (space {r = r}) = quiet_behind 123 ([]) (32 ∷ r) refl refl
symbol_rest symbol.OpenBrace (feed {r = r}) = quiet_behind 123 ([]) (10 ∷ r) refl refl
symbol_rest s {text = text} p = quiet_rest (symbol_text s) text refl

pub token_rest : (t : Token) {text : List ℕ} → FitsLine t → Gap text → rest_len (token_text t ++ text) ≡ length (token_text t) + rest_len text
token_rest (token.Name x) {text = text} f p = quiet_rest x text (quiet_name x f)
token_rest (token.Num n) {text = text} f p = quiet_rest (decimal n) text (quiet_number n f)
token_rest (token.Word w) {text = text} f p = quiet_rest (word_text w) text (quiet_word w)
token_rest (token.Symbol s) f p = symbol_rest s p
token_rest (token.Roles names) f p = absurd f
token_rest (token.Resource names) f p = absurd f
