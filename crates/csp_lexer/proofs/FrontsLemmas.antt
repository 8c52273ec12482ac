-- Words and numbers at the front of a text: what is found is one, and none that stands there is longer.
use Rattle.csp_lexer.proofs.Prelude.{◌≡◌, ℕ, zero, suc, ◌+◌, ◌<◌, ◌≤◌, Bool, true, false, List, [], ◌∷◌, ◌++◌, length, take, drop, refl, sym, ap, ◌∙◌, subst, append_assoc, length-append, length-drop, arith, and_parts, cond-true, cond-false, list_all, prefix_len, prefix_len-le-length, IsWord, digits_len, is_digit, is_letter, is_name_byte, is_prime, word_len, word_rest_len}
use Rattle.csp_lexer.specs.Words as form

-- FRONTS THAT PASS A TEST

longer : (p : ℕ → Bool) (b : ℕ) (y : List ℕ) → p b ≡ true → prefix_len p (b ∷ y) ≡ suc (prefix_len p y)
longer p b y e = let next : 1 + prefix_len p y ≡ suc (prefix_len p y) = omega arith in cond-true (p b) (1 + prefix_len p y) 0 e ∙ next

pub all_within : (p : ℕ → Bool) (x y : List ℕ) → list_all p x ≡ true → length x ≤ prefix_len p (x ++ y)
all_within p [] y h = omega arith
all_within p (b ∷ x) y h =
    let both = and_parts (p b) (list_all p x) h in
    let more = all_within p x y both.1 in
    let len = longer p b (x ++ y) both.0 in
    omega (arith, len, more)

front_at : (p : ℕ → Bool) (b : ℕ) (y : List ℕ) (t : Bool) → p b ≡ t → list_all p (take (prefix_len p y) y) ≡ true → list_all p (take (prefix_len p (b ∷ y)) (b ∷ y)) ≡ true
front_at p b y true e h = ap (λ n. list_all p (take n (b ∷ y))) (longer p b y e) ∙ rw e h
front_at p b y false e h = ap (λ n. list_all p (take n (b ∷ y))) (cond-false (p b) (1 + prefix_len p y) 0 e)

pub front_passes_all : (p : ℕ → Bool) (y : List ℕ) → list_all p (take (prefix_len p y) y) ≡ true
front_passes_all p [] = refl
front_passes_all p (b ∷ y) = front_at p b y (p b) refl (front_passes_all p y)

-- WORDS

pub word_len_is : (c : ℕ) (y : List ℕ) → is_letter c ≡ true → word_len (c ∷ y) ≡ 1 + word_rest_len y
unfolding word_len
word_len_is c y h = cond-true _ _ _ h

pub no_word : (c : ℕ) (y : List ℕ) → is_letter c ≡ false → word_len (c ∷ y) ≡ 0
unfolding word_len
no_word c y h = cond-false _ _ _ h

pub no_text : word_len [] ≡ 0
unfolding word_len
no_text = refl

pub word_rest_more : (b : ℕ) (y : List ℕ) → is_name_byte b ≡ true → word_rest_len (b ∷ y) ≡ 1 + word_rest_len y
unfolding word_rest_len
word_rest_more b y e =
    let n : ℕ = prefix_len is_name_byte y in
    let last : suc n + prefix_len is_prime (drop n y) ≡ 1 + (n + prefix_len is_prime (drop n y)) = omega arith in
    ap (λ k. k + prefix_len is_prime (drop k (b ∷ y))) (longer is_name_byte b y e) ∙ last

pub word_rest_primes : (b : ℕ) (y : List ℕ) → is_name_byte b ≡ false → word_rest_len (b ∷ y) ≡ prefix_len is_prime (b ∷ y)
unfolding word_rest_len
word_rest_primes b y e =
    let last : 0 + prefix_len is_prime (b ∷ y) ≡ prefix_len is_prime (b ∷ y) = omega arith in
    ap (λ k. k + prefix_len is_prime (drop k (b ∷ y))) (cond-false (is_name_byte b) (1 + prefix_len is_name_byte y) 0 e) ∙ last

pub word_rest_within : (y : List ℕ) → word_rest_len y ≤ length y
unfolding word_rest_len
word_rest_within y =
    let n : ℕ = prefix_len is_name_byte y in
    omega (arith, prefix_len-le-length is_name_byte y, prefix_len-le-length is_prime (drop n y), length-drop n y)

names_then : (name y : List ℕ) → list_all is_name_byte name ≡ true → word_rest_len (name ++ y) ≡ length name + word_rest_len y
names_then [] y h = omega arith
names_then (b ∷ name) y h =
    let both = and_parts (is_name_byte b) (list_all is_name_byte name) h in
    let here = word_rest_more b (name ++ y) both.0 in
    let more = names_then name y both.1 in
    omega (arith, here, more)

no_prime : (b : ℕ) → is_name_byte b ≡ true → is_prime b ≡ false
no_prime b h = grind (arith)

primes_at : (b : ℕ) (y : List ℕ) (t : Bool) → is_name_byte b ≡ t → prefix_len is_prime (b ∷ y) ≤ word_rest_len (b ∷ y)
primes_at b y true e = let none : prefix_len is_prime (b ∷ y) ≡ 0 = cond-false (is_prime b) (1 + prefix_len is_prime y) 0 (no_prime b e) in omega (arith, none)
primes_at b y false e = omega (arith, word_rest_primes b y e)

primes_within : (y : List ℕ) → prefix_len is_prime y ≤ word_rest_len y
primes_within [] = omega arith
primes_within (b ∷ y) = primes_at b y (is_name_byte b) refl

-- no word that stands at the front is longer
pub word_within : (part rest : List ℕ) → IsWord part → length part ≤ word_len (part ++ rest)
word_within part rest (form.word {b = b} name primes letter names ends) =
    let here = word_len_is b ((name ++ primes) ++ rest) letter in
    let same : word_rest_len ((name ++ primes) ++ rest) ≡ word_rest_len (name ++ (primes ++ rest)) = ap word_rest_len (append_assoc name primes rest) in
    let behind = names_then name (primes ++ rest) names in
    let most = primes_within (primes ++ rest) in
    let all = all_within is_prime primes rest ends in
    omega (arith, here, same, behind, most, all, length-append name primes)

pub word_has_byte : (x : List ℕ) → IsWord x → 0 < length x
word_has_byte x (form.word name primes letter names ends) = omega arith

take_sum : (n m : ℕ) (y : List ℕ) → take (n + m) y ≡ take n y ++ take m (drop n y)
take_sum zero m y = let same : 0 + m ≡ m = omega arith in ap (λ k. take k y) same
take_sum (suc n) m [] = let same : suc n + m ≡ suc (n + m) = omega arith in ap (λ k. take {A = ℕ} k []) same ∙ none m
  where
    none : (m : ℕ) → [] ≡ take {A = ℕ} m []
    none zero = refl
    none (suc m) = refl
take_sum (suc n) m (b ∷ y) = let same : suc n + m ≡ suc (n + m) = omega arith in ap (λ k. take k (b ∷ y)) same ∙ ap (λ l. b ∷ l) (take_sum n m y)

word_front_at : (b : ℕ) (y : List ℕ) → is_letter b ≡ true → IsWord (b ∷ take (word_rest_len y) y)
unfolding word_rest_len
word_front_at b y letter =
    let n : ℕ = prefix_len is_name_byte y in
    let m : ℕ = prefix_len is_prime (drop n y) in
    let is : IsWord (b ∷ take n y ++ take m (drop n y)) = form.word (take n y) (take m (drop n y)) letter (front_passes_all is_name_byte y) (front_passes_all is_prime (drop n y)) in
    subst (λ l. IsWord (b ∷ l)) (sym (take_sum n m y)) is

-- what is found is a word
pub word_front : (text : List ℕ) → 0 < word_len text → IsWord (take (word_len text) text)
word_front [] has = absurd (omega (arith, no_text))
word_front (b ∷ y) has = at (is_letter b) refl
  where
    at : (t : Bool) → is_letter b ≡ t → IsWord (take (word_len (b ∷ y)) (b ∷ y))
    at true letter =
        let next : 1 + word_rest_len y ≡ suc (word_rest_len y) = omega arith in
        subst (λ n. IsWord (take n (b ∷ y))) (sym (word_len_is b y letter ∙ next)) (word_front_at b y letter)
    at false letter = absurd (omega (arith, no_word b y letter))

pub word_len_within : (text : List ℕ) → word_len text ≤ length text
word_len_within [] = omega (arith, no_text)
word_len_within (b ∷ y) = at (is_letter b) refl
  where
    at : (t : Bool) → is_letter b ≡ t → word_len (b ∷ y) ≤ length (b ∷ y)
    at true letter = omega (arith, word_len_is b y letter, word_rest_within y)
    at false letter = omega (arith, no_word b y letter)

-- NUMBERS

pub digits_within : (part rest : List ℕ) → list_all is_digit part ≡ true → length part ≤ digits_len (part ++ rest)
unfolding digits_len
digits_within part rest h = all_within is_digit part rest h

pub digits_front : (text : List ℕ) → list_all is_digit (take (digits_len text) text) ≡ true
unfolding digits_len
digits_front text = front_passes_all is_digit text

pub digits_len_within : (text : List ℕ) → digits_len text ≤ length text
unfolding digits_len
digits_len_within text = prefix_len-le-length is_digit text

no_letter : (b : ℕ) → is_digit b ≡ true → is_letter b ≡ false
no_letter b h = grind (arith)

-- no word begins with a digit
pub digits_no_word : (b : ℕ) (y : List ℕ) → is_digit b ≡ true → word_len (b ∷ y) ≡ 0
digits_no_word b y h = no_word b y (no_letter b h)

-- what begins with a word begins with no number
pub word_no_digits : (text : List ℕ) → 0 < word_len text → digits_len text ≡ 0
unfolding digits_len
word_no_digits [] has = refl
word_no_digits (b ∷ y) has = at (is_digit b) refl
  where
    at : (t : Bool) → is_digit b ≡ t → prefix_len is_digit (b ∷ y) ≡ 0
    at true h = absurd (omega (arith, digits_no_word b y h))
    at false h = cond-false (is_digit b) (1 + prefix_len is_digit y) 0 h
