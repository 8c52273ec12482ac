-- Numbers before a byte that is no digit.
use Rattle.print_laws.proofs.Prelude.{◌≡◌, ℕ, ◌+◌, ◌-◌, ◌*◌, ◌≤◌, ◌<◌, Bool, true, false, List, [], ◌∷◌, ◌++◌, length, take, codes, refl, ap, ◌∙◌, arith, cond-true, cond-false, and_left, decimal_is_IsNumeral, digit_value_digit, digit_from_value, take-append_seam, drop-append_seam, digit_value, AllDigits, digits_value_after, bytes_eq, list_all, prefix_len, Some, nat_eq, nat_lt, nat_le, decimal, Place, is_space, line_front, continued, digits_len, is_digit, number_token, token_at, with_len, is_letter, word_len, begins_assertion, front, is_blank, one, one_at, and_first, and_second}
use Rattle.csp_text.specs.declared.token.Token.TheVariants as token
use Rattle.print_laws.proofs.Names.{prefix_stops}

-- what is known of the digits of a number
pub record AreDigits (n : ℕ) (ds : List ℕ) : Type 0 where
  pub long : 0 < length ds
  pub digits : list_all is_digit ds ≡ true
  pub value : continued 0 ds ≡ n

is_a_digit : (c : ℕ) → digit_value c < 10 → is_digit c ≡ true
is_a_digit c h = let k = digit_from_value c h in grind (arith, k)

all_digits : (ds : List ℕ) → AllDigits 10 ds → list_all is_digit ds ≡ true
all_digits [] h = refl
all_digits (c ∷ ds) h = rw (is_a_digit c h.0) (all_digits ds h.1)

same_value : (n : ℕ) (ds : List ℕ) → AllDigits 10 ds → continued n ds ≡ digits_value_after 10 n ds
same_value n [] h = refl
same_value n (c ∷ ds) h =
    let value = digit_value_digit c (digit_from_value c h.0) in
    let step : n * 10 + (c - 48) ≡ n * 10 + digit_value c = omega (arith, value) in
    ap (λ m. continued m ds) step ∙ same_value (n * 10 + digit_value c) ds h.1

pub decimal_digits : (n : ℕ) → n ≤ 1000000 → AreDigits n (decimal n)
decimal_digits n h =
    let is = decimal_is_IsNumeral n (omega arith) in
    record { long = is.0.0; digits = all_digits (decimal n) is.0.1; value = same_value 0 (decimal n) is.0.1 ∙ is.1 }

all_front : (p : ℕ → Bool) (ds : List ℕ) → list_all p ds ≡ true → prefix_len p ds ≡ length ds
all_front p [] h = refl
all_front p (c ∷ ds) h =
    let e : prefix_len p ds ≡ length ds = all_front p ds (and_second (p c) (list_all p ds) h) in
    let longer : 1 + prefix_len p ds ≡ length (c ∷ ds) = omega arith in
    cond-true (p c) (1 + prefix_len p ds) 0 (and_first (p c) (list_all p ds) h) ∙ longer

digit_no_letter : (c : ℕ) → is_digit c ≡ true → is_letter c ≡ false
digit_no_letter c h = grind (arith)

no_word : (c : ℕ) (l : List ℕ) → is_digit c ≡ true → word_len (c ∷ l) ≡ 0
unfolding word_len
no_word c l h = cond-false _ _ _ (digit_no_letter c h)

digits_stop : (c b : ℕ) (ds r : List ℕ) → list_all is_digit (c ∷ ds) ≡ true → is_digit b ≡ false → digits_len (c ∷ ds ++ b ∷ r) ≡ length (c ∷ ds)
unfolding digits_len
digits_stop c b ds r h k = prefix_stops is_digit (c ∷ ds) r b k ∙ all_front is_digit (c ∷ ds) h

small_enough : (n : ℕ) → n ≤ 1000000 → nat_le n 1000000 ≡ true
small_enough n h = grind (arith)

number_is : (n : ℕ) (ds : List ℕ) → continued 0 ds ≡ n → n ≤ 1000000 → number_token ds ≡ Some (token.Num n)
unfolding number_token
number_is n ds e h = cond-true _ _ _ (ap (λ m. nat_le m 1000000) e ∙ small_enough n h) ∙ ap (λ m. Some (token.Num m)) e

positive : (n : ℕ) → 0 < n → nat_lt 0 n ≡ true
positive n h = grind (arith)

pub number_at : (l : Bool) (n c b : ℕ) (ds r : List ℕ) → AreDigits n (c ∷ ds) → n ≤ 1000000 → is_digit b ≡ false → token_at l (c ∷ ds ++ b ∷ r) ≡ Some (token.Num n, length (c ∷ ds))
unfolding token_at
number_at l n c b ds r is small h =
    let none : word_len (c ∷ ds ++ b ∷ r) ≡ 0 = no_word c (ds ++ b ∷ r) (and_first (is_digit c) (list_all is_digit ds) is.digits) in
    let len : digits_len (c ∷ ds ++ b ∷ r) ≡ length (c ∷ ds) = digits_stop c b ds r is.digits h in
    cond-false _ _ _ (ap (nat_lt 0) none)
    ∙ cond-true _ _ _ (ap (nat_lt 0) len ∙ positive (length (c ∷ ds)) is.long)
    ∙ ap (λ k. with_len k (number_token (take k (c ∷ ds ++ b ∷ r)))) len
    ∙ ap (λ y. with_len (length (c ∷ ds)) (number_token y)) (take-append_seam (c ∷ ds) (b ∷ r))
    ∙ ap (with_len (length (c ∷ ds))) (number_is n (c ∷ ds) is.value small)

digit_no_blank : (c : ℕ) → is_digit c ≡ true → is_blank c ≡ false
digit_no_blank c h = grind (arith)

digit_no_space : (c : ℕ) → is_digit c ≡ true → is_space c ≡ false
digit_no_space c h = grind (arith)

digit_no_dash : (c : ℕ) → is_digit c ≡ true → nat_eq 45 c ≡ false
digit_no_dash c h = grind (arith)

digit_no_brace : (c : ℕ) → is_digit c ≡ true → nat_eq 123 c ≡ false
digit_no_brace c h = grind (arith)

no_assertion : (c : ℕ) (l : List ℕ) → is_digit c ≡ true → begins_assertion (c ∷ l) ≡ false
unfolding begins_assertion
no_assertion c l h = ap (λ n. bytes_eq (take n (c ∷ l)) (codes "assert")) (no_word c l h)

digits_front : (n : ℕ) (ds : List ℕ) (at : Place) (b : ℕ) (r : List ℕ) → AreDigits n ds → n ≤ 1000000 → is_digit b ≡ false → front at (ds ++ b ∷ r) ≡ Some (one (token.Num n) at (b ∷ r))
unfolding front
digits_front n [] at b r is small h = absurd (omega (arith, is.long))
digits_front n (c ∷ ds) at b r is small h =
    let digit : is_digit c ≡ true = and_first (is_digit c) (list_all is_digit ds) is.digits in
    cond-false _ _ _ (digit_no_blank c digit)
    ∙ cond-false _ _ _ (and_left _ _ (digit_no_dash c digit))
    ∙ cond-false _ _ _ (and_left _ _ (digit_no_brace c digit))
    ∙ cond-false _ _ _ (no_assertion c (ds ++ b ∷ r) digit)
    ∙ ap (one_at at (c ∷ ds ++ b ∷ r)) (number_at false n c b ds r is small h)
    ∙ ap (λ l. Some (one (token.Num n) at l)) (drop-append_seam (c ∷ ds) (b ∷ r))

digits_line_front : (n : ℕ) (ds : List ℕ) (at : Place) (b : ℕ) (r : List ℕ) → AreDigits n ds → n ≤ 1000000 → is_digit b ≡ false → line_front at (ds ++ b ∷ r) ≡ Some (one (token.Num n) at (b ∷ r))
unfolding line_front
digits_line_front n [] at b r is small h = absurd (omega (arith, is.long))
digits_line_front n (c ∷ ds) at b r is small h =
    cond-false _ _ _ (digit_no_space c (and_first (is_digit c) (list_all is_digit ds) is.digits))
    ∙ ap (one_at at (c ∷ ds ++ b ∷ r)) (number_at true n c b ds r is small h)
    ∙ ap (λ l. Some (one (token.Num n) at l)) (drop-append_seam (c ∷ ds) (b ∷ r))

pub number_front : (n : ℕ) (at : Place) (b : ℕ) (r : List ℕ) → n ≤ 1000000 → is_digit b ≡ false → front at (decimal n ++ b ∷ r) ≡ Some (one (token.Num n) at (b ∷ r))
number_front n at b r small h = digits_front n (decimal n) at b r (decimal_digits n small) small h

pub number_line_front : (n : ℕ) (at : Place) (b : ℕ) (r : List ℕ) → n ≤ 1000000 → is_digit b ≡ false → line_front at (decimal n ++ b ∷ r) ≡ Some (one (token.Num n) at (b ∷ r))
number_line_front n at b r small h = digits_line_front n (decimal n) at b r (decimal_digits n small) small h
