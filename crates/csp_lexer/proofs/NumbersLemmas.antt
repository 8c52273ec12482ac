-- Numbers that are read digit by digit.
use Rattle.csp_lexer.proofs.Prelude.{◌≡◌, ℕ, ◌+◌, ◌-◌, ◌*◌, ◌<◌, ◌≤◌, true, false, List, [], ◌∷◌, length, drop, get_or, drop-cons, add-one, refl, sym, ap, ◌∙◌, arith, cond-true, cond-false, nat_tests, drop_of_length-le, Some, None, nat_le, continued, number_token, Num}

-- the next digit
pub continued_step : (n i : ℕ) (digits : List ℕ) → i < length digits → continued n (drop i digits) ≡ continued (n * 10 + (get_or digits i 0 - 48)) (drop (i + 1) digits)
continued_step n i digits within = rw (add-one, drop-cons digits i 0) refl

-- digits never make a number smaller
pub continued_grows : (n : ℕ) (digits : List ℕ) → n ≤ continued n digits
continued_grows n [] = omega arith
continued_grows n (d ∷ digits) = let more = continued_grows (n * 10 + (d - 48)) digits in omega arith

pub number_fits : (digits : List ℕ) (n i : ℕ) → length digits ≤ i → n ≤ 1000000 → continued n (drop i digits) ≡ continued 0 digits → number_token digits ≡ Some (Num n)
unfolding number_token
number_fits digits n i at_end small is =
    let n_is : n ≡ continued 0 digits = ap (continued n) (sym (drop_of_length-le digits at_end)) ∙ is in
    let test : nat_le (continued 0 digits) 1000000 ≡ true = grind (arith, nat_tests) in
    cond-true _ _ _ test ∙ ap (λ m. Some (Num m)) (sym n_is)

pub number_is_too_great : (digits rest : List ℕ) (n : ℕ) → 1000000 < n → continued n rest ≡ continued 0 digits → number_token digits ≡ None
unfolding number_token
number_is_too_great digits rest n great is =
    let grows = continued_grows n rest in
    let test : nat_le (continued 0 digits) 1000000 ≡ false = grind (arith, nat_tests) in
    cond-false _ _ _ test
