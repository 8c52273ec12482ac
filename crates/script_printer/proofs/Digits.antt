-- The last digit of a number is written behind the others.
use Rattle.script_printer.proofs.Prelude.{◌≡◌, ℕ, ◌+◌, ◌/◌, ◌%◌, ◌^◌, ◌<◌, ◌≤◌, Result, Ok, Err, OnOk, List, [], ◌∷◌, ◌++◌, ap, sym, ◌∙◌, append_assoc, decimal, decimal_step}

pub one_more_digit : {A E : Type 0} (start middle whole : List ℕ) (n : ℕ) (r : Result A E) → 10 ≤ n → n < 2 ^ 64
    → middle ≡ start ++ decimal (n / 10) → OnOk r (whole ≡ middle ++ (48 + n % 10) ∷ []) → OnOk r (whole ≡ start ++ decimal n)
one_more_digit start middle whole n (Ok x) ten small first second =
    second ∙ ap (λ l. l ++ (48 + n % 10) ∷ []) first ∙ append_assoc start (decimal (n / 10)) ((48 + n % 10) ∷ [])
    ∙ ap (λ l. start ++ l) (sym (decimal_step n ten small))
one_more_digit start middle whole n (Err e) ten small first second = second
