-- The text of a trial has at most as many bytes as a script may have.
use Rattle.dl_top.proofs.Prelude.{◌≡◌, ◌≤◌, ◌<◌, ◌+◌, ◌^◌, ℕ, List, ◌++◌, ◌∷◌, [], length, codes, sym, ap, subst, ◌∙◌, arith, length-decimal-le, length-append, Trial, MOST_BYTES, trial_text, decimal, lines_of, Family, Chain, Forks, Mesh}

-- the lines of each family are few
lines_are_short : (f : Family) → length (lines_of f) ≤ 1000
lines_are_short Forks = omega arith
lines_are_short Chain = omega arith
lines_are_short Mesh = omega arith

digits_are_short : (n : ℕ) → n < 2 ^ 32 → length (decimal n) ≤ 10
digits_are_short n small = let less : n < 10 ^ 10 = omega arith in let far : n < 2 ^ 64 = omega arith in length-decimal-le 10 n (omega arith) less far

-- the first line and the others
long : (digits lines : List ℕ) → length (((codes "N = " ++ digits) ++ 10 ∷ []) ++ lines) ≡ 4 + length digits + 1 + length lines
long digits lines =
    length-append ((codes "N = " ++ digits) ++ 10 ∷ []) lines
    ∙ ap (λ n. n + length lines) (length-append (codes "N = " ++ digits) (10 ∷ []) ∙ ap (λ n. n + 1) (length-append (codes "N = ") digits))

within : (whole digits lines : ℕ) → whole ≡ 4 + digits + 1 + lines → digits ≤ 10 → lines ≤ 1000 → whole ≤ MOST_BYTES
within whole digits lines is few few_lines = omega arith

-- the text of a trial
pub trial_is_short : (trial : Trial) (text : List ℕ) → text ≡ trial_text trial → trial.size < 2 ^ 32 → length text ≤ MOST_BYTES
trial_is_short trial text same small =
    subst (λ (t : List ℕ). length t ≤ MOST_BYTES) (sym same)
    (within (length (trial_text trial)) (length (decimal trial.size)) (length (lines_of trial.family)) (long (decimal trial.size) (lines_of trial.family))
    (digits_are_short trial.size small) (lines_are_short trial.family))
