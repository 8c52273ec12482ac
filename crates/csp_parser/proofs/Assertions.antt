-- Assertions, step by step.
use Rattle.csp_parser.proofs.Prelude.{◌≡◌, Bool, true, false, Some, None, List, ap, ◌∙◌, ℕ, Token, and_then, name_that, sure, named}

-- NAMES THAT ARE EXPECTED

pub passing : (P : List ℕ → Bool) (ts : List Token) {us : List Token} {x : List ℕ} → named ts ≡ Some (x, us) → P x ≡ true → name_that P ts ≡ Some us
passing P ts {us} {x} e h = ap (λ o. and_then o λ y. and_then (sure (P y.0)) λ _. Some y.1) e ∙ ap (λ t. and_then (sure t) λ _. Some us) h

pub not_passing : (P : List ℕ → Bool) (ts : List Token) {us : List Token} {x : List ℕ} → named ts ≡ Some (x, us) → P x ≡ false → name_that P ts ≡ None
not_passing P ts {us} {x} e h = ap (λ o. and_then o λ y. and_then (sure (P y.0)) λ _. Some y.1) e ∙ ap (λ t. and_then (sure t) λ _. Some us) h

pub unnamed : (P : List ℕ → Bool) (ts : List Token) → named ts ≡ None → name_that P ts ≡ None
unnamed P ts e = ap (λ o. and_then o λ y. and_then (sure (P y.0)) λ _. Some y.1) e
