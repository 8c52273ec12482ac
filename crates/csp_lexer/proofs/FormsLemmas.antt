-- Steps through the tokens of an assertion's line.
use Rattle.csp_lexer.proofs.Prelude.{◌≡◌, ℕ, zero, suc, ◌<◌, ◌≤◌, List, [], ◌∷◌, length, refl, arith, Option, None, Some, Token, after_closing}

pub none_closes : (n : ℕ) (tokens : List Token) → 0 < n → length tokens ≡ 0 → after_closing n tokens ≡ None
unfolding after_closing
none_closes zero tokens has none = absurd (omega arith)
none_closes (suc n) [] has none = refl
none_closes (suc n) (t ∷ tokens) has none = absurd (omega arith)

pub all_closed : (n : ℕ) (tokens : List Token) (x : Option (List Token)) → n ≤ 0 → after_closing n tokens ≡ x → Some tokens ≡ x
unfolding after_closing
all_closed zero tokens x none is = is
all_closed (suc n) tokens x none is = absurd (omega arith)
