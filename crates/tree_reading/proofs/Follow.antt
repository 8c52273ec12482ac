-- What the first token of a rest tells of the looks at it.
use Rattle.tree_reading.proofs.Prelude.{◌≡◌, ℕ, ◌<◌, true, false, nat_eq, nat_lt, nat_le, if◌then◌else◌, Some, None, List, ◌∷◌, refl, ap, arith, same_symbol, Symbol, Token, symbol_is, begins, skip, false_from_ne_true, nat_tests, symbol_binding}
use Rattle.csp_text.specs.declared.token.Token.TheVariants as token
use Rattle.csp_text.specs.declared.token.Symbol.TheVariants as symbol

-- the rest does not begin with a token that binds as tightly as the number, or tighter
abbrev pub Stops : ℕ → List Token → Type 0
Stops k r = nat_lt (begins r) k ≡ true

pub below_stops : (k : ℕ) (r : List Token) → begins r < k → Stops k r
below_stops k r h = grind (arith)

pub more : (j k : ℕ) (r : List Token) → nat_le j k ≡ true → Stops j r → Stops k r
more j k r h s = grind (arith)

not_equal : (b c : ℕ) → nat_lt b c ≡ true → b ≡ c → ⊥
not_equal b c h e = grind (arith, nat_tests)

-- a symbol that binds less tightly is another one
other : (u s : Symbol) → nat_lt (symbol_binding u) (symbol_binding s) ≡ true → same_symbol u s ≡ false
other u s h = false_from_ne_true (same_symbol u s) (λ same. not_equal (symbol_binding u) (symbol_binding s) h (ap symbol_binding (symbol_is u s same)))

lower : (a k b : ℕ) → nat_lt a k ≡ true → nat_le k b ≡ true → nat_lt a b ≡ true
lower a k b h le = grind (arith)

-- a symbol that binds as tightly as the number does not stand at the front
pub not_symbol : (s : Symbol) (k : ℕ) (r : List Token) → nat_le k (symbol_binding s) ≡ true → Stops k r → skip s r ≡ None
not_symbol s k (token.Symbol u ∷ r) le h =
    ap (λ b. if b then Some r else None) (other u s (lower (symbol_binding u) k (symbol_binding s) h le))
not_symbol s k _ le h = refl

no_ten : (b : ℕ) → nat_lt b 9 ≡ true → nat_eq b 10 ≡ false
no_ten b h = grind (arith)

ten : (b k : ℕ) → nat_eq b 10 ≡ true → nat_lt 10 k ≡ true → nat_lt b k ≡ true
ten b k h le = grind (arith)

pub stops_no_event : (r : List Token) → Stops 9 r → nat_eq (begins r) 10 ≡ false
stops_no_event r s = no_ten (begins r) s

pub stops_ten : (k : ℕ) (r : List Token) → nat_lt 10 k ≡ true → nat_eq (begins r) 10 ≡ true → Stops k r
stops_ten k r le h = ten (begins r) k h le

-- the rest goes on with no field
pub record EndsFields (r : List Token) : Type 0 where
  pub no_dot : skip symbol.Dot r ≡ None
  pub no_bang : skip symbol.Bang r ≡ None
  pub no_question : skip symbol.Question r ≡ None
  pub no_colon : skip symbol.Colon r ≡ None
  pub event : nat_eq (begins r) 10 ≡ true
