-- Reserved words have two letters or more, and what an assertion begins with.
use Rattle.csp_lexer.proofs.Prelude.{◌≡◌, ℕ, zero, suc, ◌<◌, Bool, true, false, ◌&&◌, None, List, [], ◌∷◌, length, take, codes, refl, arith, and-false, nat_tests, nat_eq, starts_with, begins_assertion, is_foreign, reserved_word, word_len, bytes_eq}

pub short_not_reserved : (bytes : List ℕ) → length bytes < 2 → reserved_word bytes ≡ None
unfolding reserved_word
short_not_reserved [] h = refl
short_not_reserved (x ∷ []) h = simp and-false
short_not_reserved (x ∷ y ∷ ys) h = absurd (omega (arith, h))

pub short_not_foreign : (bytes : List ℕ) → length bytes < 2 → is_foreign bytes ≡ false
unfolding is_foreign
short_not_foreign [] h = refl
short_not_foreign (x ∷ []) h = simp and-false
short_not_foreign (x ∷ y ∷ ys) h = absurd (omega (arith, h))

either_fails : (x y z : Bool) → (x && (y && true)) ≡ false → (x && (y && z)) ≡ false
either_fails true true z h = absurd cc
either_fails true false z h = refl
either_fails false y z h = refl

same_test : (a b : ℕ) → nat_eq a b ≡ nat_eq b a
same_test a b = grind (arith, nat_tests)

no_assertion : (n : ℕ) (text : List ℕ) → starts_with nat_eq text (codes "as") ≡ false → bytes_eq (take n text) (codes "assert") ≡ false
no_assertion zero text h = refl
no_assertion (suc n) [] h = refl
no_assertion (suc zero) (b ∷ text) h = simp and-false
no_assertion (suc (suc n)) (b ∷ []) h = simp and-false
no_assertion (suc (suc n)) (b ∷ c ∷ text) h = rw (same_test b 97, same_test c 115) (either_fails (nat_eq 97 b) (nat_eq 115 c) _ h)

-- an assertion begins with the first two letters of its word
pub not_asserted : (text : List ℕ) → starts_with nat_eq text (codes "as") ≡ false → begins_assertion text ≡ false
unfolding begins_assertion
not_asserted text h = no_assertion (word_len text) text h
