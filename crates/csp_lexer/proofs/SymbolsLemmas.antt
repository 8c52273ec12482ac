-- The symbol found is the longest that stands at the front of the text.
use Rattle.csp_lexer.proofs.Prelude.{◌≡◌, ℕ, zero, suc, ◌+◌, ◌<◌, ◌≤◌, Bool, true, false, ◌&&◌, cond, List, [], ◌∷◌, ◌++◌, length, refl, sym, ap, ◌∙◌, subst, arith, and_parts, eqb-true, false≢true, length-append, nat_tests, Option, Some, None, IfSome, find, nat_eq, nat_le, nat_lt, slice_get, starts_with, symbol_text, symbols, Symbol, symbol_place, symbol_stands, IsFront, IsLongest, longest_symbol}

-- the spellings of these symbols are never empty and never longer than the one before, the first never longer than n
falls : ℕ → List Symbol → Bool
falls n [] = true
falls n (s ∷ rest) = nat_lt 0 (length (symbol_text s)) && (nat_le (length (symbol_text s)) n && falls (length (symbol_text s)) rest)

all_fall : falls 3 symbols ≡ true
unfolding falls
all_fall = refl

-- each symbol has its place in the list
place : (s : Symbol) → (i : ℕ) × (slice_get symbols i ≡ Some s)
place s = (symbol_place s, symbol_stands s)

first_falls : (n : ℕ) (s : Symbol) (rest : List Symbol) → falls n (s ∷ rest) ≡ true
    → (0 < length (symbol_text s)) × (length (symbol_text s) ≤ n) × (falls (length (symbol_text s)) rest ≡ true)
unfolding falls
first_falls n s rest fall =
    let first = and_parts _ _ fall in
    let second = and_parts _ _ first.1 in
    let has_byte : nat_lt 0 (length (symbol_text s)) ≡ true = first.0 in
    let no_longer : nat_le (length (symbol_text s)) n ≡ true = second.0 in
    (grind (arith, nat_tests), grind (arith, nat_tests), second.1)

within : (n : ℕ) (xs : List Symbol) (i : ℕ) (s : Symbol) → falls n xs ≡ true → slice_get xs i ≡ Some s → (0 < length (symbol_text s)) × (length (symbol_text s) ≤ n)
within n [] i s fall there = absurd cc
within n (x ∷ xs) zero s fall there =
    let x_is : x ≡ s = cc in
    let first = first_falls n x xs fall in
    (subst (λ y. 0 < length (symbol_text y)) x_is first.0, subst (λ y. length (symbol_text y) ≤ n) x_is first.1)
within n (x ∷ xs) (suc i) s fall there =
    let first = first_falls n x xs fall in
    let later = within (length (symbol_text x)) xs i s first.2 there in
    let a : length (symbol_text s) ≤ length (symbol_text x) = later.1 in
    let b : length (symbol_text x) ≤ n = first.1 in
    (later.0, omega arith)

pub symbol_has_byte : (s : Symbol) → 0 < length (symbol_text s)
symbol_has_byte s = let there = place s in (within 3 symbols there.0 s all_fall there.1).0

no_longer : (x : Symbol) (xs : List Symbol) → falls (length (symbol_text x)) xs ≡ true → (i : ℕ) (s : Symbol) → slice_get (x ∷ xs) i ≡ Some s → length (symbol_text s) ≤ length (symbol_text x)
no_longer x xs fall zero s there = let x_is : x ≡ s = cc in subst (λ y. length (symbol_text y) ≤ length (symbol_text x)) x_is (omega arith)
no_longer x xs fall (suc i) s there = (within (length (symbol_text x)) xs i s fall there).1

-- what is found first in such a list is the longest that passes the test, and passes itself
module _ (test : Symbol → Bool) where
  behind : (x : Symbol) (xs : List Symbol) (y : Symbol) → test x ≡ false → ((i : ℕ) (s : Symbol) → slice_get xs i ≡ Some s → test s ≡ true → length (symbol_text s) ≤ length (symbol_text y))
      → (i : ℕ) (s : Symbol) → slice_get (x ∷ xs) i ≡ Some s → test s ≡ true → length (symbol_text s) ≤ length (symbol_text y)
  behind x xs y fails later zero s there fits = let x_is : x ≡ s = cc in absurd (false≢true (sym fails ∙ ap test x_is ∙ fits))
  behind x xs y fails later (suc i) s there fits = later i s there fits

  found_here : (n : ℕ) (x : Symbol) (xs : List Symbol) (y : Symbol) (answer : Bool) → test x ≡ answer → falls n (x ∷ xs) ≡ true → cond answer (Some x) (find test xs) ≡ Some y
      → ((n : ℕ) → falls n xs ≡ true → find test xs ≡ Some y → (test y ≡ true) × ((i : ℕ) (s : Symbol) → slice_get xs i ≡ Some s → test s ≡ true → length (symbol_text s) ≤ length (symbol_text y)))
      → (test y ≡ true) × ((i : ℕ) (s : Symbol) → slice_get (x ∷ xs) i ≡ Some s → test s ≡ true → length (symbol_text s) ≤ length (symbol_text y))
  found_here n x xs y true passes fall is later =
      let x_is : x ≡ y = cc in
      let first = first_falls n x xs fall in
      (subst (λ z. test z ≡ true) x_is passes, λ i s there fits. subst (λ z. length (symbol_text s) ≤ length (symbol_text z)) x_is (no_longer x xs first.2 i s there))
  found_here n x xs y false fails fall is later =
      let first = first_falls n x xs fall in
      let found = later (length (symbol_text x)) first.2 is in
      (found.0, behind x xs y fails found.1)

  longest_found : (n : ℕ) (xs : List Symbol) (y : Symbol) → falls n xs ≡ true → find test xs ≡ Some y
      → (test y ≡ true) × ((i : ℕ) (s : Symbol) → slice_get xs i ≡ Some s → test s ≡ true → length (symbol_text s) ≤ length (symbol_text y))
  longest_found n [] y fall is = absurd cc
  longest_found n (x ∷ xs) y fall is = found_here n x xs y (test x) refl fall is (λ m. longest_found m xs y)

  none_here : (x : Symbol) (xs : List Symbol) (answer : Bool) → test x ≡ answer → cond answer (Some x) (find test xs) ≡ None
      → (find test xs ≡ None → (i : ℕ) (s : Symbol) → slice_get xs i ≡ Some s → test s ≡ true → ⊥)
      → (i : ℕ) (s : Symbol) → slice_get (x ∷ xs) i ≡ Some s → test s ≡ true → ⊥
  none_here x xs true passes is later i s there fits = absurd cc
  none_here x xs false fails is later zero s there fits = let x_is : x ≡ s = cc in false≢true (sym fails ∙ ap test x_is ∙ fits)
  none_here x xs false fails is later (suc i) s there fits = later is i s there fits

  none_found : (xs : List Symbol) → find test xs ≡ None → (i : ℕ) (s : Symbol) → slice_get xs i ≡ Some s → test s ≡ true → ⊥
  none_found [] is = λ i s there fits. absurd cc
  none_found (x ∷ xs) is = none_here x xs (test x) refl is (none_found xs)

-- a part that stands at the front passes the test of it, and the other way round
same_byte : (b : ℕ) → nat_eq b b ≡ true
same_byte b = grind (arith, nat_tests)

front_passes : (part rest : List ℕ) → starts_with nat_eq (part ++ rest) part ≡ true
front_passes [] rest = refl
front_passes (b ∷ part) rest = ap (λ t. t && starts_with nat_eq (part ++ rest) part) (same_byte b) ∙ front_passes part rest

pub front_tested : (text part : List ℕ) → IsFront part text → starts_with nat_eq text part ≡ true
front_tested text part front = subst (λ t. starts_with nat_eq t part ≡ true) (sym front.1) (front_passes part front.0)

pub passed_front : (text part : List ℕ) → starts_with nat_eq text part ≡ true → IsFront part text
passed_front text [] passes = (text, refl)
passed_front [] (p ∷ part) passes = absurd (false≢true passes)
passed_front (t ∷ text) (p ∷ part) passes =
    let both = and_parts _ _ passes in
    let rest = passed_front text part both.1 in
    let first : p ≡ t = eqb-true p t both.0 in
    (rest.0, λ i. sym first i ∷ rest.1 i)

front_within : (part rest text : List ℕ) → text ≡ part ++ rest → length part ≤ length text
front_within part rest text is = let long : length text ≡ length part + length rest = ap length is ∙ length-append part rest in omega arith

pub found_fits : (text : List ℕ) (found : Option Symbol) → found ≡ longest_symbol text → IfSome found (λ symbol. (0 < length (symbol_text symbol)) × (length (symbol_text symbol) ≤ length text))
unfolding longest_symbol
found_fits text None is = tt
found_fits text (Some symbol) is =
    let front = passed_front text (symbol_text symbol) (longest_found (λ s. starts_with nat_eq text (symbol_text s)) 3 symbols symbol all_fall (sym is)).0 in
    (symbol_has_byte symbol, front_within (symbol_text symbol) front.0 text front.1)

pub found_longest : (text : List ℕ) (found : Option Symbol) → found ≡ longest_symbol text → IsLongest text found
unfolding longest_symbol
found_longest text None is = λ s front. let there = place s in none_found (λ s. starts_with nat_eq text (symbol_text s)) symbols (sym is) there.0 s there.1 (front_tested text (symbol_text s) front)
found_longest text (Some symbol) is =
    let found = longest_found (λ s. starts_with nat_eq text (symbol_text s)) 3 symbols symbol all_fall (sym is) in
    (passed_front text (symbol_text symbol) found.0, λ s front. let there = place s in found.1 there.0 s there.1 (front_tested text (symbol_text s) front))
