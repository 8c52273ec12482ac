-- Lists of a few items.
use Rattle.std.proofs.Common.{◌≡◌, ℕ, ◌<◌, ◌≤◌, length, List, [], ◌∷◌, get_or, arith}

-- a list of three is its three items
pub of_three : {A : Type 0} (xs : List A) (x y z : A) → 3 ≤ length xs → length xs < 4 → x ≡ get_or xs 0 x → y ≡ get_or xs 1 y → z ≡ get_or xs 2 z → xs ≡ x ∷ y ∷ z ∷ []
of_three [] x y z low high hx hy hz = absurd (omega arith)
of_three (a ∷ []) x y z low high hx hy hz = absurd (omega arith)
of_three (a ∷ b ∷ []) x y z low high hx hy hz = absurd (omega arith)
of_three (a ∷ b ∷ d ∷ []) x y z low high hx hy hz = cc
of_three (a ∷ b ∷ d ∷ e ∷ xs) x y z low high hx hy hz = absurd (omega arith)

-- a list of four is its four items
pub of_four : {A : Type 0} (xs : List A) (x y z w : A) → 4 ≤ length xs → length xs < 5 → x ≡ get_or xs 0 x → y ≡ get_or xs 1 y → z ≡ get_or xs 2 z → w ≡ get_or xs 3 w
    → xs ≡ x ∷ y ∷ z ∷ w ∷ []
of_four (a ∷ b ∷ d ∷ e ∷ []) x y z w low high hx hy hz hw = cc
of_four (a ∷ b ∷ d ∷ e ∷ f ∷ xs) x y z w low high hx hy hz hw = absurd (omega arith)
of_four xs x y z w low high hx hy hz hw = absurd (omega arith)

-- a list of two is its two items
pub of_two : {A : Type 0} (xs : List A) (x y : A) → 2 ≤ length xs → length xs < 3 → x ≡ get_or xs 0 x → y ≡ get_or xs 1 y → xs ≡ x ∷ y ∷ []
of_two [] x y low high hx hy = absurd (omega arith)
of_two (a ∷ []) x y low high hx hy = absurd (omega arith)
of_two (a ∷ b ∷ []) x y low high hx hy = cc
of_two (a ∷ b ∷ d ∷ xs) x y low high hx hy = absurd (omega arith)

-- three words that are read, and what each is
pub three_words : (words : List (List ℕ)) (x y z p q r a b d : List ℕ) → 3 ≤ length words → length words < 4
    → x ≡ get_or words 0 x → y ≡ get_or words 1 y → z ≡ get_or words 2 z
    → p ≡ x → q ≡ y → r ≡ z → p ≡ a → q ≡ b → r ≡ d → words ≡ a ∷ b ∷ d ∷ []
three_words words x y z p q r a b d low high hx hy hz px qy rz pa qb rd =
    let three : words ≡ x ∷ y ∷ z ∷ [] = of_three words x y z low high hx hy hz in cc

-- two words of which the first is as wanted
pub two_words : (words : List (List ℕ)) (x y p q a : List ℕ) → 2 ≤ length words → length words < 3 → x ≡ get_or words 0 x → y ≡ get_or words 1 y
    → p ≡ x → q ≡ y → p ≡ a → words ≡ a ∷ q ∷ []
two_words words x y p q a low high hx hy px qy pa = let two : words ≡ x ∷ y ∷ [] = of_two words x y low high hx hy in cc

-- four words that are read, and what each is
pub four_words : (words : List (List ℕ)) (x y z w p q r s a b d : List ℕ) → 4 ≤ length words → length words < 5
    → x ≡ get_or words 0 x → y ≡ get_or words 1 y → z ≡ get_or words 2 z → w ≡ get_or words 3 w
    → p ≡ x → q ≡ y → r ≡ z → s ≡ w → p ≡ a → r ≡ b → s ≡ d → words ≡ a ∷ q ∷ b ∷ d ∷ []
four_words words x y z w p q r s a b d low high hx hy hz hw px qy rz sw pa rb sd =
    let four : words ≡ x ∷ y ∷ z ∷ w ∷ [] = of_four words x y z w low high hx hy hz hw in cc
