-- A loop that makes one thing of each item of a list.
use Rattle.substitution.proofs.Prelude.{◌≡◌, ℕ, ◌+◌, ◌<◌, List, [], ◌∷◌, ◌++◌, length, get_or, drop, ap, sym, ◌∙◌, append_assoc, drop_read}

-- one more is made
pub next_made : {A B : Type 0} (f : List A → List B) (xs : List A) (i : ℕ) (x : A) (y : B) (tail made more whole : List B)
    → i < length xs → x ≡ get_or xs i x → f (x ∷ drop (i + 1) xs) ≡ y ∷ tail → made ++ f (drop i xs) ≡ whole → more ≡ made ++ y ∷ [] → more ++ tail ≡ whole
next_made f xs i x y tail made more whole lt is step h grown =
    ap (λ ys. ys ++ tail) grown ∙
    (append_assoc made (y ∷ []) tail ∙
    (ap (λ ys. made ++ ys) (sym step) ∙
    (ap (λ rest. made ++ f rest) (sym (drop_read xs i x lt is)) ∙ h)))

-- a loop that leaves something out for each item of a list
pub next_left : {A B : Type 0} (f : List A → B → B) (xs : List A) (i : ℕ) (x : A) (old new whole : B)
    → i < length xs → x ≡ get_or xs i x → f (drop (i + 1) xs) new ≡ f (x ∷ drop (i + 1) xs) old → f (drop i xs) old ≡ whole → f (drop (i + 1) xs) new ≡ whole
next_left {A = A} f xs i x old new whole lt is step h = step ∙ (ap (λ (rest : List A). f rest old) (sym (drop_read xs i x lt is)) ∙ h)
