-- Laws of lists: one item more at the end, and what is left where items were read one after another.
use Rattle.csp_base.proofs.Prelude.{◌≡◌, ℕ, zero, suc, ◌+◌, ◌<◌, true, nat_eq, List, [], ◌∷◌, ◌++◌, length, get_or, take, drop, Some, refl, sym, ap, inl, inr, ◌∙◌, add-one, append_assoc, append-nil, take-suc, drop-cons, arith, ◌⊎◌, slice_get, flat_map, pointwise, bytes_decides}
pub use Rattle.std.proofs.lemmas.List.{map_push}

-- ---- items that are read one after another

pub drop_read : {X : Type 0} (xs : List X) (i : ℕ) (x : X) → i < length xs → x ≡ get_or xs i x → drop i xs ≡ x ∷ drop (i + 1) xs
drop_read xs i x within is = rw (add-one, drop-cons xs i x) (ap (λ y. y ∷ drop (suc i) xs) (sym is))

pub take_read : {X : Type 0} (xs : List X) (i : ℕ) (x : X) → i < length xs → x ≡ get_or xs i x → take (i + 1) xs ≡ take i xs ++ x ∷ []
take_read xs i x within is = rw (add-one, take-suc xs i x within) (ap (λ y. take i xs ++ y ∷ []) (sym is))

-- ---- one item more

pub flat_map_push : {X Y : Type 0} (f : X → List Y) (xs : List X) (x : X) → flat_map f (xs ++ x ∷ []) ≡ flat_map f xs ++ f x
flat_map_push f [] x = append-nil (f x)
flat_map_push f (y ∷ xs) x = ap (λ zs. f y ++ zs) (flat_map_push f xs x) ∙ sym (append_assoc (f y) (flat_map f xs) (f x))

pub slice_get_last : {X : Type 0} (xs : List X) (x : X) → slice_get (xs ++ x ∷ []) (length xs) ≡ Some x
slice_get_last [] x = refl
slice_get_last (z ∷ xs) x = slice_get_last xs x

pub push_cases : {X : Type 0} (xs : List X) (x : X) (k : ℕ) (y : X) → slice_get (xs ++ x ∷ []) k ≡ Some y → (slice_get xs k ≡ Some y) ⊎ ((k ≡ length xs) × (x ≡ y))
push_cases [] x zero y h = inr (refl, cc)
push_cases [] x (suc k) y h = cc
push_cases (z ∷ xs) x zero y h = inl h
push_cases (z ∷ xs) x (suc k) y h = elim (push_cases xs x k y h) [ inl old ↦ inl old | inr last ↦ inr (let e : k ≡ length xs = last.0 in omega arith, last.1) ]

-- ---- one item of several

pub slice_get_some : {X : Type 0} (xs : List X) (k : ℕ) → k < length xs → (x : X) × (slice_get xs k ≡ Some x)
slice_get_some [] k h = absurd (omega arith)
slice_get_some (x ∷ xs) zero h = (x, refl)
slice_get_some (x ∷ xs) (suc k) h = slice_get_some xs k (omega arith)

-- ---- lists that are equal to themselves by the test

pub same_list : (xs : List ℕ) → pointwise nat_eq xs xs ≡ true
same_list xs = (bytes_decides xs xs).1 refl
