-- What a list has at a place after one or two writes.
use Rattle.partitions.proofs.Prelude.{◌≡◌, ℕ, zero, suc, ◌+◌, ◌<◌, ◌≤◌, List, [], ◌∷◌, ◌++◌, length, set, get_or, Bool, false, refl, sym, subst, arith, inl, inr, ap, ◌∙◌, cases_eq, cases_lt, length-set, get_or-set_same, get_or-set_other, get_or_append_left, get_or_push}

pub by_write : {X : Type 0} (xs : List X) (i : ℕ) (x : X) (k : ℕ) (d : X) → i < length xs → (P : X → Type 0) → (k ≡ i → P x) → ((k ≡ i → ⊥) → P (get_or xs k d)) → P (get_or (set xs i x) k d)
by_write xs i x k d h P same other = elim (cases_eq k i) as (λ _. P (get_or (set xs i x) k d)) [
  | inl e ↦ subst P (sym (ap (λ m. get_or (set xs i x) m d) e ∙ get_or-set_same xs i x d h)) (same e)
  | inr ne ↦ subst P (sym (get_or-set_other xs i k x d ne)) (other ne)
]

pub by_two_writes : (xs : List ℕ) (i x j y k : ℕ) → i < length xs → j < length xs → (P : ℕ → Type 0) → (k ≡ j → P y) → ((k ≡ j → ⊥) → k ≡ i → P x) → ((k ≡ j → ⊥) → (k ≡ i → ⊥) → P (get_or xs k 0)) → P (get_or (set (set xs i x) j y) k 0)
by_two_writes xs i x j y k h l P last first other =
    by_write (set xs i x) j y k 0 (subst (λ m. j < m) (sym (length-set xs i x)) l) P last
    (λ ne. by_write xs i x k 0 h P (λ e. first ne e) (λ ne'. other ne ne'))

-- what a list has at a place once a value stands at its end
pub by_push : {X : Type 0} (xs : List X) (x : X) (k : ℕ) (d : X) → k < length xs + 1 → (P : X → Type 0) → (k ≡ length xs → P x) → (k < length xs → P (get_or xs k d)) → P (get_or (xs ++ x ∷ []) k d)
by_push xs x k d h P new old = elim (cases_lt k (length xs)) as (λ _. P (get_or (xs ++ x ∷ []) k d)) [
  | inl l ↦ subst P (sym (get_or_append_left xs (x ∷ []) d k l)) (old l)
  | inr g ↦ let e : k ≡ length xs = omega arith in subst P (sym (get_or_push xs x d k (sym e))) (new e)
]

-- the default at the end changes nothing
pub default_push : (flags : List Bool) (k : ℕ) → get_or (flags ++ false ∷ []) k false ≡ get_or flags k false
default_push [] zero = refl
default_push [] (suc k) = refl
default_push (f ∷ flags) zero = refl
default_push (f ∷ flags) (suc k) = default_push flags k

-- The nodes that stand in places from first on below place have x, and the others what they had: one place more.
pub record AreAssigned (order old new : List ℕ) (first place x : ℕ) : Type 0 where
  pub moved : (k : ℕ) → first ≤ k → k < place → get_or new (get_or order k 0) 0 ≡ x
  pub kept : (i : ℕ) → ((k : ℕ) → first ≤ k → k < place → get_or order k 0 ≡ i → ⊥) → get_or new i 0 ≡ get_or old i 0
