-- What a chain of outcomes comes to, and what lists that are joined from outcomes have.
use Rattle.process_steps.proofs.Prelude.{◌≡◌, ℕ, zero, suc, ◌+◌, IfOk, IsOkAnd, Some, Ok, Err, List, [], ◌∷◌, slice_get, refl, inl, inr, subst, sym, arith, Outcome, and_then, each_joined}
use Rattle.process_steps.proofs.Members.{Among, in_either, in_left, in_right}

-- there is a value
abbrev pub IsThere : {A : Type 0} → Outcome A → Type 0
IsThere o = IsOkAnd o (λ _. Unit {0})

-- there is a list, and it has the member
abbrev pub Has : {A : Type 0} → Outcome (List A) → A → Type 0
Has o y = IsOkAnd o (λ xs. Among xs y)

-- where there is a list, it has the member
abbrev pub Lists : {A : Type 0} → Outcome (List A) → A → Type 0
Lists o y = IfOk o (λ xs. Among xs y)

pub the_value : {A : Type 0} (o : Outcome A) → IsThere o → (a : A) × (o ≡ Ok a)
the_value (Ok a) h = (a, refl)
the_value (Err k) h = absurd h

pub if_any : {A : Type 0} (P : A → Type 0) (o : Outcome A) → ((a : A) → o ≡ Ok a → P a) → IfOk o P
if_any P (Ok a) h = h a refl
if_any P (Err k) h = tt

module _ {A : Type 0} (P : A → Type 0) (o : Outcome A) (a : A) (is : o ≡ Ok a) where
  pub and_of : P a → IsOkAnd o P
  and_of h = subst (λ z. IsOkAnd z P) (sym is) h

  pub if_of : IfOk o P → P a
  if_of h = subst (λ z. IfOk z P) is h

module _ {A B : Type 0} (f : A → Outcome B) (P : B → Type 0) where
  -- from a chain to its parts
  pub through : (o : Outcome A) → IsOkAnd (and_then o f) P → (a : A) × (o ≡ Ok a) × IsOkAnd (f a) P
  through (Ok a) h = (a, refl, h)
  through (Err k) h = absurd h

  -- from its parts to a chain
  pub onward : (o : Outcome A) (a : A) → o ≡ Ok a → IsOkAnd (f a) P → IsOkAnd (and_then o f) P
  onward o a is h = subst (λ z. IsOkAnd (and_then z f) P) (sym is) h

  pub where_ok : (o : Outcome A) → ((a : A) → o ≡ Ok a → IfOk (f a) P) → IfOk (and_then o f) P
  where_ok (Ok a) h = h a refl
  where_ok (Err k) h = tt

  pub where_is : (o : Outcome A) (a : A) → o ≡ Ok a → IfOk (f a) P → IfOk (and_then o f) P
  where_is o a is h = subst (λ z. IfOk (and_then z f) P) (sym is) h

pub then_there : {A B : Type 0} (f : A → Outcome B) (o : Outcome A) → IsThere o → ((a : A) → IsThere (f a)) → IsThere (and_then o f)
then_there f (Ok a) h next = next a
then_there f (Err k) h next = absurd h

-- a member of joined lists, and where it comes from
pub record FromEach {A B : Type 0} (f : ℕ → A → Outcome (List B)) (y : B) (k : ℕ) (xs : List A) : Type 0 where
  pub place : ℕ
  pub source : A
  pub at : slice_get xs place ≡ Some source
  pub has : Has (f (k + place) source) y

module _ {A B : Type 0} (f : ℕ → A → Outcome (List B)) where
  pub from_each : (y : B) (k : ℕ) (xs : List A) → Has (each_joined f k xs) y → FromEach f y k xs
  from_each y k [] h = absurd h
  from_each y k (x ∷ xs) h =
      let first = through _ _ (f k x) h in
      let rest = through _ _ (each_joined f (k + 1) xs) first.2 in
      let here : k ≡ k + zero = omega arith in
      elim (in_either first.0 rest.0 y rest.2) [
        | inl g ↦ record { place = zero; source = x; at = refl; has = subst (λ i. Has (f i x) y) here (and_of _ (f k x) first.0 first.1 g) }
        | inr g ↦ later k x xs y (from_each y (k + 1) xs (and_of _ (each_joined f (k + 1) xs) rest.0 rest.1 g))
      ]
    where
      later : (k : ℕ) (x : A) (xs : List A) (y : B) → FromEach f y (k + 1) xs → FromEach f y k (x ∷ xs)
      later k x xs y g =
          let e : k + 1 + g.place ≡ k + suc g.place = omega arith in
          record { place = suc g.place; source = g.source; at = g.at; has = subst (λ i. Has (f i g.source) y) e g.has }

  pub lists_each : (y : B) (k : ℕ) (xs : List A) (j : ℕ) (x : A) → slice_get xs j ≡ Some x → Lists (f (k + j) x) y → Lists (each_joined f k xs) y
  lists_each y k [] j x at h = absurd cc
  lists_each y k (z ∷ xs) zero x at h =
      let here : k + zero ≡ k = omega arith in
      let same : x ≡ z = cc in
      where_ok _ _ (f k z) (λ ys is. where_ok _ _ (each_joined f (k + 1) xs) (λ more e.
      in_left ys more y (if_of _ (f k z) ys is (subst (λ i. Lists (f i z) y) here (subst (λ w. Lists (f (k + zero) w) y) same h)))))
  lists_each y k (z ∷ xs) (suc j) x at h =
      let e : k + suc j ≡ k + 1 + j = omega arith in
      where_ok _ _ (f k z) (λ ys is. where_ok _ _ (each_joined f (k + 1) xs) (λ more is.
      in_right ys more y (if_of _ (each_joined f (k + 1) xs) more is (lists_each y (k + 1) xs j x at (subst (λ i. Lists (f i x) y) e h)))))

  pub each_there : (k : ℕ) (xs : List A) → ((j : ℕ) (x : A) → slice_get xs j ≡ Some x → IsThere (f (k + j) x)) → IsThere (each_joined f k xs)
  each_there k [] h = tt
  each_there k (x ∷ xs) h =
      let here : k + zero ≡ k = omega arith in
      let rest = each_there (k + 1) xs (λ j z at. let e : k + suc j ≡ k + 1 + j = omega arith in subst (λ i. IsThere (f i z)) e (h (suc j) z at)) in
      then_there _ (f k x) (subst (λ i. IsThere (f i x)) here (h zero x refl)) (λ ys. then_there _ (each_joined f (k + 1) xs) rest (λ more. tt))

  pub there_each : (k : ℕ) (xs : List A) → IsThere (each_joined f k xs) → (j : ℕ) (x : A) → slice_get xs j ≡ Some x → IsThere (f (k + j) x)
  there_each k [] h j x at = absurd cc
  there_each k (z ∷ xs) h zero x at =
      let first = through _ _ (f k z) h in
      let here : k ≡ k + zero = omega arith in
      let same : z ≡ x = cc in
      subst (λ w. IsThere (f (k + zero) w)) same (subst (λ i. IsThere (f i z)) here (and_of _ (f k z) first.0 first.1 tt))
  there_each k (z ∷ xs) h (suc j) x at =
      let first = through _ _ (f k z) h in
      let rest = through _ _ (each_joined f (k + 1) xs) first.2 in
      let e : k + 1 + j ≡ k + suc j = omega arith in
      subst (λ i. IsThere (f i x)) e (there_each (k + 1) xs (and_of _ (each_joined f (k + 1) xs) rest.0 rest.1 tt) j x at)
