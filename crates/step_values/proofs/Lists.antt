-- Lists that are made one element after another, and chains of outcomes.
use Rattle.step_values.proofs.Prelude.{◌≡◌, ℕ, ◌+◌, ◌<◌, ◌≤◌, Ok, Err, List, [], ◌∷◌, ◌++◌, length, get_or, drop, refl, ap, sym, ◌∙◌, append_assoc, append-nil, drop_of_length-le, joined, Outcome, and_then, ValueKind, each_joined, drop_read}

pub joined_push : {A : Type 0} (xss : List (List A)) (xs : List A) → joined (xss ++ xs ∷ []) ≡ joined xss ++ xs
joined_push [] xs = append-nil xs
joined_push (ys ∷ xss) xs = ap (λ zs. ys ++ zs) (joined_push xss xs) ∙ sym (append_assoc ys (joined xss) xs)

-- The lists of what is left of a list, one after another and each changed by h, after others.
unfoldable pub left : {A B C : Type 0} → (ℕ → A → Outcome (List B)) → (List B → List C) → List C → ℕ → List A → Outcome (List C)
left f h done k xs = and_then (each_joined f k xs) (λ ys. Ok (done ++ h ys))

pub left_begin : {A B C : Type 0} (f : ℕ → A → Outcome (List B)) (h : List B → List C) (done : List C) (k : ℕ) (xs : List A) → and_then (each_joined f k xs) (λ ys. Ok (done ++ h ys)) ≡ left f h done k xs
unfolding left
left_begin f h done k xs = refl

none_at_first : {B : Type 0} (o : Outcome (List B)) → o ≡ and_then o (λ ys. Ok ([] ++ ys))
none_at_first (Ok ys) = refl
none_at_first (Err k) = refl

pub left_all : {A B : Type 0} (f : ℕ → A → Outcome (List B)) (k : ℕ) (xs : List A) → each_joined f k xs ≡ left f (λ ys. ys) [] k xs
unfolding left
left_all f k xs = none_at_first (each_joined f k xs)

-- h keeps how lists are joined
module _ {A B C : Type 0} (f : ℕ → A → Outcome (List B)) (h : List B → List C) (empty : h [] ≡ []) (joins : (xs ys : List B) → h (xs ++ ys) ≡ h xs ++ h ys) where
  pub left_end : (done : List C) (xs : List A) (k i : ℕ) → length xs ≤ i → left f h done k (drop i xs) ≡ Ok done
  unfolding left
  left_end done xs k i past =
      ap (λ rest. and_then (each_joined f k rest) (λ ys. Ok (done ++ h ys))) (drop_of_length-le xs past) ∙
      (ap (λ ys. Ok (done ++ ys)) empty ∙ ap (λ ys. Ok ys) (append-nil done))

  ahead : (o : Outcome (List B)) (done : List C) (ys : List B)
      → and_then (and_then o (λ more. Ok (ys ++ more))) (λ zs. Ok (done ++ h zs)) ≡ and_then o (λ zs. Ok ((done ++ h ys) ++ h zs))
  ahead (Ok more) done ys = ap (λ zs. Ok (done ++ zs)) (joins ys more) ∙ ap (λ zs. Ok zs) (sym (append_assoc done (h ys) (h more)))
  ahead (Err k) done ys = refl

  after_one : (o rest : Outcome (List B)) (done all : List C) → and_then o (λ ys. Ok (done ++ h ys)) ≡ Ok all
      → and_then (and_then o (λ ys. and_then rest (λ more. Ok (ys ++ more)))) (λ zs. Ok (done ++ h zs)) ≡ and_then rest (λ zs. Ok (all ++ h zs))
  after_one (Ok ys) rest done all e =
      let same : done ++ h ys ≡ all = cc in
      ahead rest done ys ∙ ap (λ zs. and_then rest (λ us. Ok (zs ++ h us))) same
  after_one (Err k) rest done all e = cc

  fault_of_one : (o rest : Outcome (List B)) (done : List C) (k : ValueKind) → and_then o (λ ys. Ok (done ++ h ys)) ≡ Err k
      → and_then (and_then o (λ ys. and_then rest (λ more. Ok (ys ++ more)))) (λ zs. Ok (done ++ h zs)) ≡ Err k
  fault_of_one (Ok ys) rest done k e = cc
  fault_of_one (Err j) rest done k e = e

  pub left_next : (done all : List C) (xs : List A) (k i : ℕ) (x : A) → i < length xs → x ≡ get_or xs i x → and_then (f k x) (λ ys. Ok (done ++ h ys)) ≡ Ok all
      → left f h done k (drop i xs) ≡ left f h all (k + 1) (drop (i + 1) xs)
  unfolding left
  left_next done all xs k i x lt is e =
      ap (λ rest. and_then (each_joined f k rest) (λ ys. Ok (done ++ h ys))) (drop_read xs i x lt is) ∙
      after_one (f k x) (each_joined f (k + 1) (drop (i + 1) xs)) done all e

  pub left_fault : (done : List C) (xs : List A) (k i : ℕ) (x : A) (kind : ValueKind) → i < length xs → x ≡ get_or xs i x → and_then (f k x) (λ ys. Ok (done ++ h ys)) ≡ Err kind
      → left f h done k (drop i xs) ≡ Err kind
  unfolding left
  left_fault done xs k i x kind lt is e =
      ap (λ rest. and_then (each_joined f k rest) (λ ys. Ok (done ++ h ys))) (drop_read xs i x lt is) ∙
      fault_of_one (f k x) (each_joined f (k + 1) (drop (i + 1) xs)) done kind e
