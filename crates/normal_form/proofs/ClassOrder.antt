-- Classes in the order in which they are first seen: how many have been seen before a node, and the first node of each.
use Rattle.normal_form.proofs.Prelude.{◌≡◌, ℕ, zero, suc, ◌+◌, ◌<◌, ◌≤◌, ◌⊎◌, inl, inr, nat_eq, cond, List, [], ◌∷◌, length, sym, ◌∙◌, subst, arith, slice_index, eq-eqb, ne_eqb, cond-true, cond-false, cases_lt, SeenInOrder, IsFirst}

-- how many numbers have been seen once x is
abbrev pub seen_with : ℕ → ℕ → ℕ
seen_with s x = cond (nat_eq x s) (suc s) s

seen_old : (s x : ℕ) → x < s → seen_with s x ≡ s
seen_old s x h = cond-false (nat_eq x s) (suc s) s (ne_eqb x s (λ e. absurd (omega arith)))

seen_new : (s x : ℕ) → x ≡ s → seen_with s x ≡ suc s
seen_new s x e = cond-true (nat_eq x s) (suc s) s (eq-eqb x s e)

-- how many numbers have been seen among the first n, where those below s were seen before
abbrev pub seen_by : ℕ → List ℕ → ℕ → ℕ
seen_by s xs zero = s
seen_by s [] (suc n) = s
seen_by s (x ∷ xs) (suc n) = seen_by (seen_with s x) xs n

abbrev pub SeenStep : ℕ → List ℕ → ℕ → Type 0
SeenStep s xs n = ((slice_index xs n < seen_by s xs n) × (seen_by s xs (suc n) ≡ seen_by s xs n)) ⊎ ((slice_index xs n ≡ seen_by s xs n) × (seen_by s xs (suc n) ≡ suc (seen_by s xs n)))

in_order : (s x count : ℕ) (xs : List ℕ) → x ≡ s → SeenInOrder (s + 1) xs count → SeenInOrder (seen_with s x) xs count
in_order s x count xs e h = let same : s + 1 ≡ seen_with s x = rw (seen_new s x e) (omega arith) in subst (λ (r : ℕ). SeenInOrder r xs count) same h

pub seen_step : (s n count : ℕ) (xs : List ℕ) → SeenInOrder s xs count → n < length xs → SeenStep s xs n
seen_step s n count [] h below = absurd (omega arith)
seen_step s zero count (x ∷ xs) (inl h) below = inl (h.0, seen_old s x h.0)
seen_step s zero count (x ∷ xs) (inr h) below = inr (h.0, seen_new s x h.0)
seen_step s (suc n) count (x ∷ xs) (inl h) below = seen_step (seen_with s x) n count xs (subst (λ (r : ℕ). SeenInOrder r xs count) (sym (seen_old s x h.0)) h.1) (omega arith)
seen_step s (suc n) count (x ∷ xs) (inr h) below = seen_step (seen_with s x) n count xs (in_order s x count xs h.0 h.1) (omega arith)

pub seen_end : (s count : ℕ) (xs : List ℕ) → SeenInOrder s xs count → seen_by s xs (length xs) ≡ count
seen_end s count [] h = h
seen_end s count (x ∷ xs) (inl h) = seen_end (seen_with s x) count xs (subst (λ (r : ℕ). SeenInOrder r xs count) (sym (seen_old s x h.0)) h.1)
seen_end s count (x ∷ xs) (inr h) = seen_end (seen_with s x) count xs (in_order s x count xs h.0 h.1)

module _ (classes : List ℕ) (count : ℕ) (order : SeenInOrder 0 classes count) where
  -- how many classes the first n nodes have
  abbrev pub seen_at : ℕ → ℕ
  seen_at n = seen_by 0 classes n

  pub step_at : (n : ℕ) → n < length classes → SeenStep 0 classes n
  step_at n below = seen_step 0 n count classes order below

  pub seen_most : seen_at (length classes) ≡ count
  seen_most = seen_end 0 count classes order

  grows : (n : ℕ) → n < length classes → seen_at n ≤ seen_at (suc n)
  grows n below = elim (step_at n below) as (λ _. seen_at n ≤ seen_at (suc n)) [ inl h ↦ let e = h.1 in omega arith | inr h ↦ let e = h.1 in omega arith ]

  pub class_below : (n : ℕ) → n < length classes → slice_index classes n < seen_at (suc n)
  class_below n below = elim (step_at n below) as (λ _. slice_index classes n < seen_at (suc n)) [
    | inl h ↦ let e = h.1 in let l = h.0 in omega arith
    | inr h ↦ let e = h.1 in let l = h.0 in omega arith
  ]

  -- a node before the first m has a class that is seen by then
  pub class_seen : (m n : ℕ) → n < m → m ≤ length classes → slice_index classes n < seen_at m
  class_seen zero n a b = absurd (omega arith)
  class_seen (suc m) n a b = elim (cases_lt n m) as (λ _. slice_index classes n < seen_at (suc m)) [
    | inl early ↦ let h : slice_index classes n < seen_at m = class_seen m n early (omega arith) in let g : seen_at m ≤ seen_at (suc m) = grows m (omega arith) in omega (arith, h, g)
    | inr late ↦ let here : n ≡ m = omega arith in subst (λ (k : ℕ). slice_index classes k < seen_at (suc m)) (sym here) (class_below m (omega arith))
  ]

  pub seen_within : (n m : ℕ) → m ≤ n → n ≤ length classes → seen_at m ≤ seen_at n
  seen_within zero m a b = let here : m ≡ 0 = omega arith in subst (λ (k : ℕ). seen_at k ≤ seen_at 0) (sym here) (omega arith)
  seen_within (suc n) m a b = elim (cases_lt n m) as (λ _. seen_at m ≤ seen_at (suc n)) [
    | inl late ↦ let here : m ≡ suc n = omega arith in subst (λ (k : ℕ). seen_at k ≤ seen_at (suc n)) (sym here) (omega arith)
    | inr early ↦ let h : seen_at m ≤ seen_at n = seen_within n m early (omega arith) in let g : seen_at n ≤ seen_at (suc n) = grows n (omega arith) in omega (arith, h, g)
  ]

  -- the node at which a class is seen first
  pub record FirstOf (k n : ℕ) : Type 0 where
    pub node : ℕ
    pub within : node < n
    pub class : slice_index classes node ≡ k
    pub turn : seen_at node ≡ k

  more : (k n : ℕ) → FirstOf k n → FirstOf k (suc n)
  more k n f = record { node = f.node; within = let h = f.within in omega arith; class = f.class; turn = f.turn }

  pub first_of : (n k : ℕ) → n ≤ length classes → k < seen_at n → FirstOf k n
  first_of zero k a b = absurd (omega arith)
  first_of (suc n) k a b = elim (step_at n (omega arith)) as (λ _. FirstOf k (suc n)) [
    | inl h ↦ more k n (first_of n k (omega arith) (rw h.1 at b))
    | inr h ↦
        let least : k < suc (seen_at n) = rw h.1 at b in
        elim (cases_lt k (seen_at n)) as (λ _. FirstOf k (suc n)) [
          | inl early ↦ more k n (first_of n k (omega arith) early)
          | inr late ↦ let here : seen_at n ≡ k = omega arith in record { node = n; within = omega arith; class = h.0 ∙ here; turn = here }
        ]
  ]

  -- it is the first node with the class
  pub is_first : (n : ℕ) → n < length classes → slice_index classes n ≡ seen_at n → IsFirst classes n
  is_first n below here m early same = let h : slice_index classes m < seen_at n = class_seen n m early (omega arith) in absurd (omega (arith, h, same, here))

  pub first_turn : (n : ℕ) → n < length classes → IsFirst classes n → slice_index classes n ≡ seen_at n
  first_turn n below first = elim (step_at n below) as (λ _. slice_index classes n ≡ seen_at n) [
    | inl h ↦ let f = first_of n (slice_index classes n) (omega arith) h.0 in absurd (first f.node f.within f.class)
    | inr h ↦ h.0
  ]
