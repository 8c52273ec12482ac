-- Places in lists, and steps that came to a value.
use Rattle.value_laws.proofs.Prelude.{◌≡◌, ℕ, zero, suc, ◌+◌, ◌-◌, ◌*◌, ◌<◌, Some, Ok, List, [], ◌∷◌, ◌++◌, map, length, refl, sym, ◌∙◌, ap, inl, inr, arith, slice_get, cases_lt, length-append, joined, Outcome}

pub same_outcome : {A : Type 0} {a b : A} → ◌≡◌ {A = Outcome A} (Ok a) (Ok b) → a ≡ b
same_outcome h = cc

pub get_left : {X : Type 0} (xs ys : List X) (i : ℕ) → i < length xs → slice_get (xs ++ ys) i ≡ slice_get xs i
get_left [] ys i l = absurd (omega arith)
get_left (x ∷ xs) ys zero l = refl
get_left (x ∷ xs) ys (suc i) l = get_left xs ys i (omega arith)

pub get_right : {X : Type 0} (xs ys : List X) (n i : ℕ) → i ≡ length xs + n → slice_get (xs ++ ys) i ≡ slice_get ys n
get_right [] ys n i e = let f : i ≡ n = omega arith in ap (slice_get ys) f
get_right (x ∷ xs) ys n zero e = absurd (omega arith)
get_right (x ∷ xs) ys n (suc i) e = get_right xs ys n i (omega arith)

-- the lists that a function makes of each element, all of one length
module _ {A X : Type 0} (f : A → List X) (each : ℕ) (same : (a : A) → length (f a) ≡ each) where
  pub length-joined : (xs : List A) → length (joined (map f xs)) ≡ length xs * each
  length-joined [] = omega arith
  length-joined (a ∷ xs) = length-append (f a) (joined (map f xs)) ∙ (let h = same a in let r = length-joined xs in omega arith)

  pub get_joined : (xs : List A) (k : ℕ) (a : A) → slice_get xs k ≡ Some a → (j : ℕ) → j < each → (i : ℕ) → i ≡ k * each + j → slice_get (joined (map f xs)) i ≡ slice_get (f a) j
  get_joined [] k a h j l i e = absurd (cc)
  get_joined (b ∷ xs) zero a h j l i e =
      let is : b ≡ a = cc in
      let long : length (f b) ≡ each = same b in
      let at : i ≡ j = omega arith in
      get_left (f b) (joined (map f xs)) i (omega arith) ∙ ap (slice_get (f b)) at ∙ ap (λ (c : A). slice_get (f c) j) is
  get_joined (b ∷ xs) (suc k) a h j l i e =
      let long : length (f b) ≡ each = same b in
      get_right (f b) (joined (map f xs)) (k * each + j) i (omega arith) ∙ get_joined xs k a h j l (k * each + j) refl

  -- where an element of the joined list stands
  pub record InJoined (xs : List A) (i : ℕ) (x : X) : Type 0 where
    pub block : ℕ
    pub within : ℕ
    pub of : A
    pub block_at : slice_get xs block ≡ Some of
    pub place : i ≡ block * each + within
    pub below : within < each
    pub at : slice_get (f of) within ≡ Some x

  pub from_joined : (xs : List A) (i : ℕ) (x : X) → slice_get (joined (map f xs)) i ≡ Some x → InJoined xs i x
  from_joined [] i x h = absurd (cc)
  from_joined (b ∷ xs) i x h =
      let long : length (f b) ≡ each = same b in
      elim (cases_lt i (length (f b))) [
        | inl l ↦ record { block = 0; within = i; of = b; block_at = refl; place = omega arith; below = omega arith; at = sym (get_left (f b) (joined (map f xs)) i l) ∙ h }
        | inr l ↦
            let n : ℕ = i - length (f b) in
            let e : i ≡ length (f b) + n = omega arith in
            let r = from_joined xs n x (sym (get_right (f b) (joined (map f xs)) n i e) ∙ h) in
            let p : n ≡ r.block * each + r.within = r.place in
            record { block = suc r.block; within = r.within; of = r.of; block_at = r.block_at; place = omega arith; below = r.below; at = r.at }
      ]
