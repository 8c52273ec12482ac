-- Keys numbered in the order in which they are first seen.
use Rattle.equal_futures.proofs.Prelude.{◌≡◌, ℕ, suc, ◌+◌, ◌<◌, ◌≤◌, inl, inr, List, [], ◌∷◌, ◌++◌, length, get_or, Bool, true, false, cond, nat_eq, refl, sym, ap, ◌∙◌, subst, arith, below_more, position_or_len, list_any, is_member, eq-eqb, eqb-true, ne_eqb, cond-true, cond-false, cases_Bool, false≢true, or_cases, length_push, get_or_push, get_or_append_left, passes_at_first, position_or_len_push, SeenInOrder, AreRenumbered, IsExact, with_new}

pub seen_old : (seen : ℕ) (xs : List ℕ) (count x : ℕ) → SeenInOrder seen xs count → x < count → SeenInOrder seen (xs ++ x ∷ []) count
seen_old seen [] count x h l = inl (subst (λ n. x < n) (sym h) l, h)
seen_old seen (y ∷ ys) count x (inl h) l = inl (h.0, seen_old seen ys count x h.1 l)
seen_old seen (y ∷ ys) count x (inr h) l = inr (h.0, seen_old (seen + 1) ys count x h.1 l)

pub seen_new : (seen : ℕ) (xs : List ℕ) (count : ℕ) → SeenInOrder seen xs count → SeenInOrder seen (xs ++ count ∷ []) (count + 1)
seen_new seen [] count h = inr (sym h, ap (λ n. n + 1) h)
seen_new seen (y ∷ ys) count (inl h) = inl (h.0, seen_new seen ys count h.1)
seen_new seen (y ∷ ys) count (inr h) = inr (h.0, seen_new (seen + 1) ys count h.1)

-- the first n keys have these numbers, by the list of the keys that were seen
pub record IsNumbered {A : Type 0} (same : A → A → Bool) (key : ℕ → A) (n : ℕ) (seen : List A) (numbers : List ℕ) : Type 0 where
  pub one_each : length numbers ≡ n
  pub first : (k : ℕ) → k < n → get_or numbers k 0 ≡ position_or_len (same (key k)) seen
  pub below : (k : ℕ) → k < n → get_or numbers k 0 < length seen
  pub order : SeenInOrder 0 numbers (length seen)
  pub few : length seen ≤ n

-- a key that is found keeps its place when the list grows
keeps_place : {A : Type 0} (p : A → Bool) (seen : List A) (x : A) → position_or_len p seen < length seen → position_or_len p (seen ++ x ∷ []) ≡ position_or_len p seen
keeps_place p seen x below =
    position_or_len_push p seen x
    ∙ cond-false (nat_eq (position_or_len p seen) (length seen)) (length seen + cond (p x) 0 1) (position_or_len p seen) (ne_eqb (position_or_len p seen) (length seen) (λ e. absurd (omega arith)))

member_below : {A : Type 0} (p : A → Bool) (seen : List A) → list_any p seen ≡ true → position_or_len p seen < length seen
member_below p [] h = absurd (false≢true h)
member_below p (s ∷ seen) h = elim (or_cases (p s) (list_any p seen) h) as (λ _. position_or_len p (s ∷ seen) < suc (length seen)) [
  | inl here ↦ rw here (omega arith)
  | inr later ↦ let l = member_below p seen later in elim (cases_Bool (p s)) as (λ _. position_or_len p (s ∷ seen) < suc (length seen)) [ inl e ↦ rw e (omega arith) | inr e ↦ rw e (omega arith) ]
]

none_at_end : {A : Type 0} (p : A → Bool) (seen : List A) → list_any p seen ≡ false → position_or_len p seen ≡ length seen
none_at_end p [] h = refl
none_at_end p (s ∷ seen) h = elim (cases_Bool (p s)) as (λ _. position_or_len p (s ∷ seen) ≡ suc (length seen)) [
  | inl e ↦ absurd (false≢true (sym h ∙ rw e refl))
  | inr e ↦ rw e (let r : list_any p seen ≡ false = rw e at h in let l = none_at_end p seen r in omega arith)
]

module _ {A : Type 0} (same : A → A → Bool) (itself : (a : A) → same a a ≡ true) (key : ℕ → A) (n : ℕ) (seen : List A) (numbers : List ℕ) (s : IsNumbered same key n seen numbers) (place : ℕ) (first : place ≡ position_or_len (same (key n)) seen) where
  old_number : (k : ℕ) → k < n → get_or (numbers ++ place ∷ []) k 0 ≡ get_or numbers k 0
  old_number k h = get_or_append_left numbers (place ∷ []) 0 k (rw s.one_each h)

  known : is_member same seen (key n) ≡ true → IsNumbered same key (n + 1) seen (numbers ++ place ∷ [])
  known h =
      let below : place < length seen = rw first (member_below (same (key n)) seen h) in
      record {
        one_each = length_push numbers place ∙ ap (λ m. m + 1) s.one_each;
        first = below_more (λ k. get_or (numbers ++ place ∷ []) k 0 ≡ position_or_len (same (key k)) seen) n
            (λ k l. old_number k l ∙ s.first k l)
            (get_or_push numbers place 0 n s.one_each ∙ first);
        below = below_more (λ k. get_or (numbers ++ place ∷ []) k 0 < length seen) n
            (λ k l. rw (old_number k l) (s.below k l))
            (rw (get_or_push numbers place 0 n s.one_each) below);
        order = seen_old 0 numbers (length seen) place s.order below;
        few = let old = s.few in omega arith;
      }

  fresh : is_member same seen (key n) ≡ false → IsNumbered same key (n + 1) (seen ++ key n ∷ []) (numbers ++ place ∷ [])
  fresh h =
      let at_end : position_or_len (same (key n)) seen ≡ length seen = none_at_end (same (key n)) seen h in
      let is : place ≡ length seen = first ∙ at_end in
      let longer = length_push seen (key n) in
      let there : position_or_len (same (key n)) (seen ++ key n ∷ []) ≡ length seen =
      position_or_len_push (same (key n)) seen (key n)
      ∙ cond-true (nat_eq (position_or_len (same (key n)) seen) (length seen)) (length seen + cond (same (key n) (key n)) 0 1) (position_or_len (same (key n)) seen) (eq-eqb (position_or_len (same (key n)) seen) (length seen) at_end)
      ∙ rw (itself (key n)) (omega arith) in
      record {
        one_each = length_push numbers place ∙ ap (λ m. m + 1) s.one_each;
        first = below_more (λ k. get_or (numbers ++ place ∷ []) k 0 ≡ position_or_len (same (key k)) (seen ++ key n ∷ [])) n
            (λ k l. old_number k l ∙ s.first k l ∙ sym (keeps_place (same (key k)) seen (key n) (rw (← s.first k l) (s.below k l))))
            (get_or_push numbers place 0 n s.one_each ∙ is ∙ sym there);
        below = below_more (λ k. get_or (numbers ++ place ∷ []) k 0 < length (seen ++ key n ∷ [])) n
            (λ k l. let b = s.below k l in rw (old_number k l) (omega arith))
            (rw (get_or_push numbers place 0 n s.one_each) (omega arith));
        order = rw (longer, is) (seen_new 0 numbers (length seen) s.order);
        few = let old = s.few in omega arith;
      }

  pub one_more_numbered : IsNumbered same key (n + 1) (with_new same seen (key n)) (numbers ++ place ∷ [])
  one_more_numbered = elim (cases_Bool (is_member same seen (key n))) as (λ _. IsNumbered same key (n + 1) (with_new same seen (key n)) (numbers ++ place ∷ [])) [
    | inl h ↦ rw h (known h)
    | inr h ↦ rw h (fresh h)
  ]

-- equal numbers have equal keys, and equal keys equal numbers
pub keys_equal : {A : Type 0} (same : A → A → Bool) → IsExact same → (d : A) (key : ℕ → A) (n : ℕ) (seen : List A) (numbers : List ℕ) → IsNumbered same key n seen numbers → (i j : ℕ) → i < n → j < n → get_or numbers i 0 ≡ get_or numbers j 0 → key i ≡ key j
keys_equal same exact d key n seen numbers s i j a b e =
    let p = passes_at_first (same (key i)) seen d (rw (← s.first i a) (s.below i a)) in
    let q = passes_at_first (same (key j)) seen d (rw (← s.first j b) (s.below j b)) in
    let place : position_or_len (same (key i)) seen ≡ position_or_len (same (key j)) seen = sym (s.first i a) ∙ e ∙ s.first j b in
    let left = exact (key i) _ p in
    let right = exact (key j) _ q in
    left ∙ ap (λ k. get_or seen k d) place ∙ sym right

pub numbers_equal : {A : Type 0} (same : A → A → Bool) (key : ℕ → A) (n : ℕ) (seen : List A) (numbers : List ℕ) → IsNumbered same key n seen numbers → (i j : ℕ) → i < n → j < n → key i ≡ key j → get_or numbers i 0 ≡ get_or numbers j 0
numbers_equal same key n seen numbers s i j a b e = s.first i a ∙ ap (λ k. position_or_len (same k) seen) e ∙ sym (s.first j b)

-- the same step, as the code makes it
pub numbered_step : {A : Type 0} (same : A → A → Bool) → ((a : A) → same a a ≡ true) → (key : ℕ → A) (n : ℕ) (seen new : List A) (numbers more : List ℕ) (place : ℕ) (row : A) → IsNumbered same key n seen numbers → row ≡ key n → place ≡ position_or_len (same row) seen → new ≡ with_new same seen row → more ≡ numbers ++ place ∷ [] → IsNumbered same key (n + 1) new more
numbered_step same itself key n seen new numbers more place row s is first list items =
    let grown : new ≡ with_new same seen (key n) = list ∙ ap (λ r. with_new same seen r) is in
    let at : place ≡ position_or_len (same (key n)) seen = first ∙ ap (λ r. position_or_len (same r) seen) is in
    subst (λ xs. IsNumbered same key (n + 1) xs more) (sym grown) (subst (λ xs. IsNumbered same key (n + 1) (with_new same seen (key n)) xs) (sym items) (one_more_numbered same itself key n seen numbers s place at))

-- numbers of all places of a list
pub all_numbered : (old : List ℕ) (n : ℕ) (seen numbers : List ℕ) → n ≡ length old → IsNumbered nat_eq (λ k. get_or old k 0) n seen numbers → AreRenumbered old numbers (length seen)
all_numbered old n seen numbers whole s = record {
  one_each = s.one_each ∙ whole;
  exact = λ i j a b. (
    λ e. keys_equal nat_eq eqb-true 0 (λ k. get_or old k 0) n seen numbers s i j (rw whole a) (rw whole b) e,
    λ e. numbers_equal nat_eq (λ k. get_or old k 0) n seen numbers s i j (rw whole a) (rw whole b) e,
  );
  order = s.order;
}
