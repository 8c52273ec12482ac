-- The steps from a term, in a list that grows at its end.
use Rattle.local_tables.proofs.Prelude.{◌≡◌, ◌⊎◌, inl, inr, ℕ, zero, suc, nat_eq, Bool, true, false, cond, Some, List, [], ◌∷◌, ◌++◌, slice_get, refl, ap, sym, subst, ◌∙◌, append-nil, eq-eqb, ◌&&◌, false≢true, map_push, EachOnce, StandsIn, Proc, goals, is_by, Label, silent, visible, RawStep, RawTable, event_targets, silent_targets, targets_in, Move, IsFront, IsRow, process_label, step_more, first_so, second_so, eqb-true}

-- ---- the rows of a list: for each m what some of its elements lead to

later : {Y : Type 0} (b : Bool) (y z : Y) (zs : List Y) → StandsIn zs z → StandsIn (cond b (y ∷ zs) zs) z
later true y z zs h = (suc h.0, h.1)
later false y z zs h = h

tail_once : {Y : Type 0} (b : Bool) (y : Y) (zs : List Y) → EachOnce (cond b (y ∷ zs) zs) → EachOnce zs
tail_once true y zs once = λ j k z h g. let e : suc j ≡ suc k = once (suc j) (suc k) z h g in cc
tail_once false y zs once = once

end_of : {Y : Type 0} (b : Bool) (y : Y) (us vs ws : List Y) → us ≡ vs ++ ws → cond b (y ∷ us) us ≡ cond b (y ∷ vs) vs ++ ws
end_of true y us vs ws h = ap (λ zs. y ∷ zs) h
end_of false y us vs ws h = h

-- an element of the list that leads to y
record Leads {M X Y : Type 0} (pick : M → X → Bool) (to : X → Y) (m : M) (xs : List X) (y : Y) : Type 0 where
  element : X
  stands : StandsIn xs element
  picked : pick m element ≡ true
  is : to element ≡ y

module _ {M X Y : Type 0} (pick : M → X → Bool) (to : X → Y) (row : M → List X → List Y) (none : (m : M) → row m [] ≡ [])
    (one : (m : M) (x : X) (xs : List X) → row m (x ∷ xs) ≡ cond (pick m x) (to x ∷ row m xs) (row m xs)) where
  joined : (m : M) (xs ys : List X) → row m (xs ++ ys) ≡ row m xs ++ row m ys
  joined m [] ys = sym (ap (λ zs. zs ++ row m ys) (none m))
  joined m (x ∷ xs) ys =
      one m x (xs ++ ys) ∙ end_of (pick m x) (to x) (row m (xs ++ ys)) (row m xs) (row m ys) (joined m xs ys) ∙ sym (ap (λ zs. zs ++ row m ys) (one m x xs))

  first : (m : M) (x : X) (xs : List X) → pick m x ≡ true → row m (x ∷ xs) ≡ to x ∷ row m xs
  first m x xs h = one m x xs ∙ ap (λ b. cond b (to x ∷ row m xs) (row m xs)) h

  -- one element more at the end
  pushed : (m : M) (xs : List X) (x : X) → pick m x ≡ true → row m (xs ++ x ∷ []) ≡ row m xs ++ to x ∷ []
  pushed m xs x h = joined m xs (x ∷ []) ∙ ap (λ zs. row m xs ++ zs) (first m x [] h ∙ ap (λ zs. to x ∷ zs) (none m))

  stays : (m : M) (xs : List X) (x : X) → pick m x ≡ false → row m (xs ++ x ∷ []) ≡ row m xs
  stays m xs x h =
      joined m xs (x ∷ []) ∙ ap (λ zs. row m xs ++ zs) (one m x [] ∙ ap (λ b. cond b (to x ∷ row m []) (row m [])) h ∙ none m) ∙ append-nil (row m xs)

  there : (m : M) (xs : List X) (k : ℕ) (x : X) → slice_get xs k ≡ Some x → pick m x ≡ true → StandsIn (row m xs) (to x)
  there m [] k x h p = cc
  there m (y ∷ ys) zero x h p =
      let e : y ≡ x = cc in
      subst (λ z. StandsIn (row m (y ∷ ys)) (to z)) e (subst (λ zs. StandsIn zs (to y)) (sym (first m y ys (ap (pick m) e ∙ p))) (0, refl))
  there m (y ∷ ys) (suc k) x h p =
      subst (λ zs. StandsIn zs (to x)) (sym (one m y ys)) (later (pick m y) (to y) (to x) (row m ys) (there m ys k x h p))

  back : (m : M) (xs : List X) (y : Y) → StandsIn (row m xs) y → Leads pick to m xs y
  back m [] y h = let nothing : StandsIn [] y = subst (λ zs. StandsIn zs y) (none m) h in absurd cc
  back m (x ∷ xs) y h = cases (pick m x) refl (back m xs y) (subst (λ zs. StandsIn zs y) (one m x xs) h)
    where
      cases : (b : Bool) → pick m x ≡ b → (StandsIn (row m xs) y → Leads pick to m xs y) → StandsIn (cond b (to x ∷ row m xs) (row m xs)) y
          → Leads pick to m (x ∷ xs) y
      cases true p others (zero, g) = record { element = x; stands = (0, refl); picked = p; is = cc }
      cases true p others (suc k, g) = let o = others (k, g) in record { element = o.element; stands = (suc o.stands.0, o.stands.1); picked = o.picked; is = o.is }
      cases false p others g = let o = others g in record { element = o.element; stands = (suc o.stands.0, o.stands.1); picked = o.picked; is = o.is }

  twice : (of : X → M) → ((x : X) → pick (of x) x ≡ true) → (y : X) (ys : List X) → ((m : M) → EachOnce (row m (y ∷ ys))) → StandsIn ys y → ⊥
  twice of own y ys rows h =
      let again = there (of y) ys h.0 y h.1 (own y) in
      let once = subst EachOnce (first (of y) y ys (own y)) (rows (of y)) in
      let e : 0 ≡ suc again.0 = once 0 (suc again.0) (to y) refl again.1 in
      cc

  -- where nothing stands twice in a row, each element is in one, and a row tells its elements apart, no element stands twice
  each_once : (of : X → M) → ((x : X) → pick (of x) x ≡ true) → (xs : List X) → ((m : M) → EachOnce (row m xs)) → EachOnce xs
  each_once of own [] rows j k x h g = cc
  each_once of own (y ∷ ys) rows zero zero x h g = refl
  each_once of own (y ∷ ys) rows zero (suc k) x h g = let e : y ≡ x = cc in absurd (twice of own y ys rows (k, g ∙ ap Some (sym e)))
  each_once of own (y ∷ ys) rows (suc j) zero x h g = let e : y ≡ x = cc in absurd (twice of own y ys rows (j, h ∙ ap Some (sym e)))
  each_once of own (y ∷ ys) rows (suc j) (suc k) x h g =
      ap suc (each_once of own ys (λ m. tail_once (pick m y) (to y) (row m ys) (subst EachOnce (one m y ys) (rows m))) j k x h g)

-- ---- the rows of a table

abbrev from_term : ℕ → ℕ × ℕ → Bool
from_term m s = nat_eq m s.0

abbrev by_event : ℕ × ℕ → ℕ × ℕ × ℕ → Bool
by_event d s = nat_eq d.0 s.0 && nat_eq d.1 s.1

abbrev silent_goal : ℕ × ℕ → ℕ
silent_goal s = s.1

abbrev event_goal : ℕ × ℕ × ℕ → ℕ
event_goal s = s.2

abbrev event_row : ℕ × ℕ → List (ℕ × ℕ × ℕ) → List ℕ
event_row d steps = event_targets d.0 d.1 steps

same_true : (m : ℕ) → nat_eq m m ≡ true
same_true m = eq-eqb m m refl

both_same : (m e : ℕ) → nat_eq m m && nat_eq e e ≡ true
both_same m e = ap (λ b. b && nat_eq e e) (same_true m) ∙ same_true e

is_false : (b : Bool) → (b ≡ true → ⊥) → b ≡ false
is_false true h = absurd (h refl)
is_false false h = refl

pub row_more : (raw : RawTable) (m n : ℕ) (l : Label) → targets_in (step_more raw m l n) m l ≡ targets_in raw m l ++ n ∷ []
row_more raw m n silent = pushed from_term silent_goal silent_targets (λ m. refl) (λ m x xs. refl) m raw.silent (m, n) (same_true m)
row_more raw m n (visible e) = pushed by_event event_goal event_row (λ d. refl) (λ d x xs. refl) (m, e) raw.steps (m, e, n) (both_same m e)

pub row_stays : (raw : RawTable) (m n : ℕ) (l : Label) (a : ℕ) (k : Label) → (a ≡ m → k ≡ l → ⊥) → targets_in (step_more raw m l n) a k ≡ targets_in raw a k
row_stays raw m n silent a silent other =
    stays from_term silent_goal silent_targets (λ m. refl) (λ m x xs. refl) a raw.silent (m, n) (is_false (nat_eq a m) (λ h. other (eqb-true a m h) refl))
row_stays raw m n silent a (visible d) other = refl
row_stays raw m n (visible e) a silent other = refl
row_stays raw m n (visible e) a (visible d) other =
    stays by_event event_goal event_row (λ d. refl) (λ d x xs. refl) (a, d) raw.steps (m, e, n)
    (is_false (nat_eq a m && nat_eq d e) (λ h. other (eqb-true a m (first_so (nat_eq a m) (nat_eq d e) h)) (ap visible (eqb-true d e (second_so (nat_eq a m) (nat_eq d e) h)))))

pub in_row : (raw : RawTable) (m n : ℕ) (l : Label) → RawStep raw m l n → StandsIn (targets_in raw m l) n
in_row raw m n silent s = there from_term silent_goal silent_targets (λ m. refl) (λ m x xs. refl) m raw.silent s.0 (m, n) s.1 (same_true m)
in_row raw m n (visible e) s = there by_event event_goal event_row (λ d. refl) (λ d x xs. refl) (m, e) raw.steps s.0 (m, e, n) s.1 (both_same m e)

pub of_row : (raw : RawTable) (m n : ℕ) (l : Label) → StandsIn (targets_in raw m l) n → RawStep raw m l n
of_row raw m n silent s =
    let o = back from_term silent_goal silent_targets (λ m. refl) (λ m x xs. refl) m raw.silent n s in
    (o.stands.0, o.stands.1 ∙ (λ i. Some (sym (eqb-true m o.element.0 o.picked) i, o.is i)))
of_row raw m n (visible e) s =
    let o = back by_event event_goal event_row (λ d. refl) (λ d x xs. refl) (m, e) raw.steps n s in
    let source = eqb-true m o.element.0 (first_so (nat_eq m o.element.0) (nat_eq e o.element.1) o.picked) in
    let event = eqb-true e o.element.1 (second_so (nat_eq m o.element.0) (nat_eq e o.element.1) o.picked) in
    (o.stands.0, o.stands.1 ∙ (λ i. Some (sym source i, sym event i, o.is i)))

pub silent_once : (raw : RawTable) → ((m : ℕ) → EachOnce (targets_in raw m silent)) → EachOnce raw.silent
silent_once raw rows = each_once from_term silent_goal silent_targets (λ m. refl) (λ m x xs. refl) (λ s. s.0) (λ s. same_true s.0) raw.silent rows

pub steps_once : (raw : RawTable) → ((m e : ℕ) → EachOnce (targets_in raw m (visible e))) → EachOnce raw.steps
steps_once raw rows =
    each_once by_event event_goal event_row (λ d. refl) (λ d x xs. refl) (λ s. (s.0, s.1)) (λ s. both_same s.0 s.1) raw.steps (λ d. rows d.0 d.1)

-- ---- labels

-- the labels are the same, or a step by the one is none by the other
pub same_or_not : (l k : Label) → ((l ≡ k) × (is_by l (process_label k) ≡ true)) ⊎ ((l ≡ k → ⊥) × (is_by l (process_label k) ≡ false))
same_or_not silent silent = inl (refl, refl)
same_or_not silent (visible e) = inr ((λ h. cc), refl)
same_or_not (visible e) silent = inr ((λ h. cc), refl)
same_or_not (visible e) (visible d) = events (nat_eq e d) refl
  where
    events : (b : Bool) → nat_eq e d ≡ b → ((visible e ≡ visible d) × (nat_eq e d ≡ true)) ⊎ ((visible e ≡ visible d → ⊥) × (nat_eq e d ≡ false))
    events true h = inl (ap visible (eqb-true e d h), h)
    events false h = inr ((λ same. let is : e ≡ d = cc in false≢true (sym h ∙ eq-eqb e d is)), h)

abbrev by_label : Label → Move → Bool
by_label l m = is_by l m.0

abbrev after_move : Move → Proc
after_move m = m.1

pub goals_joined : (l : Label) (xs ys : List Move) → goals l (xs ++ ys) ≡ goals l xs ++ goals l ys
goals_joined l xs ys = joined by_label after_move goals (λ l. refl) (λ l x xs. refl) l xs ys

pub goals_more : (l : Label) (moves : List Move) (m : Move) → is_by l m.0 ≡ true → goals l (moves ++ m ∷ []) ≡ goals l moves ++ m.1 ∷ []
goals_more l moves m h = pushed by_label after_move goals (λ l. refl) (λ l x xs. refl) l moves m h

pub goals_stay : (l : Label) (moves : List Move) (m : Move) → is_by l m.0 ≡ false → goals l (moves ++ m ∷ []) ≡ goals l moves
goals_stay l moves m h = stays by_label after_move goals (λ l. refl) (λ l x xs. refl) l moves m h

-- ---- the terms of a row

pub row_at : (terms : List Proc) (numbers : List ℕ) (targets : List Proc) (k n : ℕ) → IsRow terms numbers targets → slice_get numbers k ≡ Some n
    → (t : Proc) × (slice_get targets k ≡ Some t) × (slice_get terms n ≡ Some t)
row_at terms [] targets k n h g = cc
row_at terms (m ∷ numbers) [] k n h g = cc
row_at terms (m ∷ numbers) (t ∷ targets) zero n h g = (t, refl, cc)
row_at terms (m ∷ numbers) (t ∷ targets) (suc k) n h g = let rest : IsRow terms numbers targets = cc in row_at terms numbers targets k n rest g

pub number_at : (terms : List Proc) (numbers : List ℕ) (targets : List Proc) (k : ℕ) (t : Proc) → IsRow terms numbers targets → slice_get targets k ≡ Some t
    → (n : ℕ) × (slice_get numbers k ≡ Some n) × (slice_get terms n ≡ Some t)
number_at terms [] [] k t h g = cc
number_at terms [] (u ∷ targets) k t h g = cc
number_at terms (m ∷ numbers) [] k t h g = cc
number_at terms (m ∷ numbers) (u ∷ targets) zero t h g = (m, refl, cc)
number_at terms (m ∷ numbers) (u ∷ targets) (suc k) t h g = let rest : IsRow terms numbers targets = cc in number_at terms numbers targets k t rest g

pub row_once : (terms : List Proc) (numbers : List ℕ) (targets : List Proc) → IsRow terms numbers targets → EachOnce targets → EachOnce numbers
row_once terms numbers targets h once j k n at at' =
    let a = row_at terms numbers targets j n h at in
    let b = row_at terms numbers targets k n h at' in
    once j k a.0 a.1 (b.1 ∙ sym b.2 ∙ a.2)

pub row_kept : (old new : List Proc) (numbers : List ℕ) (targets : List Proc) → IsFront old new → IsRow old numbers targets → IsRow new numbers targets
row_kept old new [] [] front h = refl
row_kept old new [] (t ∷ targets) front h = cc
row_kept old new (n ∷ numbers) [] front h = cc
row_kept old new (n ∷ numbers) (t ∷ targets) front h =
    let here : slice_get old n ≡ Some t = cc in
    let rest : IsRow old numbers targets = cc in
    λ i. front n t here i ∷ row_kept old new numbers targets front rest i

pub row_end : (terms : List Proc) (numbers : List ℕ) (targets : List Proc) (n : ℕ) (t : Proc) → IsRow terms numbers targets → slice_get terms n ≡ Some t
    → IsRow terms (numbers ++ n ∷ []) (targets ++ t ∷ [])
row_end terms numbers targets n t h here =
    map_push (λ k. slice_get terms k) numbers n ∙ (λ i. h i ++ here i ∷ []) ∙ sym (map_push (λ u. Some u) targets t)
