-- Sets that are known by their starts: as more sets are numbered, and as one more becomes known.
use Rattle.determinise.proofs.Prelude.{◌≡◌, ℕ, ◌+◌, ◌<◌, inl, inr, false, nat_eq, Some, List, [], ◌∷◌, ◌++◌, length, get_or, sym, ap, subst, ◌∙◌, arith, slice_get, is_member, pointwise, cases_lt, cond-false, get_or_append_left, get_or_default, length-append, get_or-append_seam, slice_get_within, get_or_from_slice_get, with_new, RawTable, IsSilentClosure, AreKnown, set_at, AreMoreSets}

module _ (raw : RawTable) (starts : List (List ℕ)) (numbers : List ℕ) where
  pub known_kept : (P : List ℕ → Type 0) (old new : List (List ℕ)) → AreMoreSets P old new → AreKnown raw old starts numbers → AreKnown raw new starts numbers
  known_kept P old new more k = record {
    one_each = k.one_each;
    within = λ j h. let w = k.within j h in let l = more.longer in omega arith;
    are = λ j h. subst (IsSilentClosure raw (get_or starts j [])) (sym (more.kept (get_or numbers j 0) (k.within j h))) (k.are j h);
  }

  -- the number of a list that is known
  pub known_closure : (sets : List (List ℕ)) (place number read : ℕ) (start : List ℕ) → AreKnown raw sets starts numbers → slice_get starts place ≡ Some start → number ≡ get_or numbers place read → IsSilentClosure raw start (set_at sets number)
  known_closure sets place number read start k at is =
      let below : place < length starts = slice_get_within starts place start at in
      let inside : place < length numbers = rw k.one_each below in
      let same : number ≡ get_or numbers place 0 = is ∙ get_or_default numbers place read 0 inside in
      let list : get_or starts place [] ≡ start = get_or_from_slice_get starts place start [] at in
      rw same (subst (λ (s : List ℕ). IsSilentClosure raw s (set_at sets (get_or numbers place 0))) list (k.are place below))

  -- one more list
  pub known_more : (sets new : List (List ℕ)) (start : List ℕ) (number : ℕ) (more : List ℕ) → new ≡ with_new (pointwise nat_eq) starts start → is_member (pointwise nat_eq) starts start ≡ false → more ≡ numbers ++ number ∷ [] → number < length sets → IsSilentClosure raw start (set_at sets number) → AreKnown raw sets starts numbers → AreKnown raw sets new more
  known_more sets new start number more is fresh items below closure k =
      let longer : new ≡ starts ++ start ∷ [] = is ∙ cond-false (is_member (pointwise nat_eq) starts start) starts (starts ++ start ∷ []) fresh in
      let long : length new ≡ length starts + 1 = ap length longer ∙ length-append starts (start ∷ []) in
      let old_start : (j : ℕ) → j < length starts → get_or new j [] ≡ get_or starts j [] = λ j h. ap (λ (ss : List (List ℕ)). get_or ss j []) longer ∙ get_or_append_left starts (start ∷ []) [] j h in
      let old_number : (j : ℕ) → j < length starts → get_or more j 0 ≡ get_or numbers j 0 = λ j h. ap (λ (ns : List ℕ). get_or ns j 0) items ∙ get_or_append_left numbers (number ∷ []) 0 j (rw k.one_each h) in
      let last_start : get_or new (length starts) [] ≡ start = ap (λ (ss : List (List ℕ)). get_or ss (length starts) []) longer ∙ get_or-append_seam starts start [] [] in
      let last_number : get_or more (length starts) 0 ≡ number = ap (λ (ns : List ℕ). get_or ns (length starts) 0) items ∙ ap (λ (j : ℕ). get_or (numbers ++ number ∷ []) j 0) (sym k.one_each) ∙ get_or-append_seam numbers number [] 0 in
      record {
        one_each = ap length items ∙ length-append numbers (number ∷ []) ∙ ap (λ n. n + 1) k.one_each ∙ sym long;
        within = λ j h. elim (cases_lt j (length starts)) as (λ _. get_or more j 0 < length sets) [
          | inl early ↦ rw (old_number j early) (k.within j early)
          | inr late ↦ let here : j ≡ length starts = omega arith in rw (here, last_number) below
        ];
        are = λ j h. elim (cases_lt j (length starts)) as (λ _. IsSilentClosure raw (get_or new j []) (set_at sets (get_or more j 0))) [
          | inl early ↦ rw (old_start j early, old_number j early) (k.are j early)
          | inr late ↦ let here : j ≡ length starts = omega arith in rw (here, last_start, last_number) closure
        ];
      }
