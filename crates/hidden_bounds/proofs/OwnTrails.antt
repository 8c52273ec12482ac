-- Trails that grow at their end, or shrink there, and lead round.
use Rattle.hidden_bounds.proofs.Prelude.{◌≡◌, ℕ, ◌+◌, ◌-◌, ◌<◌, Bool, true, false, Some, nat_eq, List, [], ◌∷◌, ◌++◌, length, drop, get_or, refl, sym, subst, arith, inl, inr, IsAnyAnswer, cases_lt, eqb-true, false≢true, same_Some, get_or-drop, get_or_append_left, get_or_push, length-append, length-drop, length_push, IsCircle, Leads-from_places}

module _ (Arc : ℕ → ℕ → Type 0) where
  -- arcs lead from each to the next
  abbrev pub AreLinked : List ℕ → Type 0
  AreLinked trail = (k : ℕ) → k + 1 < length trail → Arc (get_or trail k 0) (get_or trail (k + 1) 0)

  pub one_more_linked : (trail next : List ℕ) (w : ℕ) → next ≡ trail ++ w ∷ [] → ((k : ℕ) → k + 1 ≡ length trail → Arc (get_or trail k 0) w) → AreLinked trail → AreLinked next
  one_more_linked trail next w is follows linked = subst AreLinked (sym is) (λ k h.
      let size : length (trail ++ w ∷ []) ≡ length trail + 1 = length_push trail w in
      let old : get_or (trail ++ w ∷ []) k 0 ≡ get_or trail k 0 = get_or_append_left trail (w ∷ []) 0 k (omega arith) in
      elim (cases_lt (k + 1) (length trail)) as (λ _. Arc (get_or (trail ++ w ∷ []) k 0) (get_or (trail ++ w ∷ []) (k + 1) 0)) [
        | inl below ↦ rw (old, get_or_append_left trail (w ∷ []) 0 (k + 1) below) (linked k below)
        | inr past ↦ let last : k + 1 ≡ length trail = omega arith in rw (old, get_or_push trail w 0 (k + 1) (sym last)) (follows k last)
      ])

  pub front_linked : (whole front back : List ℕ) → whole ≡ front ++ back → AreLinked whole → AreLinked front
  front_linked whole front back is linked = λ k h.
      let size : length (front ++ back) ≡ length front + length back = length-append front back in
      let both = subst AreLinked is linked k (omega arith) in
      rw (get_or_append_left front back 0 k (omega arith), get_or_append_left front back 0 (k + 1) h) at both

  closed : (vs : List ℕ) → 0 < length vs → AreLinked vs → Arc (get_or vs (length vs - 1) 0) (get_or vs 0 0) → IsCircle Arc vs
  closed [] some linked back = absurd (omega arith)
  closed (v ∷ vs) some linked back =
      let last : length (v ∷ vs) - 1 ≡ length vs = omega arith in
      Leads-from_places Arc v vs v linked (rw last at back)

  -- where the last has an arc back to one in some place
  pub leads_round : (trail : List ℕ) (w k : ℕ) → k < length trail → get_or trail k 0 ≡ w → ((j : ℕ) → j + 1 ≡ length trail → Arc (get_or trail j 0) w) → AreLinked trail → (vs : List ℕ) × IsCircle Arc vs
  leads_round trail w k within at follows linked =
      let size : length (drop k trail) ≡ length trail - k = length-drop k trail in
      let read : (j : ℕ) → get_or (drop k trail) j 0 ≡ get_or trail (k + j) 0 = λ j. get_or-drop k trail j 0 in (
        drop k trail,
        closed (drop k trail) (omega arith)
            (λ j h. rw (read j, read (j + 1)) (let e : k + (j + 1) ≡ (k + j) + 1 = omega arith in rw e (linked (k + j) (omega arith))))
            (rw (read (length (drop k trail) - 1), read 0) (let e : k + 0 ≡ k = omega arith in rw (e, at) (follows (k + (length (drop k trail) - 1)) (omega arith)))),
      )

  -- where it is found on the trail
  pub found_round : (trail items : List ℕ) (w : ℕ) (found : Bool) → items ≡ trail → IsAnyAnswer (λ y b. nat_eq y w ≡ b) items found → ((j : ℕ) → j + 1 ≡ length trail → Arc (get_or trail j 0) w) → AreLinked trail
      → Some found ≡ Some true → (vs : List ℕ) × IsCircle Arc vs
  found_round trail items w true is any follows linked some =
      let at : IsAnyAnswer (λ y b. nat_eq y w ≡ b) trail true = subst (λ (xs : List ℕ). IsAnyAnswer (λ y b. nat_eq y w ≡ b) xs true) is any in
      leads_round trail w at.0 at.1 (eqb-true (get_or trail at.0 0) w (at.2 0)) follows linked
  found_round trail items w false is any follows linked some = absurd (false≢true (same_Some false true some))
