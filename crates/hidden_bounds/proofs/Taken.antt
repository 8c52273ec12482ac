-- Components that are taken one after another: one more, and what stays as it was.
use Rattle.hidden_bounds.proofs.Prelude.{◌≡◌, ℕ, zero, suc, ◌+◌, ◌<◌, true, false, ◌&&◌, List, [], ◌∷◌, ◌++◌, length, take, drop, map, reverse, get_or, add-one, refl, sym, ap, ap₂, ◌∙◌, inl, inr, first_so, second_so, take-suc, cases_Bool, false≢true, or_from, map-append, reverse-append, reverse-reverse, take-append-drop, inter_of, meets_of, has, any_member, any_of, meets_of_from_member, has-inter_of, Label, silent, visible, Component, Walk, GoesRound, OwnStep, Taken, is_passed, share_hidden, step_alphabet, placed, taken_at, taken_in, Placed, same_tests, path_alphabet}

-- ---- one more

module _ {T : Type 0} (cs : List (Component T)) where
  pub none_taken : taken_in cs [] ≡ []
  unfolding taken_in
  none_taken = refl

  pub one_taken : (order : List Placed) (p : Placed) → taken_in cs (order ++ p ∷ []) ≡ taken_at cs p ∷ taken_in cs order
  unfolding taken_in
  one_taken order p = ap (map (taken_at cs)) (reverse-append order (p ∷ []))

  pub next_taken : (order : List Placed) (k : ℕ) (d : Placed) → k < length order
      → taken_in cs (take (k + 1) order) ≡ taken_at cs (get_or order k d) ∷ taken_in cs (take k order)
  next_taken order k d within =
      let grown : take k order ++ get_or order k d ∷ [] ≡ take (k + 1) order = rw (add-one) (sym (take-suc order k d within)) in
      ap (taken_in cs) (sym grown) ∙ one_taken (take k order) (get_or order k d)

  -- those of the first places, and those taken after them
  pub taken_split : (k : ℕ) (order : List Placed) → taken_in cs order ≡ taken_in cs (drop k order) ++ taken_in cs (take k order)
  unfolding taken_in
  taken_split k order =
      ap (λ xs. map (taken_at cs) (reverse xs)) (sym (take-append-drop k order)) ∙ ap (map (taken_at cs)) (reverse-append (take k order) (drop k order))
      ∙ map-append (taken_at cs) (reverse (drop k order)) (reverse (take k order))

  as_placed : (xs : List Placed) → map placed (map (taken_at cs) xs) ≡ xs
  as_placed [] = refl
  as_placed (x ∷ xs) = ap (λ ys. x ∷ ys) (as_placed xs)

  -- told from the first one on, they are the list
  pub as_told : (order : List Placed) → order ≡ reverse (map placed (taken_in cs order))
  unfolding taken_in
  as_told order = sym (ap reverse (as_placed (reverse order)) ∙ reverse-reverse order)

-- ---- hidden events in common

pub shares_of : (hidden a b : List ℕ) → meets_of b (inter_of hidden a) ≡ share_hidden hidden a b
shares_of hidden a b = same_tests (meets_of b (inter_of hidden a)) (share_hidden hidden a b)
    (λ h.
    let r = any_member (has (inter_of hidden a)) b h in
    let both : (has hidden r.0 && has a r.0) ≡ true = sym (has-inter_of hidden a r.0) ∙ r.2 in
    any_of (λ e. has a e && has b e) hidden r.0 (first_so (has hidden r.0) (has a r.0) both) (ap₂ (λ x y. x && y) (second_so (has hidden r.0) (has a r.0) both) r.1))
    (λ h.
    let r = any_member (λ e. has a e && has b e) hidden h in
    let inside : has (inter_of hidden a) r.0 ≡ true = has-inter_of hidden a r.0 ∙ ap₂ (λ x y. x && y) r.1 (first_so (has a r.0) (has b r.0) r.2) in
    meets_of_from_member b (inter_of hidden a) r.0 (second_so (has a r.0) (has b r.0) r.2) inside)

-- an event of one that is hidden is none of the other, where they have none in common
apart_at : (hidden a b : List ℕ) (e : ℕ) → meets_of b (inter_of hidden a) ≡ false → has hidden e ≡ true → has b e ≡ true → has a e ≡ false
apart_at hidden a b e apart h own =
    elim (cases_Bool (has a e)) [
      | inl both ↦ absurd (false≢true (sym apart ∙ meets_of_from_member b (inter_of hidden a) e own (has-inter_of hidden a e ∙ ap₂ (λ x y. x && y) h both)))
      | inr none ↦ none
    ]

-- ---- what goes round over some goes round over one more that shares nothing with it

module _ {T : Type 0} (Step : T → Label → T → Type 0) (hidden : List ℕ) (taken : List Taken) (t : Taken) where
  step_kept : (a : List ℕ) (c d : Component T) → meets_of a (inter_of hidden t.alphabet) ≡ false → a ≡ c.alphabet → OwnStep Step hidden taken c d → OwnStep Step hidden (t ∷ taken) c d
  step_kept a c d apart same (inl quiet) = inl quiet
  step_kept a c d apart same (inr by) =
      let own : has a by.event ≡ true = ap (λ x. has x by.event) same ∙ by.step.1 in
      inr (record { event = by.event; hides = by.hides; own = or_from (has t.alphabet by.event) (is_passed taken by.event) (apart_at hidden t.alphabet a by.event apart by.hides own) by.own; step = by.step })

  own_alphabet : (c d : Component T) → OwnStep Step hidden taken c d → c.alphabet ≡ d.alphabet
  own_alphabet c d (inl quiet) = step_alphabet Step c silent d quiet
  own_alphabet c d (inr by) = step_alphabet Step c (visible by.event) d by.step

  walk_kept : (a : List ℕ) (n : ℕ) (c d : Component T) → meets_of a (inter_of hidden t.alphabet) ≡ false → a ≡ c.alphabet → Walk (OwnStep Step hidden taken) n c d → Walk (OwnStep Step hidden (t ∷ taken)) n c d
  walk_kept a zero c d apart same w = w
  walk_kept a (suc n) c d apart same w = (w.0, step_kept a c w.0 apart same w.1, walk_kept a n w.0 d apart (same ∙ own_alphabet c w.0 w.1) w.2)

  pub round_kept : (c : Component T) → meets_of c.alphabet (inter_of hidden t.alphabet) ≡ false → GoesRound Step hidden taken c → GoesRound Step hidden (t ∷ taken) c
  round_kept c apart r = record {
    state = r.state;
    reached = r.reached;
    more = r.more;
    round = walk_kept c.alphabet (suc r.more) r.state r.state apart (path_alphabet Step r.reached.0 c r.state r.reached.1) r.round;
  }
