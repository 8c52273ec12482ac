-- Of which links a run has an odd number of events, step by step.
use Rattle.shape_links.proofs.Prelude.{◌≡◌, ℕ, suc, ◌+◌, ◌<◌, List, [], ◌∷◌, ◌++◌, Bool, true, false, not, ◌&&◌, cond, IsTrue, length, get_or, nat_eq, inl, inr, refl, sym, ap, subst, ◌∙◌, arith, eqb-true, and_parts, cases_Bool, cases_lt, both_ways, false≢true, has, IsWellFormed, Link, Shape, end_of, is_possible, link_at, node_after, node_at, part_at, end_within, run_induction, part_form, AreEnough, pair_at, table_of, IsOwner, AreOddLinks, IsTurned, Component, and_false, pointwise, end_push, node_form, count_push_more, count_push_same, count_in, is_odd, listed_step, step_within}
use Rattle.shape_links.proofs.Links.{link_past}
use Rattle.shape_links.proofs.Watching.{off_link}

-- nothing comes or goes by an event that is not on the link, or on one that is not watched
unturned : (w on x : Bool) → (on ≡ true → w ≡ false) → cond (w && on) (not x) x ≡ x
unturned true true x h = absurd (false≢true (sym (h refl)))
unturned true false x h = refl
unturned false on x h = refl

same_list : (xs ys : List ℕ) → pointwise nat_eq xs ys ≡ true → xs ≡ ys
same_list [] [] h = refl
same_list [] (y ∷ ys) h = absurd (false≢true h)
same_list (x ∷ xs) [] h = absurd (false≢true h)
same_list (x ∷ xs) (y ∷ ys) h =
    let p = and_parts (nat_eq x y) (pointwise nat_eq xs ys) h in
    ap (λ z. z ∷ xs) (eqb-true x y p.0) ∙ ap (λ zs. y ∷ zs) (same_list xs ys p.1)

-- ---- events and their links

within : (shape : Shape) (l e : ℕ) → has (link_at shape l).shared e ≡ true → l < length shape.links
within shape l e on = elim (cases_lt l (length shape.links)) [ inl below ↦ below | inr past ↦ absurd (false≢true (ap (λ (k : Link). has k.shared e) (sym (link_past shape l shape.links refl past)) ∙ on)) ]

no_owner : (shape : Shape) (e : ℕ) → ((l : ℕ) → IsOwner shape l e → ⊥) → (l : ℕ) → has (link_at shape l).shared e ≡ false
no_owner shape e none l = elim (cases_Bool (has (link_at shape l).shared e)) [ inl on ↦ absurd (none l (record { within = within shape l e on; event = on })) | inr off ↦ off ]

module _ (c : Component) (w : IsWellFormed c.shape.now) (watched : List ℕ) where
  pub step_below : (n : ℕ) (some : List (ℕ × ℕ)) (k : ℕ) → AreEnough c.shape.now.vocabulary (node_at (table_of c) n).next some → k < length some → (pair_at some k).1 < length (table_of c)
  step_below n some k enough h =
      let x = enough.sound k h in
      let form = part_form c.shape.now.parts c.number c.within w.form in
      subst (λ (p : ℕ × ℕ). p.1 < length (table_of c)) x.is (step_within (part_at c.shape.now.parts c.number).alphabet (length (table_of c)) (node_at (table_of c) n).next x.place (node_form (part_at c.shape.now.parts c.number).alphabet (length (table_of c)) (table_of c) n form.nodes) x.within)

  unseen_off : (e : ℕ) → has c.shape.now.vocabulary e ≡ false → (l : ℕ) → has (link_at c.shape.now l).shared e ≡ false
  unseen_off e out l = no_owner c.shape.now e (λ m o. both_ways (has (link_at c.shape.now m).shared e) (off_link c.shape.now m e w o.within out) o.event) l

  -- ---- steps

  module _ (odd : List (List ℕ)) where
    abbrev Turns : ℕ → ℕ → ℕ → Type 0
    Turns n e m = IsTurned c.shape.now watched e (get_or odd n []) (get_or odd m [])

    -- enough of a node's steps show what each of them does
    pub all_turned : (n : ℕ) (some : List (ℕ × ℕ)) → AreEnough c.shape.now.vocabulary (node_at (table_of c) n).next some → ((k : ℕ) → k < length some → Turns n (pair_at some k).0 (pair_at some k).1) → (e : ℕ) → IsTrue (is_possible (node_at (table_of c) n).next e) → Turns n e (node_after (table_of c) n e)
    all_turned n some enough turned e possible =
        let next = (node_at (table_of c) n).next in
        let j = listed_step next e possible in
        elim (cases_Bool (has c.shape.now.vocabulary (pair_at next j.place).0)) [
          | inl seen ↦
              let k = enough.seen j.place j.within seen in
              subst (λ m. Turns n e m) j.leads (subst (λ x. Turns n x (pair_at next j.place).1) j.event (subst (λ (p : ℕ × ℕ). Turns n p.0 p.1) k.is (turned k.place k.within)))
          | inr unseen ↦
              let k = enough.others j.place j.within unseen in
              λ l.
              ap (λ m. has (get_or odd m []) l) (sym (k.leads ∙ j.leads))
              ∙ (turned k.place k.within l ∙ unturned (has watched l) _ _ (λ on. absurd (both_ways (has (link_at c.shape.now l).shared (pair_at some k.place).0) (unseen_off (pair_at some k.place).0 k.unseen l) on)))
              ∙ sym (unturned (has watched l) (has (link_at c.shape.now l).shared e) (has (get_or odd n []) l) (λ on. absurd (both_ways (has (link_at c.shape.now l).shared e) (unseen_off e (subst (λ x. has c.shape.now.vocabulary x ≡ false) j.event unseen) l) on)))
        ]

    -- a step that was followed, and led to the set that it makes
    pub kept_step : (n : ℕ) (steps : List (ℕ × ℕ)) (k : ℕ) (step : ℕ × ℕ) (from set to : List ℕ) → step ≡ pair_at steps k → from ≡ get_or odd n [] → to ≡ get_or odd step.1 [] → IsTurned c.shape.now watched step.0 from set → pointwise nat_eq set to ≡ true → Turns n (pair_at steps k).0 (pair_at steps k).1
    kept_step n steps k step from set to at from_is to_is turned same =
        subst (λ (p : ℕ × ℕ). Turns n p.0 p.1) at
        (subst (λ xs. IsTurned c.shape.now watched step.0 xs (get_or odd step.1 [])) from_is
        (subst (λ ys. IsTurned c.shape.now watched step.0 from ys) (same_list set to same ∙ to_is) turned))

    -- ---- runs

    pub odd_after : length odd ≡ length (table_of c) → get_or odd 0 [] ≡ [] → ((n e : ℕ) → n < length (table_of c) → IsTrue (is_possible (node_at (table_of c) n).next e) → Turns n e (node_after (table_of c) n e)) → AreOddLinks c watched odd
    odd_after count first turns = record {
      count = count;
      each = λ s l ran. run_induction (table_of c) (λ u. has (get_or odd (end_of (table_of c) 0 u) []) l ≡ (has watched l && is_odd (count_in (link_at c.shape.now l).shared u)))
          (ap (λ (xs : List ℕ). has xs l) first ∙ sym (and_false (has watched l)))
          (λ u e run possible before. ap (λ n. has (get_or odd n []) l) (end_push (table_of c) 0 u e)
          ∙ (turns (end_of (table_of c) 0 u) e (end_within (part_at c.shape.now.parts c.number) u (part_form c.shape.now.parts c.number c.within w.form) run) possible l
          ∙ one_more (has watched l) (has (link_at c.shape.now l).shared e) (has (get_or odd (end_of (table_of c) 0 u) []) l) (is_odd (count_in (link_at c.shape.now l).shared u)) (is_odd (count_in (link_at c.shape.now l).shared (u ++ e ∷ []))) before
          (λ on. ap is_odd (count_push_more (link_at c.shape.now l).shared u e on ∙ next (count_in (link_at c.shape.now l).shared u)))
          (λ off. ap is_odd (count_push_same (link_at c.shape.now l).shared u e off))))
          s ran;
    }
      where
        next : (n : ℕ) → n + 1 ≡ suc n
        next n = omega arith

        one_more : (w on x old new : Bool) → x ≡ (w && old) → (on ≡ true → new ≡ not old) → (on ≡ false → new ≡ old) → cond (w && on) (not x) x ≡ (w && new)
        one_more true true x old new is more same = ap not is ∙ sym (more refl)
        one_more true false x old new is more same = is ∙ sym (same refl)
        one_more false on x old new is more same = is
