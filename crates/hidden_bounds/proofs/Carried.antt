-- Walks in the own graph of a component and in that of its numbered table.
use Rattle.hidden_bounds.proofs.Prelude.{◌≡◌, ℕ, zero, suc, ◌<◌, Bool, true, false, ◌&&◌, not, List, [], ◌∷◌, Some, slice_get, length, refl, sym, ap₂, subst, ◌∙◌, arith, inl, inr, first_so, second_so, false≢true, same_Some, slice_get_within, has, slice_get_some, Label, silent, visible, Component, ComponentStep, Path, IsTableOf, RawTable, IsCircle, Leads, Walk, step_alphabet, GoesRound, IsHeight, OwnStep, Taken, is_passed, AreOpen, OwnCirclesAreExact, OwnHeightsAreExact, IsOwnHeight, OwnArc, stands}
use Rattle.csp_tables.specs.Prelude.{standing_at}

not_true : (b : Bool) → not b ≡ true → b ≡ false
not_true true h = absurd (false≢true h)
not_true false h = refl

-- arcs that lead over some vertices are a walk
walk_of : {V : Type 0} (Arc : V → V → Type 0) (x : V) (vs : List V) (y : V) → Leads Arc x vs y → Walk Arc (suc (length vs)) x y
walk_of Arc x [] y l = (y, l, refl)
walk_of Arc x (v ∷ vs) y l = (v, l.0, walk_of Arc v vs y l.1)

module _ {T : Type 0} (Step : T → Label → T → Type 0) (hidden events : List ℕ) (taken : List Taken) (c : Component T) (terms : List T) (raw : RawTable)
    (open_ : AreOpen hidden taken events) (t : IsTableOf Step c terms raw) where
  -- an event of the own graph is hidden, and none of the taken components has it
  is_hidden : (e : ℕ) → has events e ≡ true → has hidden e ≡ true
  is_hidden e h = first_so (has hidden e) (not (is_passed taken e)) (sym (open_ e) ∙ h)

  is_open : (e : ℕ) → has events e ≡ true → is_passed taken e ≡ false
  is_open e h = not_true (is_passed taken e) (second_so (has hidden e) (not (is_passed taken e)) (sym (open_ e) ∙ h))

  was_open : (e : ℕ) → has hidden e ≡ true → is_passed taken e ≡ false → has events e ≡ true
  was_open e h k = open_ e ∙ ap₂ (λ a b. a && not b) h k

  -- a step of the table is one of the component, between the terms with these numbers
  pub record Up (m n : ℕ) : Type 0 where
    from : T
    to : T
    at : slice_get terms m ≡ Some from
    there : slice_get terms n ≡ Some to
    step : OwnStep Step hidden taken (standing_at c from) (standing_at c to)

  up : (m n : ℕ) → OwnArc raw events m n → Up m n
  up m n (inl quiet) =
      let s = t.sound m n silent quiet in
      record { from = s.source; to = s.goal; at = s.from; there = s.to; step = inl s.step }
  up m n (inr by) =
      let s = t.sound m n (visible by.0) by.2 in
      record { from = s.source; to = s.goal; at = s.from; there = s.to; step = inr (record { event = by.0; hides = is_hidden by.0 by.1; own = is_open by.0 by.1; step = s.step }) }

  walk_up : (k m n : ℕ) (x : T) → slice_get terms m ≡ Some x → Walk (OwnArc raw events) k m n
      → (y : T) × (slice_get terms n ≡ Some y) × Walk (OwnStep Step hidden taken) k (standing_at c x) (standing_at c y)
  walk_up zero m n x h w = (x, subst (λ i. slice_get terms i ≡ Some x) w h, refl)
  walk_up (suc k) m n x h w =
      let s = up m w.0 w.1 in
      let rest = walk_up k w.0 n s.to s.there w.2 in
      let here : s.from ≡ x = same_Some s.from x (sym s.at ∙ h) in
      (rest.0, rest.1, (standing_at c s.to, subst (λ y. OwnStep Step hidden taken (standing_at c y) (standing_at c s.to)) here s.step, rest.2))

  -- a step of the component is one of the table
  pub record Down (m : ℕ) (d : Component T) : Type 0 where
    number : ℕ
    listed : slice_get terms number ≡ Some d.term
    alphabet : c.alphabet ≡ d.alphabet
    arc : OwnArc raw events m number

  down : (m : ℕ) (x : T) (d : Component T) → slice_get terms m ≡ Some x → OwnStep Step hidden taken (standing_at c x) d → Down m d
  down m x d h (inl quiet) =
      let s = t.complete m x silent d h quiet in
      record { number = s.number; listed = s.listed; alphabet = step_alphabet Step (standing_at c x) silent d quiet; arc = inl s.step }
  down m x d h (inr by) =
      let s = t.complete m x (visible by.event) d h by.step in
      record { number = s.number; listed = s.listed; alphabet = step_alphabet Step (standing_at c x) (visible by.event) d by.step; arc = inr (by.event, was_open by.event by.hides by.own, s.step) }

  walk_down : (k m : ℕ) (x : T) (d : Component T) → slice_get terms m ≡ Some x → Walk (OwnStep Step hidden taken) k (standing_at c x) d → (n : ℕ) × Walk (OwnArc raw events) k m n
  walk_down zero m x d h w = (m, refl)
  walk_down (suc k) m x d h w =
      let s = down m x w.0 h w.1 in
      let rest = walk_down k s.number w.0.term d s.listed (subst (λ y. Walk (OwnStep Step hidden taken) k y d) (stands c w.0 s.alphabet) w.2) in
      (rest.0, (s.number, s.arc, rest.1))

  -- a state that the component reaches is in the table
  pub record IsNumbered (d : Component T) : Type 0 where
    number : ℕ
    listed : slice_get terms number ≡ Some d.term
    alphabet : c.alphabet ≡ d.alphabet

  numbered : (ls : List Label) (b d : Component T) → IsNumbered b → Path (ComponentStep Step) b ls d → IsNumbered d
  numbered [] b d i h = subst IsNumbered h i
  numbered (l ∷ ls) b d i h =
      let step = subst (λ y. ComponentStep Step y l h.0) (stands c b i.alphabet) h.1 in
      let s = t.complete i.number b.term l h.0 i.listed step in
      numbered ls h.0 d (record { number = s.number; listed = s.listed; alphabet = step_alphabet Step (standing_at c b.term) l h.0 step }) h.2

  pub height_is : (n : ℕ) → IsOwnHeight raw events n → IsHeight Step hidden taken c n
  height_is n own =
      let whole : length terms ≡ raw.count = t.count in
      let a = own.attained in
      let below : a.0 < raw.count = a.2 in
      let x = slice_get_some terms a.0 (omega arith) in
      let w = walk_up n a.0 a.1 x.0 x.1 a.3 in
      record {
        attained = (standing_at c x.0, standing_at c w.0, t.reached a.0 x.0 x.1, w.2);
        most = λ d e m r walk.
            let i = numbered r.0 c d (record { number = 0; listed = t.first; alphabet = refl }) r.1 in
            let k = walk_down m i.number d.term e i.listed (subst (λ y. Walk (OwnStep Step hidden taken) m y e) (stands c d i.alphabet) walk) in
            let inside : i.number < length terms = slice_get_within terms i.number d.term i.listed in
            own.most i.number k.0 m (omega arith) k.1;
      }

  round_is : (vs : List ℕ) → IsCircle (OwnArc raw events) vs → GoesRound Step hidden taken c
  round_is [] circle = absurd circle
  round_is (v ∷ vs) circle =
      let w = walk_of (OwnArc raw events) v vs v circle in
      let s = up v w.0 w.1 in
      let walk = walk_up (suc (length vs)) v v s.from s.at w in
      let back : walk.0 ≡ s.from = same_Some walk.0 s.from (sym walk.1 ∙ s.at) in
      record {
        state = standing_at c s.from;
        reached = t.reached v s.from s.at;
        more = length vs;
        round = subst (λ y. Walk (OwnStep Step hidden taken) (suc (length vs)) (standing_at c s.from) (standing_at c y)) back walk.2;
      }

pub own_heights_are_exact : {T : Type 0} (Step : T → Label → T → Type 0) → OwnHeightsAreExact Step
own_heights_are_exact Step hidden events taken c terms raw n open_ t own = height_is Step hidden events taken c terms raw open_ t n own

pub own_circles_are_exact : {T : Type 0} (Step : T → Label → T → Type 0) → OwnCirclesAreExact Step
own_circles_are_exact Step hidden events taken c terms raw open_ t own = round_is Step hidden events taken c terms raw open_ t own.0 own.1
