-- Facts that are kept by the places of a lap.
use Rattle.cyclic_conditions.proofs.Prelude.{arith, ◌≡◌, ℕ, ◌<◌, inl, inr, ◌⊎◌, List, length, Option, Some, None, true, refl, sym, ap, subst, ◌∙◌, slice_set, cases_eq, cases_lt, get_or-set_same, get_or-set_other, get_or_past, length-set, none-some, has, node_at, part_at, part_form, AreEnough, pair_at, IsOwner, IsFact, IsPossibleAt, first_at, HasFirst, AreFirsts, AreMore, IsNoted, IsNotedAt, Disagree, AreClashing, ClashesWith, Fact, table_of, AreLaps, shape_of, Laps, node_form, link_shared, listed_step, step_listed}

-- a kept fact stands within the list
pub first_within : (firsts : List (Option Fact)) (r l : ℕ) → HasFirst firsts r l → r < length firsts
first_within firsts r l x = elim (cases_lt r (length firsts)) [ inl h ↦ h | inr h ↦ absurd (none-some x.fact (sym (get_or_past firsts r None h) ∙ x.kept)) ]

-- ---- one more

module _ (firsts : List (Option Fact)) (place : ℕ) (fact : Fact) (within : place < length firsts) where
  set_sound : (q : ℕ) (f : Fact) → first_at (slice_set firsts place (Some fact)) q ≡ Some f → (first_at firsts q ≡ Some f) ⊎ ((q ≡ place) × (f ≡ fact))
  set_sound q f h = grind (arith, get_or-set_same firsts place (Some fact) None within, get_or-set_other firsts place q (Some fact) None)

  old_first : (q l : ℕ) → HasFirst (slice_set firsts place (Some fact)) q l → HasFirst firsts q l ⊎ ((q ≡ place) × (fact.link ≡ l))
  old_first q l x = elim (set_sound q x.fact x.kept) [
    | inl old ↦ inl (record { fact = x.fact; kept = old; link = x.link })
    | inr new ↦ inr (new.0, ap (λ (f : Fact). f.link) (sym new.1) ∙ x.link)
  ]

  set_apart : ((r : ℕ) → HasFirst firsts r fact.link → ⊥) → ((q r l : ℕ) → HasFirst firsts q l → HasFirst firsts r l → q ≡ r) → (q r l : ℕ) → HasFirst (slice_set firsts place (Some fact)) q l → HasFirst (slice_set firsts place (Some fact)) r l → q ≡ r
  set_apart none apart q r l x y = elim (old_first q l x) [
    | inl old ↦ elim (old_first r l y) [
      | inl older ↦ apart q r l old older
      | inr new ↦ absurd (none q (subst (HasFirst firsts q) (sym new.1) old))
    ]
    | inr new ↦ elim (old_first r l y) [
      | inl old ↦ absurd (none r (subst (HasFirst firsts r) (sym new.1) old))
      | inr newer ↦ new.0 ∙ sym newer.0
    ]
  ]

  set_keeps : first_at firsts place ≡ None → (q l : ℕ) → HasFirst firsts q l → HasFirst (slice_set firsts place (Some fact)) q l
  set_keeps none q l x = record { fact = x.fact; kept = grind (arith, get_or-set_other firsts place q (Some fact) None, x.kept); link = x.link }

-- what is known of the kept facts once one more was noted
pub one_more : (laps : Laps) (place : ℕ) (fact : Fact) (old new : List (Option Fact)) → place < length old → AreFirsts laps old → IsFact laps place fact → IsNotedAt place fact old new → AreMore laps old new × HasFirst new place fact.link
one_more laps place fact old new within a is (inl x) = subst (λ xs. AreMore laps old xs × HasFirst xs place fact.link) (sym x.1) (record { firsts = a; keeps = λ q l y. y }, x.0)
one_more laps place fact old new within a is (inr x) = subst (λ xs. AreMore laps old xs × HasFirst xs place fact.link) (sym x.2) (
  record {
    firsts = record {
      count = length-set old place (Some fact) ∙ a.count;
      sound = λ q f h. elim (set_sound old place fact within q f h) [
        | inl k ↦ a.sound q f k
        | inr k ↦ subst (λ p. IsFact laps p f) (sym k.0) (subst (IsFact laps place) (sym k.1) is)
      ];
      apart = set_apart old place fact within x.1 a.apart;
    };
    keeps = set_keeps old place fact within x.0;
  },
  record { fact = fact; kept = get_or-set_same old place (Some fact) None within; link = refl },
)

pub clashing : (laps : Laps) (place : ℕ) (fact f g : Fact) (firsts : List (Option Fact)) → AreFirsts laps firsts → IsFact laps place fact → f ≡ fact → ClashesWith place fact firsts g → AreClashing laps f g
clashing laps place fact f g firsts a is same k = record {
  first_place = place;
  second_place = k.0;
  first = subst (IsFact laps place) (sym same) is;
  second = a.sound k.0 g k.1;
  apart = subst (λ x. Disagree place x k.0 g) (sym same) k.2;
}

-- where each of enough steps of the node is noted, all that is possible is
pub all_noted : (laps : Laps) → AreLaps laps → (firsts : List (Option Fact)) (p : ℕ) (some : List (ℕ × ℕ)) → AreEnough (shape_of laps).vocabulary (node_at (table_of laps.component) (pair_at laps.explored.pairs p).0).next some → ((k l : ℕ) → k < length some → IsOwner (shape_of laps) l (pair_at some k).0 → HasFirst firsts (pair_at laps.explored.pairs p).1 l) → IsNoted laps firsts p
all_noted laps x firsts p some enough all e l possible o =
    let shape = (shape_of laps) in
    let s = listed_step (node_at (table_of laps.component) (pair_at laps.explored.pairs p).0).next e possible in
    let seen : has (shape_of laps).vocabulary e ≡ true = link_shared shape l x.form o.within e o.event in
    let y = enough.seen s.place s.within (subst (λ j. has shape.vocabulary j ≡ true) (sym s.event) seen) in
    all y.place l y.within (subst (IsOwner shape l) (sym (ap (λ (z : ℕ × ℕ). z.0) y.is ∙ s.event)) o)

-- each of enough steps is possible
pub enough_possible : (laps : Laps) → AreLaps laps → (p : ℕ) (some : List (ℕ × ℕ)) → AreEnough (shape_of laps).vocabulary (node_at (table_of laps.component) (pair_at laps.explored.pairs p).0).next some → (k : ℕ) → k < length some → IsPossibleAt laps p (pair_at some k).0
enough_possible laps x p some enough k h =
    let part = part_at (shape_of laps).parts laps.component.number in
    let node = (pair_at laps.explored.pairs p).0 in
    let has_form = part_form (shape_of laps).parts laps.component.number x.part x.form.form in
    let form = node_form part.alphabet (length part.table) part.table node has_form.nodes in
    let l = enough.sound k h in
    let s = step_listed part.alphabet (length part.table) (node_at part.table node).next l.place form l.within in
    subst (λ (y : ℕ × ℕ). IsPossibleAt laps p y.0) l.is s.possible
