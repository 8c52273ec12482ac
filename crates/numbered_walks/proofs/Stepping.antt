-- Components that move, one after another.
use Rattle.numbered_walks.proofs.Prelude.{◌≡◌, ◌↔◌, ℕ, zero, suc, ◌+◌, ◌<◌, ◌≤◌, inl, inr, Bool, true, false, ◌||◌, nat_eq, IsTrue, MatchBool, List, [], ◌∷◌, length, map, replicate, take, drop, set, get_or, slice_get, Some, refl, sym, ap, subst, ◌∙◌, arith, cases_eq, eq-eqb, eqb-true, false≢true, ne_eqb, or_left, or_right, get_or-set_other, get_or-set_same, length-replicate, length-set, length-take, get_or_default, get_or_from_slice_get, slice_get-get_or, slice_get_within, drop_all, length-map, offers_by_test, unstable_by_step, can_do, is_unstable, marked, places_from, AreOptions, AreOwnerRows, HasNone, IsAgreement, IsStanding, bit, component_at, is_agreed, offer_count, owner_count, owner_marks, AllCan, AllDo, AllDraw, Can, Has, Numbered, OneCan, OwnsItsSteps, first_terms, has_owner, AllGo, AllGoOn, Does, GoesOn, IsDrawn, options, Move, Standing, drop_read, RisesFrom, RisesFrom-weaken, has_below, has, passing, silent, visible, RawStep, RawTable, targets_in}
use Rattle.numbered_walks.proofs.Places.{mark_within}
use Rattle.numbered_walks.proofs.Agreeing.{some_within}
use Rattle.numbered_walks.proofs.Drawing.{all_drawn, drawn_steps, one_drawn}
use Rattle.numbered_walks.proofs.Optioning.{none_left, options_are, sound}
use Rattle.numbered_walks.proofs.Owning.{owner_counts_are}
use Rattle.numbered_walks.proofs.Counting.{none_at}
use Rattle.numbered_walks.proofs.Offering.{agreed_can, at_most_all, can_agreed, count_set, front_most, one_first, one_of_all, owner_counts, some_owner}
use Rattle.numbered_walks.specs.declared.moves.Move.TheVariants as move

moves_by_test : (raw : RawTable) (n : ℕ) → is_unstable raw n ≡ true → (t : ℕ) × RawStep raw n silent t
moves_by_test raw n test =
    let p = passing (λ (p : ℕ × ℕ). nat_eq n p.0) raw.silent test in
    let e : p.element.0 ≡ n = sym (eqb-true n p.element.0 p.passes) in
    let pair : p.element ≡ (n, p.element.1) = λ i. (e i, p.element.1) in
    (p.element.1, (p.place, p.at ∙ ap Some pair))

-- ---- what is marked is what can be done
module _ (cs : List Numbered) (s : Standing) (is : IsStanding cs s) where
  marked_moves : (i : ℕ) → get_or s.restless i false ≡ true → Has cs s.terms.items (move.Silent i)
  marked_moves i mark =
      let marks = is.marks in
      let inside = mark_within s.restless i mark in
      let below : i < length cs = omega (arith, marks, inside) in
      let same = is.one_each in
      record {
        component = component_at cs i;
        there = slice_get-get_or cs i _ below;
        term = get_or s.terms.items i 0;
        at = slice_get-get_or s.terms.items i 0 (omega (arith, below, same));
        can = moves_by_test (component_at cs i).table (get_or s.terms.items i 0) (sym (is.restless i below) ∙ mark);
      }

  moves_marked : (i : ℕ) → Has cs s.terms.items (move.Silent i) → get_or s.restless i false ≡ true
  moves_marked i can =
      let below = slice_get_within cs i can.component can.there in
      let test = unstable_by_step can.component.table can.term can.can.0 can.can.1 in
      is.restless i below ∙ ap (λ (c : Numbered). is_unstable c.table (get_or s.terms.items i 0)) (get_or_from_slice_get cs i can.component _ can.there) ∙ ap (is_unstable can.component.table) (get_or_from_slice_get s.terms.items i can.term 0 can.at) ∙ test

  silent_marks : (i : ℕ) → (get_or s.restless i false ≡ true) ↔ Has cs s.terms.items (move.Silent i)
  silent_marks i = (marked_moves i, moves_marked i)

  counted : (e : ℕ) → get_or s.agreement.agreed e false ≡ is_agreed (owner_count e cs) (offer_count e cs s.terms.items)
  counted e = is.agreement.marks e ∙ ap (λ n. is_agreed n (get_or s.agreement.offering.items e 0)) (is.owners e) ∙ ap (is_agreed (owner_count e cs)) (is.offering e)

  event_marks : (e : ℕ) → (get_or s.agreement.agreed e false ≡ true) ↔ Has cs s.terms.items (move.Event e)
  event_marks e = (λ h. agreed_can e cs s.terms.items is.own is.one_each (sym (counted e) ∙ h), λ h. counted e ∙ can_agreed e cs s.terms.items is.own is.one_each h)

  pub standing_options : AreOptions (Has cs s.terms.items) (options s.restless s.agreement.agreed)
  standing_options = options_are s.restless s.agreement.agreed (Has cs s.terms.items) silent_marks event_marks

  pub option_has : (m : Move) (k : ℕ) → slice_get (options s.restless s.agreement.agreed) k ≡ Some m → Has cs s.terms.items m
  option_has = sound s.restless s.agreement.agreed (Has cs s.terms.items) silent_marks event_marks

  pub is_stuck : (n : ℕ) → n ≡ length (options s.restless s.agreement.agreed) → (nat_eq n 0 ≡ true) ↔ HasNone (Has cs s.terms.items)
  is_stuck = none_left s.restless s.agreement.agreed (Has cs s.terms.items) silent_marks event_marks

-- ---- one component is put to another term
module _ (cs : List Numbered) (s : Standing) (is : IsStanding cs s) (i : ℕ) (below : i < length cs) where
  abbrev table : RawTable
  table = (component_at cs i).table

  abbrev x : ℕ
  x = get_or s.terms.items i 0

  pub place_marked : i < length s.restless
  place_marked = let marks = is.marks in omega (arith, marks, below)

  pub place_stands : i < length s.terms.items
  place_stands = let same = is.one_each in omega (arith, same, below)

  -- the events of a set that is read for it
  pub offers_read : (d : Numbered) (n : ℕ) (events : List ℕ) → d ≡ get_or cs i d → ((e : ℕ) → has events e ≡ can_do d.table n e) → (e : ℕ) → has events e ≡ can_do table n e
  offers_read d n events is offers e = offers e ∙ ap (λ (c : Numbered). can_do c.table n e) (sym (get_or_default cs i _ d below ∙ sym is))

  pub term_read : (n : ℕ) → n ≡ get_or s.terms.items i n → n ≡ x
  term_read n is = is ∙ get_or_default s.terms.items i n 0 place_stands

  -- it offers no more than is counted
  pub offered : (e : ℕ) → bit (can_do table x e) ≤ get_or s.agreement.offering.items e 0
  offered e =
      let one = one_of_all e cs s.terms.items i below is.one_each in
      let count = is.offering e in
      omega (arith, one, count)

  -- what it offers is an event of its own
  pub offers_within : (y e : ℕ) → IsTrue (can_do table y e) → e < length s.agreement.owners.items
  offers_within y e does =
      let o = offers_by_test table y e does in
      let own = owner_counts e cs i below (is.own i below y e o.0 o.1) in
      let count = is.owners e in
      some_within s.agreement.owners.items e (omega (arith, own, count))

  -- what is counted with the events of the new term in place of the old one's
  counts_there : (y e n : ℕ) → n + bit (can_do table x e) ≡ get_or s.agreement.offering.items e 0 + bit (can_do table y e) → n ≡ offer_count e cs (set s.terms.items i y)
  counts_there y e n exchanged =
      let change = count_set e cs s.terms.items i y below is.one_each in
      let count = is.offering e in
      omega (arith, change, count, exchanged)

  pub room_there : (y e most : ℕ) → length cs ≤ most → get_or s.agreement.offering.items e 0 + bit (can_do table y e) ≤ most + bit (can_do table x e)
  room_there y e most few =
      let change = count_set e cs s.terms.items i y below is.one_each in
      let count = is.offering e in
      let all = at_most_all e cs (set s.terms.items i y) in
      omega (arith, change, count, all, few)

  pub put_there : (t : Standing) (y : ℕ) → y < table.count → t.terms.items ≡ set s.terms.items i y → t.restless ≡ set s.restless i (is_unstable table y) → IsAgreement t.agreement
      → t.agreement.owners.items ≡ s.agreement.owners.items → ((e : ℕ) → get_or t.agreement.offering.items e 0 + bit (can_do table x e) ≡ get_or s.agreement.offering.items e 0 + bit (can_do table y e)) → IsStanding cs t
  put_there t y within terms restless form owners offering = record {
    one_each = ap length terms ∙ length-set s.terms.items i y ∙ is.one_each;
    within = λ j h. elim (cases_eq j i) as (λ _. get_or t.terms.items j 0 < (component_at cs j).table.count) [
      | inl same ↦ subst (λ k. get_or t.terms.items k 0 < (component_at cs k).table.count) (sym same) (subst (λ n. n < table.count) (sym (ap (λ (xs : List ℕ). get_or xs i 0) terms ∙ get_or-set_same s.terms.items i y 0 place_stands)) within)
      | inr other ↦ subst (λ n. n < (component_at cs j).table.count) (sym (ap (λ (xs : List ℕ). get_or xs j 0) terms ∙ get_or-set_other s.terms.items i j y 0 other)) (is.within j h)
    ];
    own = is.own;
    marks = ap length restless ∙ length-set s.restless i (is_unstable table y) ∙ is.marks;
    restless = λ j h. elim (cases_eq j i) as (λ _. get_or t.restless j false ≡ is_unstable (component_at cs j).table (get_or t.terms.items j 0)) [
      | inl same ↦ subst (λ k. get_or t.restless k false ≡ is_unstable (component_at cs k).table (get_or t.terms.items k 0)) (sym same)
          (ap (λ (ms : List Bool). get_or ms i false) restless ∙ get_or-set_same s.restless i (is_unstable table y) false place_marked ∙ sym (ap (λ (xs : List ℕ). is_unstable table (get_or xs i 0)) terms ∙ ap (is_unstable table) (get_or-set_same s.terms.items i y 0 place_stands)))
      | inr other ↦
          ap (λ (ms : List Bool). get_or ms j false) restless ∙ get_or-set_other s.restless i j (is_unstable table y) false other ∙ is.restless j h
          ∙ sym (ap (λ (xs : List ℕ). is_unstable (component_at cs j).table (get_or xs j 0)) terms ∙ ap (is_unstable (component_at cs j).table) (get_or-set_other s.terms.items i j y 0 other))
    ];
    agreement = form;
    owners = λ e. ap (λ (ns : List ℕ). get_or ns e 0) owners ∙ is.owners e;
    offering = λ e. counts_there y e (get_or t.agreement.offering.items e 0) (offering e) ∙ sym (ap (offer_count e cs) terms);
    small = subst (λ n. n ≤ 4294967296) (sym (ap length owners)) is.small;
  }

-- ---- each owner of an event does it
-- the components in these places can do the event where they stand
abbrev pub AreReady : List Numbered → ℕ → List ℕ → List ℕ → Type 0
AreReady cs e places now = (i : ℕ) → has places i ≡ true → (i < length cs) × Can (visible e) (component_at cs i) (get_or now i 0)

-- a place is among the marked ones where it has a mark
marked_rise : (k : ℕ) (ms : List Bool) → RisesFrom k (places_from k ms)
marked_rise k [] = tt
marked_rise k (true ∷ ms) = (omega arith, marked_rise (k + 1) ms)
marked_rise k (false ∷ ms) = RisesFrom-weaken k (k + 1) (places_from (k + 1) ms) (omega arith) (marked_rise (k + 1) ms)

has_marked : (k : ℕ) (ms : List Bool) (j p : ℕ) → p ≡ k + j → has (places_from k ms) p ≡ get_or ms j false
has_marked k [] j p at = refl
has_marked k (true ∷ ms) zero p at = or_left (nat_eq k p) (has (places_from (k + 1) ms) p) (eq-eqb k p (omega (arith, at)))
has_marked k (true ∷ ms) (suc j) p at =
    ap (λ (b : Bool). b || has (places_from (k + 1) ms) p) (ne_eqb k p (λ e. omega (arith, e, at))) ∙ has_marked (k + 1) ms j p (omega (arith, at))
has_marked k (false ∷ ms) zero p at = has_below (k + 1) (places_from (k + 1) ms) p (marked_rise (k + 1) ms) (omega (arith, at))
has_marked k (false ∷ ms) (suc j) p at = has_marked (k + 1) ms j p (omega (arith, at))

owner_can : (e : ℕ) (cs : List Numbered) (xs : List ℕ) (i : ℕ) → AllCan e cs xs → get_or (owner_marks e cs) i false ≡ true → (i < length cs) × Can (visible e) (component_at cs i) (get_or xs i 0)
owner_can e [] xs i can h = absurd (false≢true h)
owner_can e (c ∷ cs) [] i can h = absurd can
owner_can e (c ∷ cs) (x ∷ xs) zero can h = (omega arith, can.0 h)
owner_can e (c ∷ cs) (x ∷ xs) (suc i) can h = let rest = owner_can e cs xs i can.1 h in let below = rest.0 in (omega (arith, below), rest.1)

module _ (cs : List Numbered) (e : ℕ) (places : List ℕ) where
  -- before the first of them
  pub all_ready : (xs : List ℕ) → places ≡ marked (owner_marks e cs) → AllCan e cs xs → AreReady cs e places xs
  all_ready xs are can i h = owner_can e cs xs i can (sym (has_marked 0 (owner_marks e cs) i i (omega arith)) ∙ sym (ap (λ (ps : List ℕ). has ps i) are) ∙ h)

  pub owners_rise : places ≡ marked (owner_marks e cs) → RisesFrom 0 places
  owners_rise are = subst (RisesFrom 0) (sym are) (marked_rise 0 (owner_marks e cs))

  module _ (k i : ℕ) (inside : k < length places) (is : i ≡ get_or places k 0) where
    next_place : drop k places ≡ i ∷ drop (k + 1) places
    next_place = drop_read places k i inside (is ∙ get_or_default places k 0 i inside)

    pub this_ready : (now : List ℕ) → AreReady cs e (drop k places) now → (i < length cs) × Can (visible e) (component_at cs i) (get_or now i 0)
    this_ready now ready = ready i (ap (λ (ps : List ℕ). has ps i) next_place ∙ or_left (nat_eq i i) (has (drop (k + 1) places) i) (eq-eqb i i refl))

    rest_rises : RisesFrom 0 (drop k places) → RisesFrom (i + 1) (drop (k + 1) places)
    rest_rises rises = (subst (RisesFrom 0) next_place rises).1

    pub others_rise : RisesFrom 0 (drop k places) → RisesFrom 0 (drop (k + 1) places)
    others_rise rises = RisesFrom-weaken 0 (i + 1) (drop (k + 1) places) (omega arith) (rest_rises rises)

    pub others_ready : (now next : List ℕ) (n : ℕ) → RisesFrom 0 (drop k places) → next ≡ set now i n → AreReady cs e (drop k places) now → AreReady cs e (drop (k + 1) places) next
    others_ready now next n rises moved ready j h =
        let none : has (drop (k + 1) places) i ≡ false = has_below (i + 1) (drop (k + 1) places) i (rest_rises rises) (omega arith) in
        let other : j ≡ i → ⊥ = λ same. false≢true (sym none ∙ ap (has (drop (k + 1) places)) (sym same) ∙ h) in
        let was = ready j (ap (λ (ps : List ℕ). has ps j) next_place ∙ or_right (nat_eq i j) (has (drop (k + 1) places) j) h) in
        (was.0, subst (Can (visible e) (component_at cs j)) (sym (ap (λ (ns : List ℕ). get_or ns j 0) moved ∙ get_or-set_other now i j n 0 other)) was.1)

    pub goes_first : (now next ys : List ℕ) (y n w z : ℕ) → IsDrawn (targets_in (component_at cs i).table (get_or now i 0) (visible e)) y n w → next ≡ set now i n
        → AllGo cs (visible e) (drop (k + 1) places) next w ys z → AllGo cs (visible e) (drop k places) now y ys z
    goes_first now next ys y n w z drawn moved go =
        subst (λ (ps : List ℕ). AllGo cs (visible e) ps now y ys z) (sym next_place) (n, w, drawn, subst (λ (us : List ℕ). AllGo cs (visible e) (drop (k + 1) places) us w ys z) moved go)

  -- past the last of them
  pub all_gone : (k : ℕ) (now : List ℕ) (y : ℕ) → length places ≤ k → AllGo cs (visible e) (drop k places) now y now y
  all_gone k now y all = subst (λ (ps : List ℕ). AllGo cs (visible e) ps now y now y) (sym (drop_all k places all)) (refl, refl)

-- what is drawn is done
draws_do : (e k : ℕ) (cs : List Numbered) (xs ys : List ℕ) (y z : ℕ) → AllDraw (move.Event e) k cs y xs ys z → AllDo e cs xs ys
draws_do e k [] [] [] y z draws = tt
draws_do e k (c ∷ cs) (x ∷ xs) (n ∷ ns) y z draws = (does (has c.alphabet e) draws.1, draws_do e (k + 1) cs xs ns draws.0 z draws.2)
  where
    does : (b : Bool) → MatchBool b (IsDrawn (targets_in c.table x (visible e)) y n draws.0) ((x ≡ n) × (y ≡ draws.0)) → MatchBool b (RawStep c.table x (visible e) n) (x ≡ n)
    does true drawn = drawn_steps c.table x (visible e) y n draws.0 drawn
    does false stays = stays.0
draws_do e k _ _ _ y z draws = absurd draws

-- one component has moved silently
pub one_does : (cs : List Numbered) (old new : Standing) (i : ℕ) → i < length cs → length old.terms.items ≡ length cs → Does cs i silent old new → GoesOn cs (move.Silent i) old new
one_does cs old new i below same does = record {
  takes = record {
    component = component_at cs i;
    there = slice_get-get_or cs i _ below;
    term = get_or old.terms.items i 0;
    at = slice_get-get_or old.terms.items i 0 (omega (arith, below, same));
    next = does.next;
    step = drawn_steps (component_at cs i).table (get_or old.terms.items i 0) silent old.drawn does.next new.drawn does.drawn;
    others = does.others;
  };
  draws = subst (λ (l : List ℕ). AllDraw (move.Silent i) 0 cs old.drawn old.terms.items l new.drawn) (sym does.others) (one_drawn i 0 i cs old.terms.items old.drawn does.next new.drawn (omega arith) below same does.drawn);
}

-- all owners have done an event
pub all_go : (e : ℕ) (cs : List Numbered) (places : List ℕ) (old new : Standing) → IsTrue (has_owner cs e) → length old.terms.items ≡ length cs → places ≡ marked (owner_marks e cs) → AllGoOn cs (visible e) places old new
    → GoesOn cs (move.Event e) old new
all_go e cs places old new owned same are gone =
    let draws = all_drawn e 0 cs old.terms.items new.terms.items old.drawn new.drawn same (subst (λ (l : List ℕ). AllGoOn cs (visible e) l old new) are gone) in
    record { takes = (owned, draws_do e 0 cs old.terms.items new.terms.items old.drawn new.drawn draws); draws = draws }

pub one_within : (cs : List Numbered) (xs : List ℕ) (i : ℕ) → OneCan cs xs i → i < length cs
one_within cs xs i can = slice_get_within cs i can.component can.there

-- ---- as loops read the components
pub component_read : (cs : List Numbered) (i : ℕ) (c : Numbered) → i < length cs → c ≡ get_or cs i c → component_at cs i ≡ c
component_read cs i c below is = get_or_default cs i _ c below ∙ sym is

-- the components at their first terms
module _ (cs : List Numbered) (k : ℕ) (c : Numbered) (below : k < length cs) (is : c ≡ get_or cs k c) where
  pub first_within : (owners : List ℕ) → OwnsItsSteps c.alphabet c.table → ((e : ℕ) → get_or owners e 0 ≡ owner_count e cs) → (x e : ℕ) → IsTrue (can_do c.table x e) → e < length owners
  first_within owners own counts x e does =
      let o = offers_by_test c.table x e does in
      let here : has (component_at cs k).alphabet e ≡ true = ap (λ (d : Numbered). has d.alphabet e) (component_read cs k c below is) ∙ own x e o.0 o.1 in
      let some = owner_counts e cs k below here in
      let count = counts e in
      some_within owners e (omega (arith, some, count))

  pub first_room : (offering : List ℕ) (most : ℕ) → length cs ≤ most → ((e : ℕ) → get_or offering e 0 ≡ offer_count e (take k cs) (first_terms (take k cs))) → (e : ℕ) → get_or offering e 0 + bit (can_do c.table 0 e) ≤ most
  first_room offering most few counts e =
      let one = one_first e k cs c below is in
      let all = front_most e (k + 1) cs in
      let count = counts e in
      omega (arith, one, all, count, length-take (k + 1) cs, few)

  pub first_more : (old new : List ℕ) → ((e : ℕ) → get_or old e 0 ≡ offer_count e (take k cs) (first_terms (take k cs))) → ((e : ℕ) → get_or new e 0 ≡ get_or old e 0 + bit (can_do c.table 0 e))
      → (e : ℕ) → get_or new e 0 ≡ offer_count e (take (k + 1) cs) (first_terms (take (k + 1) cs))
  first_more old new before more e = let one = one_first e k cs c below is in let was = before e in let now = more e in omega (arith, one, was, now)

  -- what holds of each component before and of this one
  pub each_more : (P : ℕ → Numbered → Type 0) → ((i : ℕ) → i < k → P i (component_at cs i)) → P k c → (i : ℕ) → i < k + 1 → P i (component_at cs i)
  each_more P before this i h = elim (cases_eq i k) as (λ _. P i (component_at cs i)) [
    | inl same ↦ subst (λ j. P j (component_at cs j)) (sym same) (subst (P k) (sym (component_read cs k c below is)) this)
    | inr other ↦ before i (omega (arith, h, other))
  ]

  pub mark_more : (old new : List Bool) → length old ≡ length cs → new ≡ set old k (is_unstable c.table 0) → ((i : ℕ) → i < k → get_or old i false ≡ is_unstable (component_at cs i).table 0)
      → (i : ℕ) → i < k + 1 → get_or new i false ≡ is_unstable (component_at cs i).table 0
  mark_more old new count grown before =
      each_more (λ i d. get_or new i false ≡ is_unstable d.table 0)
      (λ i h. ap (λ (ms : List Bool). get_or ms i false) grown ∙ get_or-set_other old k i (is_unstable c.table 0) false (λ same. omega (arith, same, h)) ∙ before i h)
      (ap (λ (ms : List Bool). get_or ms k false) grown ∙ get_or-set_same old k (is_unstable c.table 0) false (omega (arith, count, below)))

pub terms_are_first : (cs : List Numbered) (terms : List ℕ) → terms ≡ replicate (length cs) 0 → terms ≡ first_terms cs
terms_are_first [] terms is = is
terms_are_first (c ∷ cs) terms is = is ∙ ap (λ (xs : List ℕ). 0 ∷ xs) (terms_are_first cs (replicate (length cs) 0) refl)

pub first_form : (cs : List Numbered) (s : Standing) → s.terms.items ≡ replicate (length cs) 0 → length s.restless ≡ length cs → ((i : ℕ) → i < length cs → get_or s.restless i false ≡ is_unstable (component_at cs i).table 0)
    → ((i : ℕ) → i < length cs → 0 < (component_at cs i).table.count) → ((i : ℕ) → i < length cs → OwnsItsSteps (component_at cs i).alphabet (component_at cs i).table) → IsAgreement s.agreement
    → ((e : ℕ) → get_or s.agreement.owners.items e 0 ≡ owner_count e cs) → ((e : ℕ) → get_or s.agreement.offering.items e 0 ≡ offer_count e cs (first_terms cs)) → length s.agreement.owners.items ≤ 4294967296 → IsStanding cs s
first_form cs s terms marks restless within own form owners offering small =
    let o : ℕ = 0 in
    let read : (i : ℕ) → get_or s.terms.items i 0 ≡ 0 = λ i. ap (λ (xs : List ℕ). get_or xs i 0) terms ∙ none_at o (length cs) i in
    record {
      one_each = ap length terms ∙ length-replicate (length cs) o;
      within = λ i h. subst (λ n. n < (component_at cs i).table.count) (sym (read i)) (within i h);
      own = own;
      marks = marks;
      restless = λ i h. restless i h ∙ sym (ap (is_unstable (component_at cs i).table) (read i));
      agreement = form;
      owners = owners;
      offering = λ e. offering e ∙ sym (ap (offer_count e cs) (terms_are_first cs s.terms.items terms));
      small = small;
    }

-- an event that has an owner has a row
pub row_there : (cs : List Numbered) (rows : List (List ℕ)) (e : ℕ) → AreOwnerRows cs rows → IsTrue (has_owner cs e) → e < length rows
row_there cs rows e are owned =
    let some = some_owner e cs owned in
    let count = owner_counts_are cs rows (map length rows) are refl e in
    let within = some_within (map length rows) e (omega (arith, some, count)) in
    omega (arith, within, length-map rows length)
