-- Components, their terms and their tables, one after another; and where components stand, by their terms and by the numbers of these.
use Rattle.network_walks.proofs.Prelude.{◌≡◌, ℕ, zero, suc, ◌<◌, ◌||◌, Bool, inl, inr, MatchBool, List, [], ◌∷◌, length, map, set, slice_get, Some, refl, sym, ap, ap₂, subst, ◌∙◌, arith, MatchBool-at_false, MatchBool-at_true, cases_Bool, same_Some, has, AllTakePart, in_some_component, Label, visible, Component, ComponentStep, IsTableOf, RawStep, RawTable, standing_at, match_false, match_true, step_alphabet, AllDo, Numbered, has_owner, stands}

-- a component with its table
pub record Row {T : Type 0} (Step : T → Label → T → Type 0) : Type 0 where
  pub component : Component T
  pub terms : List T
  pub table : RawTable
  pub is : IsTableOf Step component terms table

module _ {T : Type 0} (Step : T → Label → T → Type 0) where
  abbrev pub components : List (Row Step) → List (Component T)
  components rows = map (λ (r : Row Step). r.component) rows

  abbrev pub numbered_row : Row Step → Numbered
  numbered_row r = record { alphabet = r.component.alphabet; table = r.table }

  abbrev pub numbered_rows : List (Row Step) → List Numbered
  numbered_rows rows = map numbered_row rows

  -- the component stands at the term with this number
  pub record StandsAt (r : Row Step) (c : Component T) (x : ℕ) : Type 0 where
    pub listed : slice_get r.terms x ≡ Some c.term
    pub alphabet : r.component.alphabet ≡ c.alphabet

  -- so each
  abbrev pub Stand : List (Row Step) → List (Component T) → List ℕ → Type 0
  Stand [] [] [] = Unit {0}
  Stand (r ∷ rows) (c ∷ cs) (x ∷ xs) = StandsAt r c x × Stand rows cs xs
  Stand rows cs xs = ⊥

  -- ---- one component
  -- a step of the component is one of its table
  pub record StepsByNumber (r : Row Step) (x : ℕ) (l : Label) (d : Component T) : Type 0 where
    pub number : ℕ
    pub step : RawStep r.table x l number
    pub stands : StandsAt r d number

  pub by_number : (r : Row Step) (c d : Component T) (x : ℕ) (l : Label) → StandsAt r c x → ComponentStep Step c l d → StepsByNumber r x l d
  by_number r c d x l at step =
      let here = subst (λ (y : Component T). ComponentStep Step y l d) (stands r.component c at.alphabet) step in
      let there = r.is.complete x c.term l d at.listed here in
      record { number = there.number; step = there.step; stands = record { listed = there.listed; alphabet = step_alphabet Step (standing_at r.component c.term) l d here } }

  -- a step of the table is one of the component
  pub record StepsByTerm (r : Row Step) (c : Component T) (l : Label) (y : ℕ) : Type 0 where
    pub next : Component T
    pub step : ComponentStep Step c l next
    pub stands : StandsAt r next y

  pub by_term : (r : Row Step) (c : Component T) (x y : ℕ) (l : Label) → StandsAt r c x → RawStep r.table x l y → StepsByTerm r c l y
  by_term r c x y l at step =
      let s = r.is.sound x y l step in
      let here = subst (λ (t : T). ComponentStep Step (standing_at r.component t) l (standing_at r.component s.goal)) (same_Some s.source c.term (sym s.from ∙ at.listed)) s.step in
      record {
        next = standing_at r.component s.goal;
        step = subst (λ (z : Component T). ComponentStep Step z l (standing_at r.component s.goal)) (sym (stands r.component c at.alphabet)) here;
        stands = record { listed = s.to; alphabet = refl };
      }

  -- ---- the component in a place
  pub record StandsInPlace (rows : List (Row Step)) (cs : List (Component T)) (xs : List ℕ) (i : ℕ) : Type 0 where
    pub row : Row Step
    pub row_there : slice_get (numbered_rows rows) i ≡ Some (numbered_row row)
    pub component : Component T
    pub there : slice_get cs i ≡ Some component
    pub number : ℕ
    pub number_there : slice_get xs i ≡ Some number
    pub stands : StandsAt row component number
    pub others : (d : Component T) (y : ℕ) → StandsAt row d y → Stand rows (set cs i d) (set xs i y)

  pub in_place : (rows : List (Row Step)) (cs : List (Component T)) (xs : List ℕ) (i : ℕ) → Stand rows cs xs → i < length xs → StandsInPlace rows cs xs i
  in_place [] [] [] i stand below = absurd (omega (arith, below))
  in_place (r ∷ rows) (c ∷ cs) (x ∷ xs) zero stand below = record {
    row = r;
    row_there = refl;
    component = c;
    there = refl;
    number = x;
    number_there = refl;
    stands = stand.0;
    others = λ d y at. (at, stand.1);
  }
  in_place (r ∷ rows) (c ∷ cs) (x ∷ xs) (suc i) stand below =
      let p = in_place rows cs xs i stand.1 (omega (arith, below)) in
      record {
        row = p.row;
        row_there = p.row_there;
        component = p.component;
        there = p.there;
        number = p.number;
        number_there = p.number_there;
        stands = p.stands;
        others = λ d y at. (stand.0, p.others d y at);
      }
  in_place _ _ _ i stand below = absurd stand

  pub as_many : (rows : List (Row Step)) (cs : List (Component T)) (xs : List ℕ) → Stand rows cs xs → length cs ≡ length xs
  as_many [] [] [] stand = refl
  as_many (r ∷ rows) (c ∷ cs) (x ∷ xs) stand = let rest = as_many rows cs xs stand.1 in omega (arith, rest)
  as_many _ _ _ stand = absurd stand

  -- ---- an event
  -- a component has it
  pub same_owner : (e : ℕ) (rows : List (Row Step)) (cs : List (Component T)) (xs : List ℕ) → Stand rows cs xs → has_owner (numbered_rows rows) e ≡ in_some_component cs e
  same_owner e [] [] [] stand = refl
  same_owner e (r ∷ rows) (c ∷ cs) (x ∷ xs) stand = ap₂ (λ (a b : Bool). a || b) (ap (λ (al : List ℕ). has al e) stand.0.alphabet) (same_owner e rows cs xs stand.1)
  same_owner e _ _ _ stand = absurd stand

  -- one component takes part in it, or stays
  record TakesByNumber (e : ℕ) (r : Row Step) (x : ℕ) (d : Component T) : Type 0 where
    number : ℕ
    does : MatchBool (has r.component.alphabet e) (RawStep r.table x (visible e) number) (x ≡ number)
    stands : StandsAt r d number

  one_by_number : (e : ℕ) (r : Row Step) (c d : Component T) (x : ℕ) → StandsAt r c x → MatchBool (has c.alphabet e) (ComponentStep Step c (visible e) d) (c ≡ d) → TakesByNumber e r x d
  one_by_number e r c d x at takes =
      let same : has r.component.alphabet e ≡ has c.alphabet e = ap (λ (al : List ℕ). has al e) at.alphabet in
      elim (cases_Bool (has c.alphabet e)) [
        | inl owned ↦
            let s = by_number r c d x (visible e) at (MatchBool-at_true _ _ owned takes) in
            record { number = s.number; does = match_true (has r.component.alphabet e) _ _ (same ∙ owned) s.step; stands = s.stands }
        | inr other ↦ record {
          number = x;
          does = match_false (has r.component.alphabet e) _ _ (same ∙ other) refl;
          stands = subst (λ (z : Component T). StandsAt r z x) (MatchBool-at_false _ _ other takes) at;
        }
      ]

  record TakesByTerm (e : ℕ) (r : Row Step) (c : Component T) (y : ℕ) : Type 0 where
    next : Component T
    takes : MatchBool (has c.alphabet e) (ComponentStep Step c (visible e) next) (c ≡ next)
    stands : StandsAt r next y

  one_by_term : (e : ℕ) (r : Row Step) (c : Component T) (x y : ℕ) → StandsAt r c x → MatchBool (has r.component.alphabet e) (RawStep r.table x (visible e) y) (x ≡ y) → TakesByTerm e r c y
  one_by_term e r c x y at does =
      let same : has r.component.alphabet e ≡ has c.alphabet e = ap (λ (al : List ℕ). has al e) at.alphabet in
      elim (cases_Bool (has c.alphabet e)) [
        | inl owned ↦
            let s = by_term r c x y (visible e) at (MatchBool-at_true _ _ (same ∙ owned) does) in
            record { next = s.next; takes = match_true (has c.alphabet e) _ _ owned s.step; stands = s.stands }
        | inr other ↦ record {
          next = c;
          takes = match_false (has c.alphabet e) _ _ other refl;
          stands = subst (λ (n : ℕ). StandsAt r c n) (MatchBool-at_false _ _ (same ∙ other) does) at;
        }
      ]

  -- so each
  pub record AllByNumber (e : ℕ) (rows : List (Row Step)) (xs : List ℕ) (ds : List (Component T)) : Type 0 where
    pub numbers : List ℕ
    pub does : AllDo e (numbered_rows rows) xs numbers
    pub stand : Stand rows ds numbers

  pub all_by_number : (e : ℕ) (rows : List (Row Step)) (cs ds : List (Component T)) (xs : List ℕ) → Stand rows cs xs → AllTakePart Step e cs ds → AllByNumber e rows xs ds
  all_by_number e [] [] [] [] stand take = record { numbers = []; does = tt; stand = tt }
  all_by_number e [] [] (d ∷ ds) xs stand take = absurd take
  all_by_number e (r ∷ rows) (c ∷ cs) [] xs stand take = absurd take
  all_by_number e (r ∷ rows) (c ∷ cs) (d ∷ ds) (x ∷ xs) stand take =
      let one = one_by_number e r c d x stand.0 take.0 in
      let rest = all_by_number e rows cs ds xs stand.1 take.1 in
      record { numbers = one.number ∷ rest.numbers; does = (one.does, rest.does); stand = (one.stands, rest.stand) }
  all_by_number e _ _ _ _ stand take = absurd stand

  pub record AllByTerm (e : ℕ) (rows : List (Row Step)) (cs : List (Component T)) (ys : List ℕ) : Type 0 where
    pub next : List (Component T)
    pub take : AllTakePart Step e cs next
    pub stand : Stand rows next ys

  pub all_by_term : (e : ℕ) (rows : List (Row Step)) (cs : List (Component T)) (xs ys : List ℕ) → Stand rows cs xs → AllDo e (numbered_rows rows) xs ys → AllByTerm e rows cs ys
  all_by_term e [] [] [] [] stand does = record { next = []; take = tt; stand = tt }
  all_by_term e [] [] [] (y ∷ ys) stand does = absurd does
  all_by_term e (r ∷ rows) (c ∷ cs) (x ∷ xs) [] stand does = absurd does
  all_by_term e (r ∷ rows) (c ∷ cs) (x ∷ xs) (y ∷ ys) stand does =
      let one = one_by_term e r c x y stand.0 does.0 in
      let rest = all_by_term e rows cs xs ys stand.1 does.1 in
      record { next = one.next ∷ rest.next; take = (one.takes, rest.take); stand = (one.stands, rest.stand) }
  all_by_term e _ _ _ _ stand does = absurd stand
