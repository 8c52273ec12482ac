-- Lists of steps: one step more in a row, the rows of some terms, and the same steps in another order.
use Rattle.term_sets.proofs.Prelude.{◌≡◌, ℕ, suc, ◌+◌, ◌<◌, inl, inr, Bool, true, false, ◌&&◌, ◌||◌, nat_eq, List, [], ◌∷◌, ◌++◌, length, get_or, set, take, refl, sym, ap, subst, ◌∙◌, arith, eq-eqb, list_any, flat_map, All, first_so, second_so, cases_eq, or_cases, or_left, or_right, eqb-true, ne_eqb, false≢true, get_or-set_same, get_or-set_other, get_or_default, length-set, list_any-append, list_any_more, list_any_at, or-false, has, RawTable, HasRawForm, has_move, AreMoveRows, AreMovesOf, HaveSameMoves}

-- a row with one more step at its end
row_more : (rows : List (List (ℕ × ℕ))) (from event to s e t : ℕ) → from < length rows → has_move (get_or (set rows from (get_or rows from [] ++ (event, to) ∷ [])) s []) e t ≡ (has_move (get_or rows s []) e t || (nat_eq s from && nat_eq e event && nat_eq t to))
row_more rows from event to s e t below =
    elim (cases_eq s from) as (λ _. has_move (get_or (set rows from (get_or rows from [] ++ (event, to) ∷ [])) s []) e t ≡ (has_move (get_or rows s []) e t || (nat_eq s from && nat_eq e event && nat_eq t to))) [
      | inl there ↦
          let read : get_or (set rows from (get_or rows from [] ++ (event, to) ∷ [])) from [] ≡ get_or rows from [] ++ (event, to) ∷ [] = get_or-set_same rows from (get_or rows from [] ++ (event, to) ∷ []) [] below in
          let test : nat_eq from from ≡ true = eq-eqb from from refl in
          rw (there, read, test) (has_more (get_or rows from []) event to e t)
      | inr other ↦
          let read : get_or (set rows from (get_or rows from [] ++ (event, to) ∷ [])) s [] ≡ get_or rows s [] = get_or-set_other rows from s (get_or rows from [] ++ (event, to) ∷ []) [] other in
          let test : nat_eq s from ≡ false = ne_eqb s from other in
          rw (read, test) (sym (or-false (has_move (get_or rows s []) e t)))
    ]
  where
    has_more : (row : List (ℕ × ℕ)) (event to e t : ℕ) → has_move (row ++ (event, to) ∷ []) e t ≡ (has_move row e t || (nat_eq e event && nat_eq t to))
    has_more row event to e t = list_any-append (λ (step : ℕ × ℕ). nat_eq e step.0 && nat_eq t step.1) row ((event, to) ∷ []) ∙ ap (λ (b : Bool). has_move row e t || b) (or-false (nat_eq e event && nat_eq t to))

-- one more step of the table, as the loop over the steps takes it
pub moves_more : (rows new : List (List (ℕ × ℕ))) (xs : List (ℕ × ℕ × ℕ)) (i : ℕ) (x : ℕ × ℕ × ℕ) → i < length xs → x ≡ get_or xs i x → x.0 < length rows → new ≡ set rows x.0 (get_or rows x.0 [] ++ (x.1, x.2) ∷ []) → (s e t : ℕ) → has_move (get_or rows s []) e t ≡ list_any (λ step. nat_eq s step.0 && nat_eq e step.1 && nat_eq t step.2) (take i xs) → has_move (get_or new s []) e t ≡ list_any (λ step. nat_eq s step.0 && nat_eq e step.1 && nat_eq t step.2) (take (i + 1) xs)
moves_more rows new xs i x below is within is_new s e t before =
    ap (λ (rs : List (List (ℕ × ℕ))). has_move (get_or rs s []) e t) is_new ∙ row_more rows x.0 x.1 x.2 s e t within
    ∙ ap (λ (b : Bool). b || (nat_eq s x.0 && nat_eq e x.1 && nat_eq t x.2)) before
    ∙ ap (λ (y : ℕ × ℕ × ℕ). list_any (λ (step : ℕ × ℕ × ℕ). nat_eq s step.0 && nat_eq e step.1 && nat_eq t step.2) (take i xs) || (nat_eq s y.0 && nat_eq e y.1 && nat_eq t y.2)) is
    ∙ sym (list_any_more (λ (step : ℕ × ℕ × ℕ). nat_eq s step.0 && nat_eq e step.1 && nat_eq t step.2) xs i x below)

pub length_more : (rows new : List (List (ℕ × ℕ))) (place : ℕ) (row : List (ℕ × ℕ)) → new ≡ set rows place row → length new ≡ length rows
length_more rows new place row is = ap length is ∙ length-set rows place row

-- ---- the steps of some terms
module _ (rows : List (List (ℕ × ℕ))) where
  from_rows : (terms : List ℕ) (e u : ℕ) → has_move (flat_map (λ n. get_or rows n []) terms) e u ≡ true → (x : ℕ) × (has terms x ≡ true) × (has_move (get_or rows x []) e u ≡ true)
  from_rows [] e u h = absurd (false≢true h)
  from_rows (n ∷ ns) e u h =
      elim (or_cases (has_move (get_or rows n []) e u) (has_move (flat_map (λ n. get_or rows n []) ns) e u) (sym (list_any-append (λ (step : ℕ × ℕ). nat_eq e step.0 && nat_eq u step.1) (get_or rows n []) (flat_map (λ n. get_or rows n []) ns)) ∙ h)) as (λ _. (x : ℕ) × (has (n ∷ ns) x ≡ true) × (has_move (get_or rows x []) e u ≡ true)) [
        | inl first ↦ (n, or_left (nat_eq n n) (has ns n) (eq-eqb n n refl), first)
        | inr rest ↦ let r = from_rows ns e u rest in (r.0, or_right (nat_eq n r.0) (has ns r.0) r.1, r.2)
      ]

  into_rows : (terms : List ℕ) (x e u : ℕ) → has terms x ≡ true → has_move (get_or rows x []) e u ≡ true → has_move (flat_map (λ n. get_or rows n []) terms) e u ≡ true
  into_rows [] x e u h move = absurd (false≢true h)
  into_rows (n ∷ ns) x e u h move =
      list_any-append (λ (step : ℕ × ℕ). nat_eq e step.0 && nat_eq u step.1) (get_or rows n []) (flat_map (λ n. get_or rows n []) ns)
      ∙ elim (or_cases (nat_eq n x) (has ns x) h) as (λ _. (has_move (get_or rows n []) e u || has_move (flat_map (λ n. get_or rows n []) ns) e u) ≡ true) [
        | inl same ↦ or_left (has_move (get_or rows n []) e u) (has_move (flat_map (λ n. get_or rows n []) ns) e u) (subst (λ (k : ℕ). has_move (get_or rows k []) e u ≡ true) (sym (eqb-true n x same)) move)
        | inr rest ↦ or_right (has_move (get_or rows n []) e u) (has_move (flat_map (λ n. get_or rows n []) ns) e u) (into_rows ns x e u rest move)
      ]

  pub moves_of_terms : (raw : RawTable) (terms : List ℕ) (gathered sorted : List (ℕ × ℕ)) → AreMoveRows raw rows → gathered ≡ flat_map (λ n. get_or rows n []) terms → HaveSameMoves sorted gathered → AreMovesOf raw terms sorted
  moves_of_terms raw terms gathered sorted are is moved =
      let same : (e u : ℕ) → has_move sorted e u ≡ has_move (flat_map (λ n. get_or rows n []) terms) e u = λ e u. moved e u ∙ ap (λ (ps : List (ℕ × ℕ)). has_move ps e u) is in
      record {
        sound = λ e u h. let r = from_rows terms e u (sym (same e u) ∙ h) in (r.0, r.1, sym (are.same r.0 e u) ∙ r.2);
        complete = λ x e u h step. same e u ∙ into_rows terms x e u h (are.same x e u ∙ step);
      }

-- ---- by places
pub any_place : {X : Type 0} (test : X → Bool) (xs : List X) (d : X) → list_any test xs ≡ true → (k : ℕ) × (k < length xs) × (test (get_or xs k d) ≡ true)
any_place test [] d h = absurd (false≢true h)
any_place test (x ∷ xs) d h = elim (or_cases (test x) (list_any test xs) h) as (λ _. (k : ℕ) × (k < length (x ∷ xs)) × (test (get_or (x ∷ xs) k d) ≡ true)) [
  | inl first ↦ (0, omega arith, first)
  | inr rest ↦ let r = any_place test xs d rest in let below : r.0 < length xs = r.1 in (suc r.0, omega arith, r.2)
]

pub listed_at : (moves : List (ℕ × ℕ)) (k : ℕ) → k < length moves → has_move moves (get_or moves k (0, 0)).0 (get_or moves k (0, 0)).1 ≡ true
listed_at moves k below =
    let step : ℕ × ℕ = get_or moves k (0, 0) in
    let first : nat_eq step.0 step.0 ≡ true = eq-eqb step.0 step.0 refl in
    let second : nat_eq step.1 step.1 ≡ true = eq-eqb step.1 step.1 refl in
    list_any_at (λ (s : ℕ × ℕ). nat_eq step.0 s.0 && nat_eq step.1 s.1) moves k (0, 0) below (rw (first, second) refl)

pub place_of_move : (moves : List (ℕ × ℕ)) (e u : ℕ) → has_move moves e u ≡ true → (k : ℕ) × (k < length moves) × (e ≡ (get_or moves k (0, 0)).0) × (u ≡ (get_or moves k (0, 0)).1)
place_of_move moves e u h =
    let r = any_place (λ (step : ℕ × ℕ). nat_eq e step.0 && nat_eq u step.1) moves (0, 0) h in
    let step : ℕ × ℕ = get_or moves r.0 (0, 0) in
    (r.0, r.1, eqb-true e step.0 (first_so (nat_eq e step.0) (nat_eq u step.1) r.2), eqb-true u step.1 (second_so (nat_eq e step.0) (nat_eq u step.1) r.2))

pub moves_within : (raw : RawTable) (terms : List ℕ) (moves : List (ℕ × ℕ)) → HasRawForm raw → AreMovesOf raw terms moves → All (λ step. step.1 < raw.count) moves
moves_within raw terms moves form are k d below =
    let e : get_or moves k d ≡ get_or moves k (0, 0) = get_or_default moves k d (0, 0) below in
    let source = are.sound (get_or moves k (0, 0)).0 (get_or moves k (0, 0)).1 (listed_at moves k below) in
    subst (λ (step : ℕ × ℕ). step.1 < raw.count) (sym e) (form.steps_within source.0 (get_or moves k (0, 0)).0 (get_or moves k (0, 0)).1 source.2).1
