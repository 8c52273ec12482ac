-- Sets in the rows of their events, and that a smaller set is found in the rows of a set's events.
use Rattle.acceptances.proofs.Prelude.{◌≡◌, ℕ, ◌+◌, ◌<◌, ◌%◌, ◌⊎◌, inl, inr, Bool, true, false, not, ◌&&◌, ◌||◌, nat_eq, Option, Some, None, List, [], ◌∷◌, ◌++◌, length, get_or, set, refl, sym, ap, subst, ◌∙◌, arith, eq-eqb, All, list_any, first_so, or-false, false≢true, cases_Bool, cases_eq, cases_lt, eqb-true, or_left, or_right, or_cases, ne_eqb, get_or-set_same, get_or-set_other, length-set, get_or_default, list_any-append, list_any_at, and_second, is_subset_of, member_of_superset, is_smaller, has_smaller, IsRowFor, StandsInRow, AreEventRows, has}
use Rattle.acceptances.proofs.Member.{stands, any_of_member, member_of_any}

-- ---- the row that is chosen for a set
-- the best row among those of the events of the set before the ones that are left
abbrev pub BestSoFar : ℕ → List ℕ → List ℕ → Option ℕ → Type 0
BestSoFar count events left None = left ≡ events
BestSoFar count events left (Some row) = (row < count) × ((e : ℕ) × (has events e ≡ true) × (row ≡ e % count))

pub record IsWalked (count : ℕ) (events left : List ℕ) (best : Option ℕ) : Type 0 where
  pub best_row : BestSoFar count events left best
  pub inside : (e : ℕ) → has left e ≡ true → has events e ≡ true

-- ---- rows that grow
has-push : (xs : List ℕ) (x v : ℕ) → has (xs ++ x ∷ []) v ≡ (has xs v || nat_eq x v)
has-push xs x v = list_any-append (λ (y : ℕ). nat_eq y v) xs (x ∷ []) ∙ ap (λ (b : Bool). has xs v || b) (or-false (nat_eq x v))

has-row : (rows : List (List ℕ)) (at place row v : ℕ) → at < length rows → has (get_or (set rows at (get_or rows at [] ++ place ∷ [])) row []) v ≡ (has (get_or rows row []) v || (nat_eq at row && nat_eq place v))
has-row rows at place row v within =
    elim (cases_eq row at) as (λ _. has (get_or (set rows at (get_or rows at [] ++ place ∷ [])) row []) v ≡ (has (get_or rows row []) v || (nat_eq at row && nat_eq place v))) [
      | inl there ↦
          let read : get_or (set rows at (get_or rows at [] ++ place ∷ [])) at [] ≡ get_or rows at [] ++ place ∷ [] = get_or-set_same rows at (get_or rows at [] ++ place ∷ []) [] within in
          let test : nat_eq at at ≡ true = eq-eqb at at refl in
          rw (there, read, test) (has-push (get_or rows at []) place v)
      | inr other ↦
          let read : get_or (set rows at (get_or rows at [] ++ place ∷ [])) row [] ≡ get_or rows row [] = get_or-set_other rows at row (get_or rows at [] ++ place ∷ []) [] other in
          let test : nat_eq at row ≡ false = ne_eqb at row (λ e. other (sym e)) in
          rw (read, test) (sym (or-false (has (get_or rows row []) v)))
    ]

-- the first sets stand in rows
pub record AreRowsSoFar (sets : List (List ℕ)) (n : ℕ) (rows : List (List ℕ)) : Type 0 where
  pub some : 0 < length rows
  pub within : (row place : ℕ) → has (get_or rows row []) place ≡ true → place < length sets
  pub each : (place : ℕ) → place < n → StandsInRow (get_or sets place []) rows place

pub rows_more : (sets : List (List ℕ)) (n at : ℕ) (rows new : List (List ℕ)) → n < length sets → at < length rows → IsRowFor (length rows) (get_or sets n []) at → new ≡ set rows at (get_or rows at [] ++ n ∷ []) → AreRowsSoFar sets n rows → AreRowsSoFar sets (n + 1) new
rows_more sets n at rows new below within fits is s =
    let size : length new ≡ length rows = ap length is ∙ length-set rows at (get_or rows at [] ++ n ∷ []) in
    let read : (row v : ℕ) → has (get_or new row []) v ≡ (has (get_or rows row []) v || (nat_eq at row && nat_eq n v)) = λ row v. ap (λ (rs : List (List ℕ)). has (get_or rs row []) v) is ∙ has-row rows at n row v within in
    record {
      some = rw size s.some;
      within = λ row v h. elim (or_cases (has (get_or rows row []) v) (nat_eq at row && nat_eq n v) (sym (read row v) ∙ h)) as (λ _. v < length sets) [
        | inl old ↦ s.within row v old
        | inr new_one ↦ let same : n ≡ v = eqb-true n v (and_second (nat_eq at row) (nat_eq n v) new_one) in rw (← same) below
      ];
      each = λ place h. elim (cases_lt place n) as (λ _. StandsInRow (get_or sets place []) new place) [
        | inl early ↦
            let old = s.each place early in
            record { row = old.row; fits = subst (λ (k : ℕ). IsRowFor k (get_or sets place []) old.row) (sym size) old.fits; listed = read old.row place ∙ or_left (has (get_or rows old.row []) place) (nat_eq at old.row && nat_eq n place) old.listed }
        | inr late ↦
            let here : place ≡ n = omega arith in
            let both : (nat_eq at at && nat_eq n place) ≡ true = rw (eq-eqb at at refl, eq-eqb n place (sym here)) refl in
            record { row = at; fits = subst (λ (k : ℕ). IsRowFor (length new) (get_or sets k []) at) (sym here) (subst (λ (k : ℕ). IsRowFor k (get_or sets n []) at) (sym size) fits); listed = read at place ∙ or_right (has (get_or rows at []) place) (nat_eq at at && nat_eq n place) both }
      ];
    }

-- ---- smaller sets are found in rows
pub row_read : (rows : List (List ℕ)) (k : ℕ) (row read : List ℕ) → k < length rows → row ≡ get_or rows k row → read ≡ row → read ≡ get_or rows k []
row_read rows k row read below is same = same ∙ is ∙ get_or_default rows k row [] below

module _ (sets rows : List (List ℕ)) (M : List ℕ) (are : AreEventRows sets rows) where
  abbrev pub in_row : ℕ → Bool
  in_row row = list_any (λ p. is_smaller (get_or sets p []) M) (get_or rows row [])

  pub row_within : (row : ℕ) → All (λ p. p < length sets) (get_or rows row [])
  row_within row k d h = are.within row (get_or (get_or rows row []) k d) (list_any_at (λ y. nat_eq y (get_or (get_or rows row []) k d)) (get_or rows row []) k d h (eq-eqb _ _ refl))

  found_in_row : (row : ℕ) → in_row row ≡ true → has_smaller sets M ≡ true
  found_in_row row h =
      let p = member_of_any (λ (p : ℕ). is_smaller (get_or sets p []) M) (get_or rows row []) h in
      let below : p.0 < length sets = are.within row p.0 (any_of_member (λ (y : ℕ). nat_eq y p.0) (get_or rows row []) p.0 p.1 (eq-eqb p.0 p.0 refl)) in
      list_any_at (λ (N : List ℕ). is_smaller N M) sets p.0 [] below p.2

  told_in_row : (row : ℕ) (read : List ℕ) (b : Bool) → read ≡ get_or rows row [] → b ≡ list_any (λ p. is_smaller (get_or sets p []) M) read → in_row row ≡ b
  told_in_row row read b same told = sym (told ∙ ap (λ (ps : List ℕ). list_any (λ p. is_smaller (get_or sets p []) M) ps) same)

  pub told_found : (row : ℕ) (read : List ℕ) (b : Bool) → read ≡ get_or rows row [] → b ≡ list_any (λ p. is_smaller (get_or sets p []) M) read → b ≡ true → true ≡ has_smaller sets M
  told_found row read b same told holds = sym (found_in_row row (told_in_row row read b same told ∙ holds))

  pub told_none : (row : ℕ) (read : List ℕ) (b : Bool) → read ≡ get_or rows row [] → b ≡ list_any (λ p. is_smaller (get_or sets p []) M) read → b ≡ false → in_row row ≡ false
  told_none row read b same told fails = told_in_row row read b same told ∙ fails

  listed_in_row : (row place : ℕ) → has (get_or rows row []) place ≡ true → is_smaller (get_or sets place []) M ≡ true → in_row row ≡ true
  listed_in_row row place listed smaller =
      let p = member_of_any (λ (y : ℕ). nat_eq y place) (get_or rows row []) listed in
      let same : p.0 ≡ place = eqb-true p.0 place p.2 in
      any_of_member (λ (q : ℕ). is_smaller (get_or sets q []) M) (get_or rows row []) p.0 p.1 (rw same smaller)

  pub none_in_rows : in_row 0 ≡ false → ((e : ℕ) → has M e ≡ true → in_row (e % length rows) ≡ false) → has_smaller sets M ≡ false
  none_in_rows first others = elim (cases_Bool (has_smaller sets M)) as (λ _. has_smaller sets M ≡ false) [
    | inr fails ↦ fails
    | inl holds ↦
        let p = member_of_any (λ (N : List ℕ). is_smaller N M) sets holds in
        let s = stands p.0 sets p.1 in
        let row = are.each s.place s.within in
        let smaller : is_smaller (get_or sets s.place []) M ≡ true = ap (λ (N : List ℕ). is_smaller N M) (s.read []) ∙ p.2 in
        let there : in_row row.row ≡ true = listed_in_row row.row s.place row.listed smaller in
        elim row.fits as (λ _. has_smaller sets M ≡ false) [
          | inl none ↦ absurd (false≢true (sym first ∙ (ap in_row (sym none.1) ∙ there)))
          | inr some ↦
              let within : has M some.0 ≡ true = member_of_superset (get_or sets s.place []) M (first_so (is_subset_of (get_or sets s.place []) M) (not (is_subset_of M (get_or sets s.place []))) smaller) some.0 some.1 in
              absurd (false≢true (sym (others some.0 within) ∙ (ap in_row (sym some.2) ∙ there)))
        ]
  ]

  -- the events before those that are left were looked at
  abbrev pub IsLookedAt : List ℕ → Type 0
  IsLookedAt left = (e : ℕ) → has M e ≡ true → (has left e ≡ true) ⊎ (in_row (e % length rows) ≡ false)

  pub looked_more : (left more : List ℕ) (e row : ℕ) → left ≡ e ∷ more → row ≡ e % length rows → in_row row ≡ false → IsLookedAt left → IsLookedAt more
  looked_more left more e row is at none s f h = elim (s f h) as (λ _. (has more f ≡ true) ⊎ (in_row (f % length rows) ≡ false)) [
    | inr past ↦ inr past
    | inl ahead ↦ elim (or_cases (nat_eq e f) (has more f) (ap (λ (xs : List ℕ). has xs f) (sym is) ∙ ahead)) as (λ _. (has more f ≡ true) ⊎ (in_row (f % length rows) ≡ false)) [
      | inl here ↦ inr (ap (λ (k : ℕ). in_row (k % length rows)) (sym (eqb-true e f here)) ∙ (ap in_row (sym at) ∙ none))
      | inr later ↦ inl later
    ]
  ]

  pub all_looked_at : (left : List ℕ) → left ≡ [] → in_row 0 ≡ false → IsLookedAt left → has_smaller sets M ≡ false
  all_looked_at left ends first s = none_in_rows first (λ e h. elim (s e h) as (λ _. in_row (e % length rows) ≡ false) [
    | inr past ↦ past
    | inl ahead ↦ absurd (false≢true (ap (λ (xs : List ℕ). has xs e) (sym ends) ∙ ahead))
  ])
