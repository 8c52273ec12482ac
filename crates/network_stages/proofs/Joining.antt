-- Owners of events, and rows of shared events, while the parts are gone over.
use Rattle.network_stages.proofs.Prelude.{◌≡◌, ℕ, zero, suc, ◌+◌, ◌-◌, ◌<◌, ◌≤◌, inl, inr, List, [], ◌∷◌, ◌++◌, length, replicate, cond, true, false, Option, Some, None, IsTrue, nat_eq, refl, sym, ap, subst, ◌∙◌, arith, eq-eqb, cases_Bool, cases_eq, cases_lt, cond-true, cond-false, or_cases, or_left, or_right, both_ways, false≢true, eqb-true, length-append, length-replicate, get_or-replicate, get_or_append_left, get_or-append-add, same_Some, get_or-append_right, has, Part, part_at, alphabets_of, sharers, TripleDisjoint, at_three, owner_of, AreOwners, row_at, is_part, joint, joints, IsSharedBy, IsInRow, IsRow, AreRows, pair_at}

-- ---- owners

pub owners_more : (parts : List Part) (n : ℕ) (owners more : List (Option ℕ)) → TripleDisjoint (alphabets_of parts) → n < length parts → AreOwners parts n owners
    → ((e : ℕ) → owner_of more e ≡ cond (has (part_at parts n).alphabet e) (Some n) (owner_of owners e)) → AreOwners parts (n + 1) more
owners_more parts n owners more triple h a is = record {
  sound = λ e i k. elim (cases_Bool (has (part_at parts n).alphabet e)) [
    | inl on ↦
        let same : n ≡ i = same_Some n i (sym (on_is e on) ∙ k) in
        subst (λ x. (x < n + 1) × IsTrue (has (part_at parts x).alphabet e)) same (omega arith, on)
    | inr off ↦
        let old = a.sound e i (sym (off_is e off) ∙ k) in
        let less : i < n = old.0 in
        (omega arith, old.1)
  ];
  complete = λ e i j below above within x y. elim (cases_Bool (has (part_at parts n).alphabet e)) [
    | inl on ↦ elim (cases_eq i n) [
      | inl same ↦ on_is e on ∙ ap Some (sym same)
      | inr other ↦
          let two : sharers (alphabets_of parts) e ≤ 2 = triple e in
          absurd (let three : 3 ≤ sharers (alphabets_of parts) e = at_three parts e i n j (omega arith) h within other (λ same. omega arith) (λ same. omega arith) x on y in omega arith)
    ]
    | inr off ↦ elim (cases_eq i n) [
      | inl same ↦ absurd (both_ways (has (part_at parts n).alphabet e) off (subst (λ z. has (part_at parts z).alphabet e ≡ true) same x))
      | inr other ↦ off_is e off ∙ a.complete e i j (omega arith) (omega arith) within x y
    ]
  ];
}
  where
    on_is : (e : ℕ) → has (part_at parts n).alphabet e ≡ true → owner_of more e ≡ Some n
    on_is e on = is e ∙ cond-true (has (part_at parts n).alphabet e) (Some n) (owner_of owners e) on

    off_is : (e : ℕ) → has (part_at parts n).alphabet e ≡ false → owner_of more e ≡ owner_of owners e
    off_is e off = is e ∙ cond-false (has (part_at parts n).alphabet e) (Some n) (owner_of owners e) off

-- ---- one pair

part_is : (o : Option ℕ) (i : ℕ) → is_part o i ≡ true → o ≡ Some i
part_is None i h = absurd (false≢true h)
part_is (Some j) i h = ap Some (eqb-true j i h)

some_is : (o : Option ℕ) (i : ℕ) → o ≡ Some i → is_part o i ≡ true
some_is o i h = ap (λ x. is_part x i) h ∙ eq-eqb i i refl

pub one_joint : (owners : List (Option ℕ)) (part i e : ℕ) → is_part (owner_of owners e) i ≡ true → joint owners part i e ≡ (part, e) ∷ []
one_joint owners part i e h = cond-true (is_part (owner_of owners e) i) ((part, e) ∷ []) [] h

pub no_joint : (owners : List (Option ℕ)) (part i e : ℕ) → is_part (owner_of owners e) i ≡ false → joint owners part i e ≡ []
no_joint owners part i e h = cond-false (is_part (owner_of owners e) i) ((part, e) ∷ []) [] h

-- ---- the pairs of one part

record IsJoint (owners : List (Option ℕ)) (part i : ℕ) (events : List ℕ) (pair : ℕ × ℕ) : Type 0 where
  part_is : pair.0 ≡ part
  owner : owner_of owners pair.1 ≡ Some i
  event : IsTrue (has events pair.1)

joints_on : (owners : List (Option ℕ)) (part i e : ℕ) (events : List ℕ) → is_part (owner_of owners e) i ≡ true
    → joints owners part i (e ∷ events) ≡ (part, e) ∷ joints owners part i events
joints_on owners part i e events h = ap (λ js. js ++ joints owners part i events) (one_joint owners part i e h)

joints_off : (owners : List (Option ℕ)) (part i e : ℕ) (events : List ℕ) → is_part (owner_of owners e) i ≡ false
    → joints owners part i (e ∷ events) ≡ joints owners part i events
joints_off owners part i e events h = ap (λ js. js ++ joints owners part i events) (no_joint owners part i e h)

later_joint : (owners : List (Option ℕ)) (part i e : ℕ) (events : List ℕ) (pair : ℕ × ℕ) → IsJoint owners part i events pair
    → IsJoint owners part i (e ∷ events) pair
later_joint owners part i e events pair j = record { part_is = j.part_is; owner = j.owner; event = or_right (nat_eq e pair.1) (has events pair.1) j.event }

abbrev AreJoints : List (Option ℕ) → ℕ → ℕ → List ℕ → List (ℕ × ℕ) → Type 0
AreJoints owners part i events js = (k : ℕ) → k < length js → IsJoint owners part i events (pair_at js k)

first_joint : (owners : List (Option ℕ)) (part i e : ℕ) (events : List ℕ) (js : List (ℕ × ℕ)) → owner_of owners e ≡ Some i
    → AreJoints owners part i events js → AreJoints owners part i (e ∷ events) ((part, e) ∷ js)
first_joint owners part i e events js own all zero h = record { part_is = refl; owner = own; event = or_left (nat_eq e e) (has events e) (eq-eqb e e refl) }
first_joint owners part i e events js own all (suc k) h = later_joint owners part i e events (pair_at js k) (all k (omega arith))

joints_sound : (owners : List (Option ℕ)) (part i : ℕ) (events : List ℕ) → AreJoints owners part i events (joints owners part i events)
joints_sound owners part i [] k h = absurd (omega arith)
joints_sound owners part i (e ∷ events) k h = elim (cases_Bool (is_part (owner_of owners e) i)) [
  | inl on ↦ subst (AreJoints owners part i (e ∷ events)) (sym (joints_on owners part i e events on)) (first_joint owners part i e events (joints owners part i events) (part_is (owner_of owners e) i on) (joints_sound owners part i events)) k h
  | inr off ↦ subst (AreJoints owners part i (e ∷ events)) (sym (joints_off owners part i e events off)) (λ m less. later_joint owners part i e events (pair_at (joints owners part i events) m) (joints_sound owners part i events m less)) k h
]

in_longer : (pair : ℕ × ℕ) (row : List (ℕ × ℕ)) (j e : ℕ) → IsInRow row j e → IsInRow (pair ∷ row) j e
in_longer pair row j e r = record { place = suc r.place; within = let l : r.place < length row = r.within in omega arith; part = r.part; event = r.event }

joints_complete : (owners : List (Option ℕ)) (part i : ℕ) (events : List ℕ) (e : ℕ) → has events e ≡ true → owner_of owners e ≡ Some i
    → IsInRow (joints owners part i events) part e
joints_complete owners part i [] e h own = absurd (false≢true h)
joints_complete owners part i (x ∷ events) e h own = elim (or_cases (nat_eq x e) (has events e) h) [
  | inl same ↦
      let is : x ≡ e = eqb-true x e same in
      let on = some_is (owner_of owners x) i (ap (owner_of owners) is ∙ own) in
      subst (λ js. IsInRow js part e) (sym (joints_on owners part i x events on)) (record { place = 0; within = omega arith; part = refl; event = is })
  | inr later ↦
      let rest = joints_complete owners part i events e later own in
      elim (cases_Bool (is_part (owner_of owners x) i)) [
        | inl on ↦ subst (λ js. IsInRow js part e) (sym (joints_on owners part i x events on)) (in_longer (part, x) (joints owners part i events) part e rest)
        | inr off ↦ subst (λ js. IsInRow js part e) (sym (joints_off owners part i x events off)) rest
      ]
]

-- ---- rows

module _ (parts : List Part) (n i : ℕ) (owners : List (Option ℕ)) (row : List (ℕ × ℕ)) (a : AreOwners parts n owners) (h : n < length parts) (r : IsRow parts n i row) where
  abbrev js : List (ℕ × ℕ)
  js = joints owners n i (part_at parts n).alphabet

  left_at : (k : ℕ) → k < length row → pair_at (row ++ js) k ≡ pair_at row k
  left_at k less = get_or_append_left row js (0, 0) k less

  right_at : (k : ℕ) → length row ≤ k → pair_at (row ++ js) k ≡ pair_at js (k - length row)
  right_at k more = get_or-append_right row js k (0, 0) more

  rest_within : (k : ℕ) → k < length (row ++ js) → length row ≤ k → k - length row < length js
  rest_within k less more = omega (arith, length-append row js)

  old : (k : ℕ) → k < length row → IsSharedBy parts (n + 1) i (pair_at row k).0 (pair_at row k).1
  old k less =
      let s = r.sound k less in
      let within : (pair_at row k).0 < n = s.within in
      record { later = s.later; within = omega arith; left = s.left; right = s.right }

  new : (k : ℕ) → k < length js → IsSharedBy parts (n + 1) i (pair_at js k).0 (pair_at js k).1
  new k less =
      let j = joints_sound owners n i (part_at parts n).alphabet k less in
      let o = a.sound (pair_at js k).1 i j.owner in
      subst (λ z. IsSharedBy parts (n + 1) i z (pair_at js k).1) (sym j.part_is) (record { later = o.0; within = omega arith; left = o.1; right = j.event })

  pub row_more : IsRow parts (n + 1) i (row ++ js)
  row_more = record {
    sound = λ k less. elim (cases_lt k (length row)) [
      | inl before ↦ subst (λ (p : ℕ × ℕ). IsSharedBy parts (n + 1) i p.0 p.1) (sym (left_at k before)) (old k before)
      | inr after ↦ subst (λ (p : ℕ × ℕ). IsSharedBy parts (n + 1) i p.0 p.1) (sym (right_at k after)) (new (k - length row) (rest_within k less after))
    ];
    complete = λ j e s. elim (cases_eq j n) [
      | inl same ↦
          let later : i < j = s.later in
          let x = subst (λ z. has (part_at parts z).alphabet e ≡ true) same s.right in
          let own = a.complete e i n (omega arith) (omega arith) h s.left x in
          let p = joints_complete owners n i (part_at parts n).alphabet e x own in
          record {
            place = length row + p.place;
            within = let l : p.place < length js = p.within in omega (arith, length-append row js);
            part = ap (λ (q : ℕ × ℕ). q.0) (get_or-append-add row js p.place (0, 0)) ∙ p.part ∙ sym same;
            event = ap (λ (q : ℕ × ℕ). q.1) (get_or-append-add row js p.place (0, 0)) ∙ p.event;
          }
      | inr other ↦
          let within : j < n + 1 = s.within in
          let p = r.complete j e (record { later = s.later; within = omega arith; left = s.left; right = s.right }) in
          let l : p.place < length row = p.within in
          record {
            place = p.place;
            within = omega (arith, length-append row js);
            part = ap (λ (q : ℕ × ℕ). q.0) (left_at p.place p.within) ∙ p.part;
            event = ap (λ (q : ℕ × ℕ). q.1) (left_at p.place p.within) ∙ p.event;
          }
    ];
    rise = λ k m order less. elim (cases_lt m (length row)) [
      | inl before ↦
          let first : k < length row = omega arith in
          subst (λ (p : ℕ × ℕ). p.0 ≤ (pair_at (row ++ js) m).0) (sym (left_at k first)) (subst (λ (p : ℕ × ℕ). (pair_at row k).0 ≤ p.0) (sym (left_at m before)) (r.rise k m order before))
      | inr after ↦
          let last : (pair_at (row ++ js) m).0 ≡ n = ap (λ (q : ℕ × ℕ). q.0) (right_at m after) ∙ (joints_sound owners n i (part_at parts n).alphabet (m - length row) (rest_within m less after)).part_is in
          elim (cases_lt k (length row)) [
            | inl front ↦
                let below : (pair_at row k).0 < n = (r.sound k front).within in
                let same : (pair_at (row ++ js) k).0 ≡ (pair_at row k).0 = ap (λ (q : ℕ × ℕ). q.0) (left_at k front) in
                omega arith
            | inr back ↦
                let first : (pair_at (row ++ js) k).0 ≡ n = ap (λ (q : ℕ × ℕ). q.0) (right_at k back) ∙ (joints_sound owners n i (part_at parts n).alphabet (k - length row) (rest_within k (omega arith) back)).part_is in
                omega arith
          ]
    ];
  }

pub rows_more : (parts : List Part) (n : ℕ) (owners : List (Option ℕ)) (rows more : List (List (ℕ × ℕ))) → AreOwners parts n owners
    → n < length parts → AreRows parts n rows → length more ≡ length rows
    → ((i : ℕ) → row_at more i ≡ row_at rows i ++ joints owners n i (part_at parts n).alphabet) → AreRows parts (n + 1) more
rows_more parts n owners rows more a h r same is = record {
  one_each = same ∙ r.one_each;
  each = λ i less. subst (IsRow parts (n + 1) i) (sym (is i)) (row_more parts n i owners (row_at rows i) a h (r.each i less));
}

empty_row : (parts : List Part) (i : ℕ) → IsRow parts 0 i []
empty_row parts i = record {
  sound = λ k less. absurd (omega arith);
  complete = λ j e s. let none : j < 0 = s.within in absurd (omega arith);
  rise = λ k m order less. absurd (omega arith);
}

pub empty_rows : (parts : List Part) (rows : List (List (ℕ × ℕ))) → rows ≡ replicate (length parts) [] → AreRows parts 0 rows
empty_rows parts rows is = record {
  one_each = ap length is ∙ length-replicate (length parts) [];
  each = λ i less. subst (IsRow parts 0 i) (sym (ap (λ rs. row_at rs i) is ∙ get_or-replicate (length parts) i [] [] less)) (empty_row parts i);
}

-- the owners are among the first parts, so there is a row for each
pub owner_rows : (parts : List Part) (n : ℕ) (owners : List (Option ℕ)) (rows : List (List (ℕ × ℕ))) → AreOwners parts n owners → n < length parts
    → AreRows parts n rows → (e i : ℕ) → owner_of owners e ≡ Some i → i < length rows
owner_rows parts n owners rows a h r e i own =
    let less : i < n = (a.sound e i own).0 in
    let same : length rows ≡ length parts = r.one_each in
    omega arith
