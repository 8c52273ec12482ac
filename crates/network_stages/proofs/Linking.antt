-- Links from the rows of shared events: those of one part after those of the parts before it.
use Rattle.network_stages.proofs.Prelude.{◌≡◌, ◌≢◌, ℕ, suc, ◌+◌, ◌-◌, ◌<◌, ◌≤◌, inl, inr, List, [], ◌∷◌, ◌++◌, length, get_or, take, drop, true, nat_eq, refl, sym, ap, subst, ◌∙◌, arith, eq-eqb, cases_eq, cases_lt, or_cases, false≢true, eqb-true, length-append, length-take-le, length-drop, get_or-take, get_or-drop, get_or_append_left, get_or_default, list_any_at, get_or-eq_default, get_or-append_seam, has, Part, part_at, Meet, Link, JoinsTwo, IsBelow, IsSharedBy, IsInRow, IsRow, has_event, link_in, HasLink, Precedes, AreLinksBefore, pair_at}

-- ---- the events of pairs

pub record HasPairOf (row : List (ℕ × ℕ)) (e : ℕ) : Type 0 where
  pub place : ℕ
  pub within : place < length row
  pub event : (pair_at row place).1 ≡ e

pub pair_of : (row : List (ℕ × ℕ)) (e : ℕ) → has_event row e ≡ true → HasPairOf row e
pair_of [] e h = absurd (false≢true h)
pair_of (p ∷ row) e h = elim (or_cases (nat_eq p.1 e) (has_event row e) h) [
  | inl same ↦ record { place = 0; within = omega arith; event = eqb-true p.1 e same }
  | inr later ↦ let r = pair_of row e later in record { place = suc r.place; within = let l : r.place < length row = r.within in omega arith; event = r.event }
]

pub of_pair : (row : List (ℕ × ℕ)) (e k : ℕ) → k < length row → (pair_at row k).1 ≡ e → has_event row e ≡ true
of_pair row e k h is = list_any_at (λ (p : ℕ × ℕ). nat_eq p.1 e) row k (0, 0) h (eq-eqb (pair_at row k).1 e is)

-- ---- groups of pairs with one part

-- from `start` to `end` stand the pairs with the part of the first one, up to the end of the row or to another part
pub record IsGroup (row : List (ℕ × ℕ)) (start end : ℕ) : Type 0 where
  pub some : start < end
  pub within : end ≤ length row
  pub same : (k : ℕ) → start ≤ k → k < end → (pair_at row k).0 ≡ (pair_at row start).0
  pub other : end < length row → (pair_at row end).0 ≢ (pair_at row start).0

abbrev pub group : List (ℕ × ℕ) → ℕ → ℕ → List (ℕ × ℕ)
group row start end = take (end - start) (drop start row)

group_at : (row : List (ℕ × ℕ)) (start end k : ℕ) → k < end - start → pair_at (group row start end) k ≡ pair_at row (start + k)
group_at row start end k h = get_or-take (end - start) (drop start row) k (0, 0) h ∙ get_or-drop start row k (0, 0)

group_length : (row : List (ℕ × ℕ)) (start end : ℕ) → start ≤ end → end ≤ length row → length (group row start end) ≡ end - start
group_length row start end order within = length-take-le (end - start) (drop start row) (omega (arith, length-drop start row))

record HasPairIn (row : List (ℕ × ℕ)) (start end e : ℕ) : Type 0 where
  place : ℕ
  above : start ≤ place
  below : place < end
  event : (pair_at row place).1 ≡ e

group_pair : (row : List (ℕ × ℕ)) (start end e : ℕ) → start ≤ end → end ≤ length row → has_event (group row start end) e ≡ true → HasPairIn row start end e
group_pair row start end e order within h =
    let p = pair_of (group row start end) e h in
    let less : p.place < length (group row start end) = p.within in
    let below : p.place < end - start = omega (arith, group_length row start end order within) in
    record { place = start + p.place; above = omega arith; below = omega arith; event = ap (λ (q : ℕ × ℕ). q.1) (sym (group_at row start end p.place below)) ∙ p.event }

pair_group : (row : List (ℕ × ℕ)) (start end e k : ℕ) → start ≤ end → end ≤ length row → start ≤ k → k < end → (pair_at row k).1 ≡ e
    → has_event (group row start end) e ≡ true
pair_group row start end e k order within above below is =
    let less : k - start < end - start = omega arith in
    let place : start + (k - start) ≡ k = omega arith in
    of_pair (group row start end) e (k - start) (omega (arith, group_length row start end order within))
    (ap (λ (q : ℕ × ℕ). q.1) (group_at row start end (k - start) less) ∙ ap (λ m. (pair_at row m).1) place ∙ is)

-- ---- links, one after another

in_longer : (links : List Link) (link : Link) (l r : ℕ) → HasLink links l r → HasLink (links ++ link ∷ []) l r
in_longer links link l r h =
    let at = get_or_append_left links (link ∷ []) (record { left = 0; right = 0; shared = [] }) h.place h.within in
    let less : h.place < length links = h.within in
    record { place = h.place; within = omega (arith, length-append links (link ∷ [])); left = ap (λ (k : Link). k.left) at ∙ h.left; right = ap (λ (k : Link). k.right) at ∙ h.right }

-- one more link, of the pair of parts that comes next
pub link_added : (parts : List Part) (i j : ℕ) (links : List Link) (link : Link) → AreLinksBefore parts i j links → JoinsTwo parts link
    → link.left ≡ i → link.right ≡ j → AreLinksBefore parts i (j + 1) (links ++ link ∷ [])
link_added parts i j links link a joins left right = record {
  joins = λ k less. elim (cases_eq k (length links)) [
    | inl same ↦ subst (JoinsTwo parts) (sym (new_at k same)) joins
    | inr other ↦ subst (JoinsTwo parts) (sym (old_at k (front k less other))) (a.joins k (front k less other))
  ];
  before = λ k less. elim (cases_eq k (length links)) [
    | inl same ↦ subst (λ (x : Link). Precedes x.left x.right i (j + 1)) (sym (new_at k same)) (inr (left, omega arith))
    | inr other ↦ subst (λ (x : Link). Precedes x.left x.right i (j + 1)) (sym (old_at k (front k less other))) (longer (link_in links k).left (link_in links k).right (a.before k (front k less other)))
  ];
  all = λ l r order within precedes meet. elim precedes [
    | inl above ↦ in_longer links link l r (a.all l r order within (inl above) meet)
    | inr row ↦ elim (cases_eq r j) [
      | inl same ↦ record {
        place = length links;
        within = omega (arith, length-append links (link ∷ []));
        left = ap (λ (x : Link). x.left) (new_at (length links) refl) ∙ left ∙ sym row.0;
        right = ap (λ (x : Link). x.right) (new_at (length links) refl) ∙ right ∙ sym same;
      }
      | inr other ↦ let less : r < j + 1 = row.1 in in_longer links link l r (a.all l r order within (inr (row.0, omega arith)) meet)
    ]
  ];
  rise = λ k m order less.
      let first : k < length links = omega (arith, length-append links (link ∷ [])) in
      elim (cases_eq m (length links)) [
        | inl same ↦
            let below : IsBelow (link_in links k) link = below_new k first in
            subst (IsBelow (link_in (links ++ link ∷ []) k)) (sym (new_at m same)) (subst (λ (x : Link). IsBelow x link) (sym (old_at k first)) below)
        | inr other ↦
            let below = a.rise k m order (front m less other) in
            subst (IsBelow (link_in (links ++ link ∷ []) k)) (sym (old_at m (front m less other))) (subst (λ (x : Link). IsBelow x (link_in links m)) (sym (old_at k first)) below)
      ];
}
  where
    front : (k : ℕ) → k < length (links ++ link ∷ []) → (k ≡ length links → ⊥) → k < length links
    front k less other = omega (arith, length-append links (link ∷ []))

    old_at : (k : ℕ) → k < length links → link_in (links ++ link ∷ []) k ≡ link_in links k
    old_at k less = get_or_append_left links (link ∷ []) (record { left = 0; right = 0; shared = [] }) k less

    new_at : (k : ℕ) → k ≡ length links → link_in (links ++ link ∷ []) k ≡ link
    new_at k same = ap (link_in (links ++ link ∷ [])) same ∙ get_or-append_seam links link [] (record { left = 0; right = 0; shared = [] })

    longer : (l r : ℕ) → Precedes l r i j → Precedes l r i (j + 1)
    longer l r p = elim p [ inl above ↦ inl above | inr row ↦ let less : r < j = row.1 in inr (row.0, omega arith) ]

    below_new : (k : ℕ) → k < length links → IsBelow (link_in links k) link
    below_new k less = elim (a.before k less) [
      | inl above ↦ let h : (link_in links k).left < i = above in inl (omega arith)
      | inr row ↦ let h : (link_in links k).right < j = row.1 in let same : (link_in links k).left ≡ i = row.0 in inr (omega arith, omega arith)
    ]

-- where no event is shared with the parts from j on, up to m, these add no link
pub further : (parts : List Part) (i j m : ℕ) (links : List Link) → AreLinksBefore parts i j links → j ≤ m
    → ((r : ℕ) → i < r → j ≤ r → r < m → r < length parts → Meet (part_at parts i).alphabet (part_at parts r).alphabet → ⊥) → AreLinksBefore parts i m links
further parts i j m links a order none = record {
  joins = a.joins;
  before = λ k less. elim (a.before k less) [ inl above ↦ inl above | inr row ↦ let h : (link_in links k).right < j = row.1 in inr (row.0, omega arith) ];
  all = λ l r later within precedes meet. elim precedes [
    | inl above ↦ a.all l r later within (inl above) meet
    | inr row ↦ elim (cases_lt r j) [
      | inl less ↦ a.all l r later within (inr (row.0, less)) meet
      | inr more ↦ absurd (none r (subst (λ x. x < r) row.0 later) more row.1 within (subst (λ x. Meet (part_at parts x).alphabet (part_at parts r).alphabet) row.0 meet))
    ]
  ];
  rise = a.rise;
}

-- the links of the first i + 1 parts
pub next_part : (parts : List Part) (i : ℕ) (links : List Link) → AreLinksBefore parts i (length parts) links → AreLinksBefore parts (i + 1) 0 links
next_part parts i links a = record {
  joins = a.joins;
  before = λ k less. inl (elim (a.before k less) [ inl above ↦ let h : (link_in links k).left < i = above in omega arith | inr row ↦ let h : (link_in links k).left ≡ i = row.0 in omega arith ]);
  all = λ l r order within precedes meet. elim precedes [
    | inl above ↦ elim (cases_eq l i) [
      | inl same ↦ a.all l r order within (inr (same, within)) meet
      | inr other ↦ let h : l < i + 1 = above in a.all l r order within (inl (omega arith)) meet
    ]
    | inr row ↦ absurd (let h : r < 0 = row.1 in omega arith)
  ];
  rise = a.rise;
}

-- ---- the links of one part

-- the part of the pair in the place k, or the number of parts past the end
abbrev pub next_right : List Part → List (ℕ × ℕ) → ℕ → ℕ
next_right parts row k = (get_or row k (length parts, 0)).0

pub record AreLinksTo (parts : List Part) (i : ℕ) (row : List (ℕ × ℕ)) (start : ℕ) (links : List Link) : Type 0 where
  pub before : AreLinksBefore parts i (next_right parts row start) links
  pub begins : (k : ℕ) → k < start → start < length row → (pair_at row k).0 < (pair_at row start).0

next_at : (parts : List Part) (row : List (ℕ × ℕ)) (k : ℕ) → k < length row → next_right parts row k ≡ (pair_at row k).0
next_at parts row k h = ap (λ (p : ℕ × ℕ). p.0) (get_or_default row k (length parts, 0) (0, 0) h)

next_end : (parts : List Part) (row : List (ℕ × ℕ)) (k : ℕ) → length row ≤ k → next_right parts row k ≡ length parts
next_end parts row k h = ap (λ (p : ℕ × ℕ). p.0) (get_or-eq_default row (length parts, 0) h)

module _ (parts : List Part) (i : ℕ) (row : List (ℕ × ℕ)) (r : IsRow parts (length parts) i row) where
  -- a part with which an event is shared stands in the row
  shared_place : (j : ℕ) → i < j → j < length parts → Meet (part_at parts i).alphabet (part_at parts j).alphabet → (e : ℕ) × IsInRow row j e
  shared_place j later within meet = (meet.event, r.complete j meet.event (record { later = later; within = within; left = meet.first; right = meet.second }))

  pub last_links : (start : ℕ) (links : List Link) → length row ≤ start → AreLinksTo parts i row start links → AreLinksBefore parts (i + 1) 0 links
  last_links start links h a = next_part parts i links (subst (λ m. AreLinksBefore parts i m links) (next_end parts row start h) a.before)

  module _ (start end : ℕ) (within_row : start < length row) (g : IsGroup row start end) where
    past_group : (k : ℕ) → end ≤ k → k < length row → (pair_at row start).0 < (pair_at row k).0
    past_group k above below =
        let inside : end < length row = omega arith in
        let first : (pair_at row start).0 ≤ (pair_at row end).0 = r.rise start end (let x : start < end = g.some in omega arith) inside in
        let second : (pair_at row end).0 ≤ (pair_at row k).0 = r.rise end k above below in
        let differ : (pair_at row end).0 ≢ (pair_at row start).0 = g.other inside in
        omega arith

    group_begins : (k : ℕ) → k < end → end < length row → (pair_at row k).0 < (pair_at row end).0
    group_begins k less inside =
        let last : (pair_at row start).0 < (pair_at row end).0 = past_group end (omega arith) inside in
        elim (cases_lt k start) [
          | inl before ↦ let h : (pair_at row k).0 ≤ (pair_at row start).0 = r.rise k start (omega arith) within_row in omega arith
          | inr after ↦ let h : (pair_at row k).0 ≡ (pair_at row start).0 = g.same k after less in omega arith
        ]

    module _ (shared : List ℕ) (is : (e : ℕ) → has shared e ≡ has_event (group row start end) e) (begins : (k : ℕ) → k < start → (pair_at row k).0 < (pair_at row start).0) where
      abbrev link : Link
      link = record { left = i; right = (pair_at row start).0; shared = shared }

      -- the events of the pairs of the group are those that both parts have
      both_have : (e : ℕ) → has shared e ≡ true → IsSharedBy parts (length parts) i (pair_at row start).0 e
      both_have e h =
          let order : start ≤ end = let x : start < end = g.some in omega arith in
          let p = group_pair row start end e order g.within (sym (is e) ∙ h) in
          let inside : p.place < length row = let x : p.place < end = p.below in let y : end ≤ length row = g.within in omega arith in
          subst (IsSharedBy parts (length parts) i (pair_at row start).0) p.event (subst (λ j. IsSharedBy parts (length parts) i j (pair_at row p.place).1) (g.same p.place p.above p.below) (r.sound p.place inside))

      has_both : (e : ℕ) → IsSharedBy parts (length parts) i (pair_at row start).0 e → has shared e ≡ true
      has_both e s =
          let p = r.complete (pair_at row start).0 e s in
          let part : (pair_at row p.place).0 ≡ (pair_at row start).0 = p.part in
          let order : start ≤ end = let x : start < end = g.some in omega arith in
          let above : start ≤ p.place = elim (cases_lt p.place start) [ inl less ↦ absurd (let h : (pair_at row p.place).0 < (pair_at row start).0 = begins p.place less in omega arith) | inr more ↦ more ] in
          let below : p.place < end = elim (cases_lt p.place end) [ inl less ↦ less | inr more ↦ absurd (let h : (pair_at row start).0 < (pair_at row p.place).0 = past_group p.place more p.within in omega arith) ] in
          is e ∙ pair_group row start end e p.place order g.within above below p.event

      group_joins : JoinsTwo parts link
      group_joins =
          let s = r.sound start within_row in
          record {
            ordered = s.later;
            within = s.within;
            shared = λ e. ((λ h. let b = both_have e h in (b.left, b.right)), (λ h. has_both e (record { later = s.later; within = s.within; left = h.0; right = h.1 })));
            some = ((pair_at row start).1, has_both (pair_at row start).1 s);
          }

      pub group_added : (links : List Link) → AreLinksTo parts i row start links → AreLinksTo parts i row end (links ++ link ∷ [])
      group_added links a =
          let here = subst (λ m. AreLinksBefore parts i m links) (next_at parts row start within_row) a.before in
          let added = link_added parts i (pair_at row start).0 links link here group_joins refl refl in
          record {
            before = further parts i ((pair_at row start).0 + 1) (next_right parts row end) (links ++ link ∷ []) added next_above (λ j later above below inside meet.
                let s = (shared_place j later inside meet).1 in
                let part : (pair_at row s.place).0 ≡ j = s.part in
                elim (cases_lt s.place end) [
                  | inl less ↦ elim (cases_lt s.place start) [
                    | inl before ↦ let h : (pair_at row s.place).0 < (pair_at row start).0 = begins s.place before in omega arith
                    | inr after ↦ let h : (pair_at row s.place).0 ≡ (pair_at row start).0 = g.same s.place after less in omega arith
                  ]
                  | inr more ↦
                      let l : s.place < length row = s.within in
                      let h : (pair_at row end).0 ≤ (pair_at row s.place).0 = r.rise end s.place more s.within in
                      let next : next_right parts row end ≡ (pair_at row end).0 = next_at parts row end (omega arith) in
                      omega arith
                ]);
            begins = group_begins;
          }
        where
          next_above : (pair_at row start).0 + 1 ≤ next_right parts row end
          next_above = elim (cases_lt end (length row)) [
            | inl inside ↦ let h : (pair_at row start).0 < (pair_at row end).0 = past_group end (omega arith) inside in let next : next_right parts row end ≡ (pair_at row end).0 = next_at parts row end inside in omega arith
            | inr past ↦ let h : (pair_at row start).0 < length parts = (r.sound start within_row).within in let next : next_right parts row end ≡ length parts = next_end parts row end past in omega arith
          ]
