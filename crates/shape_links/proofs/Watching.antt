-- Observers of links see shared events alone. And enough of a node's steps show what is shared there.
use Rattle.shape_links.proofs.Prelude.{◌≡◌, ℕ, suc, ◌+◌, ◌-◌, ◌<◌, inl, inr, List, [], ◌∷◌, ◌++◌, length, get_or, Bool, true, false, ◌&&◌, nat_eq, sym, ap, subst, ◌∙◌, arith, eq-eqb, slice_index, length-append, get_or_append_left, get_or-append_seam, cases_Bool, cases_eq, cases_lt, cond-true, cond-false, and_from, or_cases, both_ways, false≢true, list_any_at, list_all_at, has, HasForm, Part, part_at, Shape, IsWellFormed, link_at, part_form, link_shared, SeesOnly, AreEnough, HaveEnough, pair_at, parity_step, holder_step, AreOwners, AreSteps, list_all, list_any}
use Rattle.shape_links.proofs.Links.{part_read}

-- an event that is not shared is on no link
pub off_link : (shape : Shape) (l e : ℕ) → IsWellFormed shape → l < length shape.links → has shape.vocabulary e ≡ false → has (link_at shape l).shared e ≡ false
off_link shape l e w h out = elim (cases_Bool (has (link_at shape l).shared e)) [ inl on ↦ absurd (both_ways (has shape.vocabulary e) out (link_shared shape l w h e on)) | inr off ↦ off ]

pub parity_only : (shape : Shape) (l : ℕ) → IsWellFormed shape → l < length shape.links → SeesOnly shape.vocabulary (parity_step (link_at shape l).shared)
parity_only shape l w h state e out = cond-false (has (link_at shape l).shared e) _ state (off_link shape l e w h out)

pub holder_only : (shape : Shape) (owners : List ℕ) → IsWellFormed shape → AreOwners shape owners → SeesOnly shape.vocabulary (holder_step owners)
holder_only shape owners w are state e out =
    elim (cases_eq (slice_index owners e) 0) [
      | inl none ↦ cond-true (nat_eq (slice_index owners e) 0) state _ (eq-eqb (slice_index owners e) 0 none)
      | inr some ↦
          let o = are.sound e (slice_index owners e - 1) (omega arith) in
          absurd (both_ways (has shape.vocabulary e) out (link_shared shape (slice_index owners e - 1) w o.within e o.event))
    ]

-- ---- tests of steps

passing : (test : ℕ × ℕ → Bool) (xs : List (ℕ × ℕ)) → list_any test xs ≡ true → (k : ℕ) × (k < length xs) × (test (pair_at xs k) ≡ true)
passing test [] h = absurd (false≢true h)
passing test (x ∷ xs) h = elim (or_cases (test x) (list_any test xs) h) [
  | inl here ↦ (0, omega arith, here)
  | inr later ↦ let r = passing test xs later in (suc r.0, (let b : r.0 < length xs = r.1 in omega arith), r.2)
]

failing : (test : ℕ × ℕ → Bool) (xs : List (ℕ × ℕ)) → list_all test xs ≡ false → (k : ℕ) × (k < length xs) × (test (pair_at xs k) ≡ false)
failing test [] h = absurd (false≢true (sym h))
failing test (x ∷ xs) h = elim (cases_Bool (test x)) [
  | inr here ↦ (0, omega arith, here)
  | inl passes ↦ elim (cases_Bool (list_all test xs)) [
    | inl all ↦ absurd (both_ways (test x && list_all test xs) h (and_from (test x) (list_all test xs) passes all))
    | inr some ↦ let r = failing test xs some in (suc r.0, (let b : r.0 < length xs = r.1 in omega arith), r.2)
  ]
]

module _ (V : List ℕ) (next some : List (ℕ × ℕ)) (test : ℕ × ℕ → Bool) (enough : AreEnough V next some) where
  -- a test that no private event passes is passed by one of enough steps where it is passed by any
  pub any_enough : ((x : ℕ × ℕ) → has V x.0 ≡ false → test x ≡ false) → list_any test some ≡ list_any test next
  any_enough private = elim (cases_Bool (list_any test next)) [
    | inl there ↦
        let r = passing test next there in
        elim (cases_Bool (has V (pair_at next r.0).0)) [
          | inl seen ↦ let l = enough.seen r.0 r.1 seen in list_any_at test some l.place (0, 0) l.within (subst (λ (x : ℕ × ℕ). test x ≡ true) (sym l.is) r.2) ∙ sym there
          | inr unseen ↦ absurd (both_ways (test (pair_at next r.0)) (private (pair_at next r.0) unseen) r.2)
        ]
    | inr absent ↦ elim (cases_Bool (list_any test some)) [
      | inl there ↦
          let r = passing test some there in
          let l = enough.sound r.0 r.1 in
          absurd (both_ways (list_any test next) absent (list_any_at test next l.place (0, 0) l.within (subst (λ (x : ℕ × ℕ). test x ≡ true) (sym l.is) r.2)))
      | inr none ↦ none ∙ sym absent
    ]
  ]

  -- the same of a test that each private event passes
  pub all_enough : ((x : ℕ × ℕ) → has V x.0 ≡ false → test x ≡ true) → list_all test some ≡ list_all test next
  all_enough private = elim (cases_Bool (list_all test next)) [
    | inr absent ↦
        let r = failing test next absent in
        elim (cases_Bool (has V (pair_at next r.0).0)) [
          | inl seen ↦ let l = enough.seen r.0 r.1 seen in list_all_at test some l.place (0, 0) l.within (subst (λ (x : ℕ × ℕ). test x ≡ false) (sym l.is) r.2) ∙ sym absent
          | inr unseen ↦ absurd (both_ways (test (pair_at next r.0)) r.2 (private (pair_at next r.0) unseen))
        ]
    | inl there ↦ elim (cases_Bool (list_all test some)) [
      | inr none ↦
          let r = failing test some none in
          let l = enough.sound r.0 r.1 in
          absurd (both_ways (list_all test next) (list_all_at test next l.place (0, 0) l.within (subst (λ (x : ℕ × ℕ). test x ≡ false) (sym l.is) r.2)) there)
      | inl all ↦ all ∙ sym there
    ]
  ]

-- ---- the steps of each part

-- the steps of one part more
pub steps_more : (shape : Shape) (n : ℕ) (parts : List Part) (part : Part) (rows : List (List (ℕ × ℕ))) (steps more : List (List (List (ℕ × ℕ)))) → parts ≡ shape.parts → n < length parts → part ≡ get_or parts n part → HaveEnough shape.vocabulary part.table rows → more ≡ steps ++ rows ∷ [] → AreSteps shape n steps → AreSteps shape (n + 1) more
steps_more shape n parts part rows steps more is h at enough grown a = record {
  count = ap length grown ∙ length-append steps (rows ∷ []) ∙ ap (λ k. k + 1) a.count;
  each = λ i below. elim (cases_lt i n) [
    | inl old ↦ subst (HaveEnough shape.vocabulary (part_at shape.parts i).table) (sym (ap (λ (zs : List (List (List (ℕ × ℕ)))). get_or zs i []) grown ∙ get_or_append_left steps (rows ∷ []) [] i (omega (arith, a.count)))) (a.each i old)
    | inr now ↦
        let same : n ≡ i = omega arith in
        let last : get_or more n [] ≡ rows = ap (λ (zs : List (List (List (ℕ × ℕ)))). get_or zs n []) grown ∙ (ap (λ j. get_or (steps ++ rows ∷ []) j []) (sym a.count) ∙ get_or-append_seam steps rows [] []) in
        let read = part_read shape parts n part is (subst (λ (ps : List Part). n < length ps) is h) at in
        subst (λ j. HaveEnough shape.vocabulary (part_at shape.parts j).table (get_or more j [])) same (subst (HaveEnough shape.vocabulary (part_at shape.parts n).table) (sym last) (subst (λ (p : Part). HaveEnough shape.vocabulary p.table rows) read enough))
  ];
}

pub part_has_form : (shape : Shape) (n : ℕ) (parts : List Part) (part : Part) → IsWellFormed shape → parts ≡ shape.parts → n < length parts → part ≡ get_or parts n part → HasForm part
part_has_form shape n parts part w is h at =
    let within = subst (λ (ps : List Part). n < length ps) is h in
    subst HasForm (sym (part_read shape parts n part is within at)) (part_form shape.parts n within w.form)
