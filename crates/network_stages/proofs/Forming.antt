-- The links and the vocabulary of parts are those of a shape.
use Rattle.network_stages.proofs.Prelude.{◌≡◌, ℕ, suc, ◌<◌, ◌≤◌, inl, inr, List, [], ◌∷◌, length, true, IsTrue, sym, subst, ◌∙◌, arith, or_cases, false≢true, list_any_at, has, Part, part_at, alphabets_of, sharers, Link, IsLinked, LinksAreOrdered, at_two, row_at, AreRows, has_event, any_has_event, AreLinksBefore, IsVocabulary, pair_at, MOST_COMPONENTS}
use Rattle.network_stages.proofs.Sharing.{two_owners}
use Rattle.network_stages.proofs.Linking.{pair_of, of_pair}
use Rattle.network_stages.proofs.Counting.{few_links}

-- ---- the vocabulary

record HasRowOf (rows : List (List (ℕ × ℕ))) (e : ℕ) : Type 0 where
  place : ℕ
  within : place < length rows
  event : has_event (row_at rows place) e ≡ true

row_of : (rows : List (List (ℕ × ℕ))) (e : ℕ) → any_has_event rows e ≡ true → HasRowOf rows e
row_of [] e h = absurd (false≢true h)
row_of (row ∷ rows) e h = elim (or_cases (has_event row e) (any_has_event rows e) h) [
  | inl here ↦ record { place = 0; within = omega arith; event = here }
  | inr later ↦ let r = row_of rows e later in record { place = suc r.place; within = let l : r.place < length rows = r.within in omega arith; event = r.event }
]

module _ (parts : List Part) (rows : List (List (ℕ × ℕ))) (are : AreRows parts (length parts) rows) where
  shared : (e : ℕ) → any_has_event rows e ≡ true → 2 ≤ sharers (alphabets_of parts) e
  shared e h =
      let r = row_of rows e h in
      let one_each : length rows ≡ length parts = are.one_each in
      let inside : r.place < length rows = r.within in
      let here : r.place < length parts = omega arith in
      let p = pair_of (row_at rows r.place) e r.event in
      let s = (are.each r.place here).sound p.place p.within in
      let later : r.place < (pair_at (row_at rows r.place) p.place).0 = s.later in
      let left = subst (λ x. IsTrue (has (part_at parts r.place).alphabet x)) p.event s.left in
      let right = subst (λ x. IsTrue (has (part_at parts (pair_at (row_at rows r.place) p.place).0).alphabet x)) p.event s.right in
      at_two parts e r.place (pair_at (row_at rows r.place) p.place).0 here s.within (λ same. omega arith) left right

  in_some_row : (e : ℕ) → 2 ≤ sharers (alphabets_of parts) e → any_has_event rows e ≡ true
  in_some_row e h =
      let o = two_owners parts e h in
      let one_each : length rows ≡ length parts = are.one_each in
      let order : o.left < o.right = o.ordered in
      let inside : o.right < length parts = o.within in
      let here : o.left < length parts = omega arith in
      let p = (are.each o.left here).complete o.right e (record { later = o.ordered; within = o.within; left = o.left_owns; right = o.right_owns }) in
      list_any_at (λ row. has_event row e) rows o.left [] (omega arith) (of_pair (row_at rows o.left) e p.place p.within p.event)

  pub is_vocabulary : (events : List ℕ) → ((e : ℕ) → has events e ≡ any_has_event rows e) → IsVocabulary parts events
  is_vocabulary events is e = ((λ h. shared e (sym (is e) ∙ h)), (λ h. is e ∙ in_some_row e h))

-- ---- the whole

pub ordered : (parts : List Part) (links : List Link) (vocabulary : List ℕ) → length parts ≤ MOST_COMPONENTS → AreLinksBefore parts (length parts) 0 links
    → LinksAreOrdered (record { parts = parts; links = links; vocabulary = vocabulary })
ordered parts links vocabulary few a = record {
  parts_numbered = omega arith;
  links_numbered = let h : length links ≤ 262144 = few_links parts few (length parts) 0 links a in omega arith;
  links_rise = a.rise;
}

pub is_linked : (parts : List Part) (links : List Link) (vocabulary : List ℕ) → 1 ≤ length parts → length parts ≤ MOST_COMPONENTS
    → AreLinksBefore parts (length parts) 0 links → IsVocabulary parts vocabulary
    → IsLinked (record { parts = parts; links = links; vocabulary = vocabulary })
is_linked parts links vocabulary least most a is = record {
  least = least;
  most = most;
  links = a.joins;
  all_links = λ i j order within meet.
      let l = a.all i j order within (inl (omega arith)) meet in
      record { link = l.place; within = l.within; left = l.left; right = l.right };
  links_rise = a.rise;
  vocabulary = is;
}
