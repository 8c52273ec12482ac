-- The outline of a well-formed shape is what its alphabets say: who goes over the pairs of parts in order meets the shape's links, which rise strictly and join
-- exactly the pairs that share events, one after another.
use Rattle.design_rules.proofs.Prelude.{◌≡◌, ℕ, zero, suc, ◌+◌, ◌<◌, ◌≤◌, ◌⊎◌, inl, inr, List, [], ◌∷◌, ◌++◌, length, map, get_or, Bool, true, false, ◌&&◌, cond, nat_le, IsTrue, refl, sym, ap, subst, ◌∙◌, arith, flat_map, cases_Bool, cases_eq, and_parts, and_from, or_left, or_right, le-leb, leb-true, false≢true, has, inter_of, meets_of, same_tests, any_member, sharers_other, Part, part_at, alphabets_of, sharers, Meet, Link, Shape, IsBelow, link_at, IsLinked, SameOutline, links_with, links_from, vocabulary_of, outline_of, has-append, has-filter, meets_of_from_member, has-inter_of}

abbrev link_in : List Link → ℕ → Link
link_in links l = get_or links l (record { left = 0; right = 0; shared = [] })

-- ---- of each link of a list

abbrev Each : (Link → Type 0) → List Link → Type 0
Each P [] = Unit {0}
Each P (x ∷ xs) = P x × Each P xs

each_both : (P Q R : Link → Type 0) → ((x : Link) → P x → Q x → R x) → (xs : List Link) → Each P xs → Each Q xs → Each R xs
each_both P Q R f [] a b = tt
each_both P Q R f (x ∷ xs) a b = (f x a.0 b.0, each_both P Q R f xs a.1 b.1)

each_place : (P : Link → Type 0) (xs : List Link) → ((k : ℕ) → k < length xs → P (link_in xs k)) → Each P xs
each_place P [] f = tt
each_place P (x ∷ xs) f = (f 0 (omega arith), each_place P xs (λ k h. f (suc k) (omega arith)))

-- ---- which pairs are linked

abbrev Among : List Link → ℕ → ℕ → Type 0
Among [] i j = ⊥
Among (x ∷ xs) i j = ((x.left ≡ i) × (x.right ≡ j)) ⊎ Among xs i j

among_place : (xs : List Link) (k : ℕ) → k < length xs → Among xs (link_in xs k).left (link_in xs k).right
among_place [] k h = absurd (omega arith)
among_place (x ∷ xs) zero h = inl (refl, refl)
among_place (x ∷ xs) (suc k) h = inr (among_place xs k (omega arith))

-- ---- lists that rise strictly

abbrev Rises : List Link → Type 0
Rises [] = Unit {0}
Rises (x ∷ xs) = Each (IsBelow x) xs × Rises xs

rises_place : (xs : List Link) → ((l m : ℕ) → l < m → m < length xs → IsBelow (link_in xs l) (link_in xs m)) → Rises xs
rises_place [] f = tt
rises_place (x ∷ xs) f = (each_place (IsBelow x) xs (λ k h. f 0 (suc k) (omega arith) (omega arith)), rises_place xs (λ l m less h. f (suc l) (suc m) (omega arith) (omega arith)))

-- the pair k and l stands at i and j, or later
abbrev From : ℕ → ℕ → ℕ → ℕ → Type 0
From i j k l = (i < k) ⊎ ((i ≡ k) × (j ≤ l))

from_first : (k l : ℕ) → k < l → From 0 1 k l
from_first k l less = grind (arith)

from_row : (i n k l : ℕ) → k < l → l < n → From i n k l → From (suc i) (suc (suc i)) k l
from_row i n k l less within f = grind (arith)

from_over : (i j k l : ℕ) → From i j k l → (i ≡ k → j ≡ l → ⊥) → From i (suc j) k l
from_over i j k l f other = grind (arith)

from_back : (i j k l : ℕ) → From i (suc j) k l → From i j k l
from_back i j k l f = grind (arith)

from_below : (i n k l : ℕ) → From (suc i) (suc (suc i)) k l → From i n k l
from_below i n k l f = inl (omega (arith, f))

below_pair : (x : Link) (xs : List Link) (i j : ℕ) → Each (IsBelow x) xs → Among xs i j → From i j x.left x.right → ⊥
below_pair x [] i j each a f = a
below_pair x (y ∷ ys) i j each (inl here) f = let left : y.left ≡ i = here.0 in let right : y.right ≡ j = here.1 in omega (arith, each.0, f)
below_pair x (y ∷ ys) i j each (inr later) f = below_pair x ys i j each.1 later f

-- ---- the same links

abbrev IsSame : Link → Link → Type 0
IsSame x y = (x.left ≡ y.left) × (x.right ≡ y.right) × ((e : ℕ) → has x.shared e ≡ has y.shared e)

abbrev AreSame : List Link → List Link → Type 0
AreSame [] [] = Unit {0}
AreSame (x ∷ xs) (y ∷ ys) = IsSame x y × AreSame xs ys
AreSame _ _ = ⊥

same_length : (xs ys : List Link) → AreSame xs ys → length xs ≡ length ys
same_length [] [] s = refl
same_length (x ∷ xs) (y ∷ ys) s = ap suc (same_length xs ys s.1)
same_length _ _ s = absurd s

same_at : (xs ys : List Link) → AreSame xs ys → (l : ℕ) → IsSame (link_in xs l) (link_in ys l)
same_at [] [] s l = (refl, refl, λ e. refl)
same_at (x ∷ xs) (y ∷ ys) s zero = s.0
same_at (x ∷ xs) (y ∷ ys) s (suc l) = same_at xs ys s.1 l
same_at _ _ s l = absurd s

-- ---- the links of n alphabets

module _ (at : ℕ → List ℕ) (n : ℕ) where
  -- the link has the events that both of its components have
  abbrev Shares : Link → Type 0
  Shares x = (e : ℕ) → has x.shared e ≡ (has (at x.left) e && has (at x.right) e)

  -- it joins two of the components
  record IsLinkOf (x : Link) : Type 0 where
    ordered : x.left < x.right
    within : x.right < n
    shared : Shares x
    meet : Meet (at x.left) (at x.right)

  -- the alphabets are those from component i on
  abbrev Are : ℕ → List (List ℕ) → Type 0
  Are i [] = Unit {0}
  Are i (a ∷ others) = (a ≡ at i) × Are (suc i) others

  -- the list has exactly the links from the pair i and j on
  record AreLinks (i j : ℕ) (xs : List Link) : Type 0 where
    each : Each (λ x. IsLinkOf x × From i j x.left x.right) xs
    rises : Rises xs
    all : (k l : ℕ) → k < l → l < n → Meet (at k) (at l) → From i j k l → Among xs k l

  -- the next pair begins a row
  row_done : (i : ℕ) (xs : List Link) → AreLinks i n xs → AreLinks (suc i) (suc (suc i)) xs
  row_done i xs c = record {
    each = each_both _ _ _ (λ x h _. (h.0, from_row i n x.left x.right h.0.ordered h.0.within h.1)) xs c.each c.each;
    rises = c.rises;
    all = λ k l less within meet f. c.all k l less within meet (from_below i n k l f);
  }

  -- the pair is not linked
  passed : (i j : ℕ) (xs : List Link) → (Meet (at i) (at j) → ⊥) → AreLinks i j xs → AreLinks i (suc j) xs
  passed i j xs apart c = record {
    each = each_both _ _ _ (λ x h _. (h.0, from_over i j x.left x.right h.1 (λ left right. apart (subst (λ k. Meet (at k) (at j)) (sym left) (subst (λ l. Meet (at x.left) (at l)) (sym right) h.0.meet))))) xs c.each c.each;
    rises = c.rises;
    all = λ k l less within meet f. c.all k l less within meet (from_back i j k l f);
  }

  -- it is, so the list begins with its link
  begun : (i j : ℕ) (s : List ℕ) (xs ys : List Link) → ((e : ℕ) → has s e ≡ (has (at i) e && has (at j) e)) → Among xs i j → AreLinks i j xs
      → ((zs : List Link) → AreLinks i (suc j) zs → AreSame zs ys) → AreSame xs (record { left = i; right = j; shared = s } ∷ ys)
  begun i j s [] ys shared a c others = absurd a
  begun i j s (x ∷ xs) ys shared (inr later) c others = absurd (below_pair x xs i j c.rises.0 later c.each.0.1)
  begun i j s (x ∷ xs) ys shared (inl here) c others = (
    (here.0, here.1, λ e. c.each.0.0.shared e ∙ ap (λ k. has (at k) e && has (at x.right) e) here.0 ∙ ap (λ l. has (at i) e && has (at l) e) here.1 ∙ sym (shared e)),
    others xs (record {
      each = each_both _ _ _ (λ y h below. (h.0, after y below)) xs c.each.1 c.rises.0;
      rises = c.rises.1;
      all = λ k l less within meet f. elim (c.all k l less within meet (from_back i j k l f)) [
        | inl first ↦ absurd (let p : x.left ≡ i = here.0 in let q : x.right ≡ j = here.1 in let r : x.left ≡ k = first.0 in let t : x.right ≡ l = first.1 in omega (arith, f))
        | inr later ↦ later
      ];
    }),
  )
    where
      after : (y : Link) → IsBelow x y → From i (suc j) y.left y.right
      after y (inl less) = inl (subst (λ k. k < y.left) here.0 less)
      after y (inr same) = inr (sym here.0 ∙ same.0, let q : x.right ≡ j = here.1 in let less : x.right < y.right = same.1 in omega arith)

  pair : (m : Bool) (i j : ℕ) (a b : List ℕ) (xs ys rest : List Link) → meets_of a b ≡ m → a ≡ at i → b ≡ at j → i < j → j < n → ((zs : List Link) → AreLinks i (suc j) zs → AreSame zs (ys ++ rest))
      → AreLinks i j xs → AreSame xs ((cond m (record { left = i; right = j; shared = inter_of a b } ∷ []) [] ++ ys) ++ rest)
  pair true i j a b xs ys rest meets own other less within others c =
      let e = any_member (has b) a meets in
      let meet : Meet (at i) (at j) = record { event = e.0; first = subst (λ z. IsTrue (has z e.0)) own e.1; second = subst (λ z. IsTrue (has z e.0)) other e.2 } in
      begun i j (inter_of a b) xs (ys ++ rest) (λ x. has-inter_of a b x ∙ ap (λ z. has z x && has b x) own ∙ ap (λ z. has (at i) x && has z x) other) (c.all i j less within meet (inr (refl, omega arith))) c others
  pair false i j a b xs ys rest apart own other less within others c =
      others xs
      (passed i j xs (λ meet. false≢true (sym apart ∙ meets_of_from_member a b meet.event (subst (λ z. has z meet.event ≡ true) (sym own) meet.first) (subst (λ z. has z meet.event ≡ true) (sym other) meet.second))) c)

  row : (i j : ℕ) (a : List ℕ) (bs : List (List ℕ)) (xs rest : List Link) → a ≡ at i → Are j bs → j + length bs ≡ n → i < j → ((zs : List Link) → AreLinks (suc i) (suc (suc i)) zs → AreSame zs rest)
      → AreLinks i j xs → AreSame xs (links_with i a j bs ++ rest)
  row i j a [] xs rest own are count less others c = others xs (row_done i xs (subst (λ m. AreLinks i m xs) (let e : j ≡ n = omega arith in e) c))
  row i j a (b ∷ bs) xs rest own are count less others c =
      pair (meets_of a b) i j a b xs (links_with i a (suc j) bs) rest refl own are.0 less (omega arith) (λ zs. row i (suc j) a bs zs rest own are.1 (omega arith) (omega arith) others) c

  rows : (i : ℕ) (as' : List (List ℕ)) (xs : List Link) → Are i as' → i + length as' ≡ n → AreLinks i (suc i) xs → AreSame xs (links_from i as')
  rows i [] [] are count c = tt
  rows i [] (x ∷ xs) are count c =
      let ordered : x.left < x.right = c.each.0.0.ordered in
      let within : x.right < n = c.each.0.0.within in
      absurd (omega (arith, c.each.0.1))
  rows i (a ∷ others) xs are count c = row i (suc i) a others xs (links_from (suc i) others) are.0 are.1 (omega arith) (omega arith) (λ zs. rows (suc i) others zs are.1 (omega arith)) c

-- ---- a well-formed shape

abbrev alphabet_in : Shape → ℕ → List ℕ
alphabet_in shape i = (part_at shape.parts i).alphabet

are_parts : (at : ℕ → List ℕ) (n i : ℕ) (ps : List Part) → ((k : ℕ) → (part_at ps k).alphabet ≡ at (i + k)) → Are at n i (alphabets_of ps)
are_parts at n i [] f = tt
are_parts at n i (p ∷ ps) f =
    (f 0 ∙ ap at (let e : i + 0 ≡ i = omega arith in e), are_parts at n (suc i) ps (λ k. f (suc k) ∙ ap at (let e : i + suc k ≡ suc i + k = omega arith in e)))

as_many : (ps : List Part) → length (alphabets_of ps) ≡ length ps
as_many [] = refl
as_many (p ∷ ps) = ap suc (as_many ps)

blank_parts : (ps : List Part) → length ps ≡ length (map (λ (alphabet : List ℕ). let p : Part = record { alphabet = alphabet; table = [] } in p) (alphabets_of ps))
blank_parts [] = refl
blank_parts (p ∷ ps) = ap suc (blank_parts ps)

blank_alphabet : (ps : List Part) (i : ℕ) → (part_at ps i).alphabet ≡ (part_at (map (λ (alphabet : List ℕ). let p : Part = record { alphabet = alphabet; table = [] } in p) (alphabets_of ps)) i).alphabet
blank_alphabet [] i = refl
blank_alphabet (p ∷ ps) zero = refl
blank_alphabet (p ∷ ps) (suc i) = blank_alphabet ps i

-- an event with a sharer is in one of the alphabets
pub some_alphabet : (as' : List (List ℕ)) (e : ℕ) → 1 ≤ sharers as' e → has (flat_map (λ alphabet. alphabet) as') e ≡ true
some_alphabet [] e h = absurd (omega arith)
some_alphabet (a ∷ others) e h = has-append a (flat_map (λ alphabet. alphabet) others) e ∙ elim (cases_Bool (has a e)) [
  | inl own ↦ or_left (has a e) (has (flat_map (λ alphabet. alphabet) others) e) own
  | inr other ↦ or_right (has a e) (has (flat_map (λ alphabet. alphabet) others) e) (some_alphabet others e (omega (arith, sharers_other a others e other)))
]

in_vocabulary : (as' : List (List ℕ)) (e : ℕ) → 2 ≤ sharers as' e → has (vocabulary_of as') e ≡ true
in_vocabulary as' e h =
    has-filter (λ x. nat_le 2 (sharers as' x)) (flat_map (λ alphabet. alphabet) as') e
    ∙ and_from (nat_le 2 (sharers as' e)) (has (flat_map (λ alphabet. alphabet) as') e) (le-leb 2 (sharers as' e) h) (some_alphabet as' e (omega arith))

of_vocabulary : (as' : List (List ℕ)) (e : ℕ) → has (vocabulary_of as') e ≡ true → 2 ≤ sharers as' e
of_vocabulary as' e h =
    leb-true 2 (sharers as' e)
    (and_parts (nat_le 2 (sharers as' e)) (has (flat_map (λ alphabet. alphabet) as') e) (sym (has-filter (λ x. nat_le 2 (sharers as' x)) (flat_map (λ alphabet. alphabet) as') e) ∙ h)).0

module _ (shape : Shape) (w : IsLinked shape) where
  shape_shares : (k : ℕ) → k < length shape.links → Shares (alphabet_in shape) (length shape.parts) (link_at shape k)
  shape_shares k h e =
      let j = w.links k h in
      same_tests (has (link_at shape k).shared e) (has (alphabet_in shape (link_at shape k).left) e && has (alphabet_in shape (link_at shape k).right) e)
      (λ t. let b = (j.shared e).0 t in and_from (has (alphabet_in shape (link_at shape k).left) e) (has (alphabet_in shape (link_at shape k).right) e) b.0 b.1)
      (λ t. let b = and_parts (has (alphabet_in shape (link_at shape k).left) e) (has (alphabet_in shape (link_at shape k).right) e) t in (j.shared e).1 (b.0, b.1))

  shape_link : (k : ℕ) → k < length shape.links → IsLinkOf (alphabet_in shape) (length shape.parts) (link_at shape k)
  shape_link k h =
      let j = w.links k h in
      let both = (j.shared j.some.0).0 j.some.1 in
      record { ordered = j.ordered; within = j.within; shared = shape_shares k h; meet = record { event = j.some.0; first = both.0; second = both.1 } }

  shape_links : AreLinks (alphabet_in shape) (length shape.parts) 0 1 shape.links
  shape_links = record {
    each = each_place _ shape.links (λ k h. let x = shape_link k h in (x, from_first (link_at shape k).left (link_at shape k).right x.ordered));
    rises = rises_place shape.links w.links_rise;
    all = λ k l less within meet f.
        let j = w.all_links k l less within meet in
        subst (λ m. Among shape.links k m) j.right (subst (λ m. Among shape.links m (link_at shape j.link).right) j.left (among_place shape.links j.link j.within));
  }

  same_links : AreSame shape.links (links_from 0 (alphabets_of shape.parts))
  same_links =
      rows (alphabet_in shape) (length shape.parts) 0 (alphabets_of shape.parts) shape.links
      (are_parts (alphabet_in shape) (length shape.parts) 0 shape.parts (λ k. ap (alphabet_in shape) (let e : k ≡ 0 + k = omega arith in e)))
      (let e = as_many shape.parts in omega arith)
      shape_links

  pub shape_outline : SameOutline shape (outline_of (alphabets_of shape.parts))
  unfolding outline_of
  shape_outline =
      let at = same_at shape.links (links_from 0 (alphabets_of shape.parts)) same_links in
      record {
        parts = blank_parts shape.parts;
        alphabets = λ i e. ap (λ (z : List ℕ). has z e) (blank_alphabet shape.parts i);
        links = same_length shape.links (links_from 0 (alphabets_of shape.parts)) same_links;
        left = λ l. (at l).0;
        right = λ l. (at l).1;
        shared = λ l. (at l).2;
        vocabulary = λ e.
            same_tests (has shape.vocabulary e) (has (vocabulary_of (alphabets_of shape.parts)) e)
            (λ t. in_vocabulary (alphabets_of shape.parts) e ((w.vocabulary e).0 t))
            (λ t. (w.vocabulary e).1 (of_vocabulary (alphabets_of shape.parts) e t));
      }
