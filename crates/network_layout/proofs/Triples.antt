-- Events in one, two and three alphabets, and the components that have the first event in three.
use Rattle.network_layout.proofs.Prelude.{◌≡◌, ℕ, ◌+◌, ◌<◌, ◌≤◌, Bool, true, false, ◌||◌, ◌&&◌, if◌then◌else◌, Some, None, List, [], ◌∷◌, ◌++◌, length, take, drop, get_or, refl, ap, sym, ◌∙◌, subst, arith, append_assoc, nat_le, find, IsStrictlyIncreasing, nat_tests, le-leb, leb-false, leb-true, drop_read, map_push, take_read, has, Proc, Component, TripleDisjoint, sharers, AreCrowded, AreIn, IsCounted, SharesEvent, alphabets, holders, common_steps, RisesFrom, has_below, rises_from_increasing, Counted}

-- ---- one alphabet more

sharers-last : (rows : List (List ℕ)) (a : List ℕ) (e : ℕ) → sharers (rows ++ a ∷ []) e ≡ (if has a e then sharers rows e + 1 else sharers rows e)
sharers-last [] a e = refl
sharers-last (b ∷ rows) a e = grind (arith, common_steps, sharers-last rows a e)

module _ (rows : List (List ℕ)) (a : List ℕ) where
  counted : (n : ℕ) (less : ℕ → Bool) (more next : List ℕ) → ((e : ℕ) → nat_le n (sharers rows e) ≡ less e) → AreIn (n + 1) rows more
      → ((e : ℕ) → has next e ≡ (has more e || (less e && has a e))) → AreIn (n + 1) (rows ++ a ∷ []) next
  counted n less more next few many joined e = grind (arith, nat_tests, few e, many e, joined e, sharers-last rows a e)

  pub counted_next : (old new : Counted) → IsCounted rows old → ((e : ℕ) → has new.once e ≡ (has old.once e || has a e))
      → ((e : ℕ) → has new.twice e ≡ (has old.twice e || (has old.once e && has a e)))
      → ((e : ℕ) → has new.thrice e ≡ (has old.thrice e || (has old.twice e && has a e))) → IsCounted (rows ++ a ∷ []) new
  counted_next old new far once twice thrice =
      record {
        one = counted 0 (λ e. true) old.once new.once (λ e. le-leb 0 (sharers rows e) (omega arith)) far.one once;
        two = counted 1 (has old.once) old.twice new.twice (λ e. sym (far.one e)) far.two twice;
        three = counted 2 (has old.twice) old.thrice new.thrice (λ e. sym (far.two e)) far.three thrice;
      }

-- ---- components one after another

module _ (seats : List (Component Proc)) (i : ℕ) (c : Component Proc) (lt : i < length seats) (is : c ≡ get_or seats i c) where
  pub counted_seat : (counted : Counted) → IsCounted (alphabets (take i seats) ++ c.alphabet ∷ []) counted → IsCounted (alphabets (take (i + 1) seats)) counted
  counted_seat counted far = subst (λ rows. IsCounted rows counted) (sym (ap alphabets (take_read seats i c lt is) ∙ map_push (λ d. d.alphabet) (take i seats) c)) far

  here : (e : ℕ) → holders i (alphabets (drop i seats)) e ≡ (if has c.alphabet e then i ∷ holders (i + 1) (alphabets (drop (i + 1) seats)) e else holders (i + 1) (alphabets (drop (i + 1) seats)) e)
  here e = ap (λ cs. holders i (alphabets cs) e) (drop_read seats i c lt is)

  pub holds_not : (e : ℕ) (made all : List ℕ) → has c.alphabet e ≡ false → made ++ holders i (alphabets (drop i seats)) e ≡ all → made ++ holders (i + 1) (alphabets (drop (i + 1) seats)) e ≡ all
  holds_not e made all without far = rw (here e, without) at far

  pub holds : (e : ℕ) (made all : List ℕ) → has c.alphabet e ≡ true → made ++ holders i (alphabets (drop i seats)) e ≡ all → (made ++ i ∷ []) ++ holders (i + 1) (alphabets (drop (i + 1) seats)) e ≡ all
  holds e made all there far = append_assoc made (i ∷ []) (holders (i + 1) (alphabets (drop (i + 1) seats)) e) ∙ (rw (here e, there) at far)

-- ---- the first event in three alphabets

pub length-holders : (n : ℕ) (rows : List (List ℕ)) (e : ℕ) → length (holders n rows e) ≡ sharers rows e
length-holders n [] e = refl
length-holders n (a ∷ rows) e = grind (arith, common_steps, length-holders (n + 1) rows e)

-- the first event of a rising list is a member, and the least
record IsFirst (xs : List ℕ) (e : ℕ) : Type 0 where
  member : has xs e ≡ true
  least : (d : ℕ) → d < e → has xs d ≡ false

is_first : (xs : List ℕ) (e : ℕ) → RisesFrom 0 xs → find (nat_le 0) xs ≡ Some e → IsFirst xs e
is_first [] e rise h = absurd cc
is_first (x ∷ xs) e rise h =
    let is : x ≡ e = grind (arith, nat_tests) in
    subst (IsFirst (x ∷ xs)) is (record { member = grind (arith, nat_tests); least = λ d lt. grind (arith, nat_tests, has_below (x + 1) xs d rise.1) })

none_first : (xs : List ℕ) → find (nat_le 0) xs ≡ None → xs ≡ []
none_first [] h = refl
none_first (x ∷ xs) h = absurd (let no : ⊥ = grind (arith, nat_tests) in no)

module _ (rows : List (List ℕ)) (crowded : List ℕ) (are : AreCrowded rows crowded) where
  few : (e : ℕ) → has crowded e ≡ false → sharers rows e ≤ 2
  few e h = let low : sharers rows e < 3 = leb-false 3 (sharers rows e) (sym (are e) ∙ h) in omega arith

  pub apart : find (nat_le 0) crowded ≡ None → TripleDisjoint rows
  apart none e = few e (ap (λ xs. has xs e) (none_first crowded none))

  module _ (e : ℕ) (rise : IsStrictlyIncreasing crowded) (found : find (nat_le 0) crowded ≡ Some e) where
    first : IsFirst crowded e
    first = is_first crowded e (rises_from_increasing crowded rise) found

    pub three : 3 ≤ length (holders 0 rows e)
    three =
        let many : 3 ≤ sharers rows e = leb-true 3 (sharers rows e) (sym (are e) ∙ first.member) in
        let count : length (holders 0 rows e) ≡ sharers rows e = length-holders 0 rows e in
        omega arith

    pub shared : (i j k : ℕ) → take 3 (holders 0 rows e) ≡ i ∷ j ∷ k ∷ [] → SharesEvent rows (record { event = e; parts = (i, j, k) })
    shared i j k are_first = record { least = λ d lt. few d (first.least d lt); first = are_first }

-- the first three of a list
pub first_three : (xs : List ℕ) → 3 ≤ length xs → take 3 xs ≡ get_or xs 0 0 ∷ get_or xs 1 0 ∷ get_or xs 2 0 ∷ []
first_three (x ∷ y ∷ z ∷ xs) many = refl
first_three (x ∷ y ∷ []) many = absurd (omega arith)
first_three (x ∷ []) many = absurd (omega arith)
first_three [] many = absurd (omega arith)
