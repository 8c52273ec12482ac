-- Of some sets those that contain no smaller one, and that each set contains one of them.
use Rattle.acceptances.proofs.Prelude.{◌≡◌, ◌↔◌, ℕ, ◌<◌, ◌⊎◌, inl, inr, Bool, true, false, not, IsTrue, List, [], ◌∷◌, get_or, refl, sym, ap, subst, ◌∙◌, All, Contains, filter, IsStrictlyIncreasing, IsStrictlySortedBy, first_so, second_so, slice_cmp, nat_cmp, false≢true, cases_Bool, not-true, not_from_false, IsStrictlySortedBy-filter, has, is_subset_of, is_subset_of_from_members, member_of_superset, Stable, Offers, IsWithin, RawTable, RawStep, IsOfferOf, IsMinimalOffer, OffersAcceptance, IsListed, can_do, AreMarks, AreOffers, AreLeastOf, offers_at, has_smaller, is_smaller, same_tests}
use Rattle.acceptances.proofs.Member.{Member, member_from_contains, contains_from_member, stands, all_of_members, member_of_filter, member_from_filter, any_of_member, member_of_any}
use Rattle.acceptances.proofs.Terms.{stable_by_test, test_by_stable, offers_by_test, test_by_offers, Source, source, listed_offer, within_of}

abbrev pub is_least : List (List ℕ) → List ℕ → Bool
is_least sets M = not (has_smaller sets M)

-- the test of one set against another
abbrev is_below : List ℕ → List ℕ → Bool
is_below M N = is_smaller N M

within_by_test : (M N : List ℕ) → is_subset_of M N ≡ true → IsWithin M N
within_by_test M N test e h = member_of_superset M N test e h

-- what the test of a set means
pub least_by_test : (sets : List (List ℕ)) (M N : List ℕ) → is_least sets M ≡ true → Member N sets → IsWithin N M → IsWithin M N
least_by_test sets M N test listed within =
    elim (cases_Bool (is_subset_of M N)) as (λ _. IsWithin M N) [
      | inl holds ↦ within_by_test M N holds
      | inr fails ↦
          let below : is_below M N ≡ true = rw (is_subset_of_from_members N M within, fails) refl in
          absurd (false≢true (sym (not-true (has_smaller sets M) test) ∙ any_of_member (is_below M) sets N listed below))
    ]

pub test_by_least : (sets : List (List ℕ)) (M : List ℕ) → ((N : List ℕ) → Member N sets → IsWithin N M → IsWithin M N) → is_least sets M ≡ true
test_by_least sets M least =
    elim (cases_Bool (has_smaller sets M)) as (λ _. is_least sets M ≡ true) [
      | inl holds ↦
          let p = member_of_any (is_below M) sets holds in
          let within : IsWithin p.0 M = within_by_test p.0 M (first_so (is_subset_of p.0 M) (not (is_subset_of M p.0)) p.2) in
          let back : is_subset_of M p.0 ≡ true = is_subset_of_from_members M p.0 (least p.0 p.1 within) in
          let fails : is_subset_of M p.0 ≡ false = not-true (is_subset_of M p.0) (second_so (is_subset_of p.0 M) (not (is_subset_of M p.0)) p.2) in
          absurd (false≢true (sym fails ∙ back))
      | inr fails ↦ not_from_false (has_smaller sets M) fails
    ]

-- a set within M, out of M and the others, that contains none of the others but as a whole
pub record Lowest (sets : List (List ℕ)) (M : List ℕ) : Type 0 where
  pub set : List ℕ
  pub within : IsWithin set M
  pub listed : (set ≡ M) ⊎ Member set sets
  pub least : (N : List ℕ) → Member N sets → IsWithin N set → IsWithin set N

pub lowest : (sets : List (List ℕ)) (M : List ℕ) → Lowest sets M
lowest [] M = record { set = M; within = λ e h. h; listed = inl refl; least = λ N h w. absurd h }
lowest (X ∷ Xs) M = elim (cases_Bool (is_subset_of X M)) as (λ _. Lowest (X ∷ Xs) M) [
  | inl holds ↦
      let r = lowest Xs X in
      let below : IsWithin X M = within_by_test X M holds in
      record {
        set = r.set;
        within = λ e h. below e (r.within e h);
        listed = elim r.listed as (λ _. (r.set ≡ M) ⊎ Member r.set (X ∷ Xs)) [ inl e ↦ inr (inl e) | inr h ↦ inr (inr h) ];
        least = λ N h w. lowest_of X Xs r N h w;
      }
  | inr fails ↦
      let r = lowest Xs M in
      record {
        set = r.set;
        within = r.within;
        listed = elim r.listed as (λ _. (r.set ≡ M) ⊎ Member r.set (X ∷ Xs)) [ inl e ↦ inl e | inr h ↦ inr (inr h) ];
        least = λ N h w. lowest_past X Xs M fails r N h w;
      }
]
  where
    lowest_of : (X : List ℕ) (Xs : List (List ℕ)) (r : Lowest Xs X) (N : List ℕ) → Member N (X ∷ Xs) → IsWithin N r.set → IsWithin r.set N
    lowest_of X Xs r N (inl e) w = rw e r.within
    lowest_of X Xs r N (inr h) w = r.least N h w

    lowest_past : (X : List ℕ) (Xs : List (List ℕ)) (M : List ℕ) → is_subset_of X M ≡ false → (r : Lowest Xs M) (N : List ℕ) → Member N (X ∷ Xs) → IsWithin N r.set → IsWithin r.set N
    lowest_past X Xs M fails r N (inl e) w =
        let inside : IsWithin X M = λ x h. r.within x (w x (rw e h)) in
        absurd (false≢true (sym fails ∙ is_subset_of_from_members X M inside))
    lowest_past X Xs M fails r N (inr h) w = r.least N h w

-- the facts that the code establishes
pub record Found (raw : RawTable) (terms : List ℕ) (unstable : List Bool) (sets offers : List (List ℕ)) : Type 0 where
  pub within : All (λ n. n < raw.count) terms
  pub marks : AreMarks raw unstable
  pub events : AreOffers raw sets
  pub same : (M : List ℕ) → Contains offers M ↔ Contains (offers_at unstable sets terms) M

module _ (raw : RawTable) (terms : List ℕ) (unstable : List Bool) (sets offers : List (List ℕ)) (f : Found raw terms unstable sets offers) where
  -- where a listed set comes from
  source_of : (M : List ℕ) → Member M offers → Source unstable sets terms M
  source_of M h = source unstable sets terms M (member_from_contains (offers_at unstable sets terms) M ((f.same M).0 (contains_from_member offers M h)))

  -- the set of a stable term is listed
  listed_set : (n : ℕ) → has terms n ≡ true → Stable (RawStep raw) n → Member (get_or sets n []) offers
  listed_set n listed stable =
      let below : n < raw.count = within_of raw.count terms n f.within listed in
      let unmarked : get_or unstable n false ≡ false = f.marks.marks n below ∙ test_by_stable raw n stable in
      let M : List ℕ = get_or sets n [] in
      member_from_contains offers M ((f.same M).1 (contains_from_member (offers_at unstable sets terms) M (listed_offer unstable sets terms n listed unmarked)))

  -- what the set of a term has
  has_offer : (n e : ℕ) → has terms n ≡ true → (has (get_or sets n []) e ≡ true) ↔ Offers (RawStep raw) n e
  has_offer n e listed =
      let below : n < raw.count = within_of raw.count terms n f.within listed in
      let test : has (get_or sets n []) e ≡ can_do raw n e = f.events.events n e below in
      (λ h. offers_by_test raw n e (sym test ∙ h), λ o. test ∙ test_by_offers raw n e o)

  offer_of : (M : List ℕ) → Member M offers → IsOfferOf raw terms M
  offer_of M h =
      let s = source_of M h in
      let below : s.term < raw.count = within_of raw.count terms s.term f.within s.listed in
      record {
        term = s.term;
        listed = s.listed;
        stable = stable_by_test raw s.term (sym (f.marks.marks s.term below) ∙ s.unmarked);
        offered = λ e. subst (λ (S : List ℕ). (has S e ≡ true) ↔ Offers (RawStep raw) s.term e) (sym s.is) (has_offer s.term e s.listed);
      }

  rising_of : (M : List ℕ) → Member M offers → IsStrictlyIncreasing M
  rising_of M h = let s = source_of M h in subst IsStrictlyIncreasing (sym s.is) (f.events.rising s.term (within_of raw.count terms s.term f.within s.listed))

  -- an offer has the members of a listed set
  same_as_listed : (N : List ℕ) (o : IsOfferOf raw terms N) (e : ℕ) → has (get_or sets o.term []) e ≡ has N e
  same_as_listed N o e =
      let t = has_offer o.term e o.listed in
      same_tests (has (get_or sets o.term []) e) (has N e) (λ h. (o.offered e).1 (t.0 h)) (λ h. t.1 ((o.offered e).0 h))

  least_offer : (M : List ℕ) → Member M (filter (is_least offers) offers) → IsMinimalOffer raw terms M
  least_offer M h =
      let m = member_from_filter (is_least offers) offers M h in
      record {
        offer = offer_of M m.0;
        least = λ N o within.
            let X : List ℕ = get_or sets o.term [] in
            let below : IsWithin X M = λ e x. within e (sym (same_as_listed N o e) ∙ x) in
            let back : IsWithin M X = least_by_test offers M X m.1 (listed_set o.term o.listed o.stable) below in
            λ e x. sym (same_as_listed N o e) ∙ back e x;
      }

  pub sound : All (IsMinimalOffer raw terms) (filter (is_least offers) offers)
  sound = all_of_members (IsMinimalOffer raw terms) (filter (is_least offers) offers) least_offer

  pub rising : All IsStrictlyIncreasing (filter (is_least offers) offers)
  rising = all_of_members IsStrictlyIncreasing (filter (is_least offers) offers) (λ M h. rising_of M (member_from_filter (is_least offers) offers M h).0)

  pub complete : (M : List ℕ) → IsMinimalOffer raw terms M → IsListed (filter (is_least offers) offers) M
  complete M minimal =
      let o = minimal.offer in
      let X : List ℕ = get_or sets o.term [] in
      let listed : Member X offers = listed_set o.term o.listed o.stable in
      let test : is_least offers X ≡ true = test_by_least offers X (λ N h within e x. minimal.least N (offer_of N h) (λ y n. sym (same_as_listed M o y) ∙ within y n) e (sym (same_as_listed M o e) ∙ x)) in
      let s = stands X (filter (is_least offers) offers) (member_of_filter (is_least offers) offers X listed test) in
      record { place = s.place; within = s.within; members = λ e. ap (λ (S : List ℕ). has S e) (s.read []) ∙ same_as_listed M o e }

  pub covered : (n : ℕ) → IsTrue (has terms n) → Stable (RawStep raw) n → OffersAcceptance (RawStep raw) n (filter (is_least offers) offers)
  covered n listed stable =
      let X : List ℕ = get_or sets n [] in
      let there : Member X offers = listed_set n listed stable in
      let low = lowest offers X in
      let among : Member low.set offers = elim low.listed as (λ _. Member low.set offers) [ inl e ↦ rw e there | inr h ↦ h ] in
      let test : is_least offers low.set ≡ true = test_by_least offers low.set low.least in
      let s = stands low.set (filter (is_least offers) offers) (member_of_filter (is_least offers) offers low.set among test) in
      record { place = s.place; acceptance = low.set; listed = s.found; offered = λ e h. (has_offer n e listed).0 (low.within e h) }

-- what the code promises of the sets that are kept
pub record AreMinimal (raw : RawTable) (terms : List ℕ) (kept : List (List ℕ)) : Type 0 where
  pub sound : All (IsMinimalOffer raw terms) kept
  pub complete : (M : List ℕ) → IsMinimalOffer raw terms M → IsListed kept M
  pub covered : (n : ℕ) → IsTrue (has terms n) → Stable (RawStep raw) n → OffersAcceptance (RawStep raw) n kept
  pub rising : All IsStrictlyIncreasing kept
  pub order : IsStrictlySortedBy (slice_cmp nat_cmp) kept

-- the marks and sets as the code reads them
pub minimal_offers : (raw view : RawTable) (terms : List ℕ) (unstable marks : List Bool) (sets offers listed kept : List (List ℕ)) → raw ≡ view → All (λ n. n < view.count) terms → AreMarks raw unstable → AreOffers raw sets
    → listed ≡ offers_at marks offers terms → marks ≡ unstable → offers ≡ sets → AreLeastOf listed kept → AreMinimal view terms kept
minimal_offers raw view terms unstable marks sets offers listed kept same within marked offered made same_marks same_sets l =
    subst (λ r. AreMinimal r terms kept) same (subst (AreMinimal raw terms) (sym l.least) (record {
      sound = sound raw terms unstable sets l.all f;
      complete = complete raw terms unstable sets l.all f;
      covered = covered raw terms unstable sets l.all f;
      rising = rising raw terms unstable sets l.all f;
      order = IsStrictlySortedBy-filter (slice_cmp nat_cmp) (is_least l.all) l.all l.sorted;
    }))
  where
    f : Found raw terms unstable sets l.all
    f = record {
      within = subst (λ (r : RawTable). All (λ n. n < r.count) terms) (sym same) within;
      marks = marked;
      events = offered;
      same = λ M. subst (λ (L : List (List ℕ)). Contains l.all M ↔ Contains L M) (made ∙ (λ i. offers_at (same_marks i) (same_sets i) terms)) (l.same M);
    }
