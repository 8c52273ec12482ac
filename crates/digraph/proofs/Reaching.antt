-- What a search finds from its sources on is what walks reach.
use Rattle.digraph.proofs.Prelude.{◌≡◌, ◌↔◌, ℕ, zero, suc, ◌+◌, ◌<◌, ◌≤◌, Bool, true, false, ◌||◌, nat_eq, IsTrue, List, [], ◌∷◌, ◌++◌, length, take, get_or, refl, sym, ap, subst, ◌∙◌, inl, inr, ◌⊎◌, arith, eq-eqb, All, flat_map, IsDistinct, append-nil, append_assoc, length-append, take-append-le, take_all, take_more, fold-append, list_any-append, list_any_at, flat_map-append, cases_Bool, cond-true, cond-false, or_cases, or_left, or_right, eqb-true, nat_eq_equiv, or-false, or_assoc, has, Digraph, targets_of, HasArc, Walk, ReachesFrom, found_after, found_over, is_member, with_new, IsDistinct-with_new, listed_below}
use Rattle.digraph.proofs.Listing.{same_has}
use Rattle.digraph.proofs.WalkLaws.{Reaches-arc, Reaches-itself}

-- one number more
with_new-cases : (xs : List ℕ) (x : ℕ) → ((has xs x ≡ true) × (with_new nat_eq xs x ≡ xs)) ⊎ ((has xs x ≡ false) × (with_new nat_eq xs x ≡ xs ++ x ∷ []))
with_new-cases xs x =
    elim (cases_Bool (is_member nat_eq xs x)) as (λ _. ((has xs x ≡ true) × (with_new nat_eq xs x ≡ xs)) ⊎ ((has xs x ≡ false) × (with_new nat_eq xs x ≡ xs ++ x ∷ []))) [
      | inl known ↦ inl (same_has xs x ∙ known, cond-true (is_member nat_eq xs x) xs (xs ++ x ∷ []) known)
      | inr other ↦ inr (same_has xs x ∙ other, cond-false (is_member nat_eq xs x) xs (xs ++ x ∷ []) other)
    ]

or_same : (a b : Bool) → (b ≡ true → a ≡ true) → a ≡ (a || b)
or_same true b h = refl
or_same false true h = h refl
or_same false false h = refl

has-with_new : (xs : List ℕ) (x v : ℕ) → has (with_new nat_eq xs x) v ≡ (has xs v || nat_eq x v)
has-with_new xs x v =
    elim (with_new-cases xs x) as (λ _. has (with_new nat_eq xs x) v ≡ (has xs v || nat_eq x v)) [
      | inl p ↦ rw p.1 (or_same (has xs v) (nat_eq x v) (λ e. let same : x ≡ v = eqb-true x v e in rw (← same) p.0))
      | inr p ↦ rw (p.1, list_any-append (λ y. nat_eq y v) xs (x ∷ []), or-false (nat_eq x v))
    ]

pub has-found_after : (before xs : List ℕ) (v : ℕ) → has (found_after before xs) v ≡ (has before v || has xs v)
has-found_after before [] v = sym (or-false (has before v))
has-found_after before (x ∷ xs) v =
    has-found_after (with_new nat_eq before x) xs v ∙ (ap (λ b. b || has xs v) (has-with_new before x v) ∙ or_assoc (has before v) (nat_eq x v) (has xs v))

-- what was found before stays in front
pub found_after_grows : (before xs : List ℕ) → (more : List ℕ) × (found_after before xs ≡ before ++ more)
found_after_grows before [] = ([], sym (append-nil before))
found_after_grows before (x ∷ xs) =
    let r = found_after_grows (with_new nat_eq before x) xs in
    elim (with_new-cases before x) as (λ _. (more : List ℕ) × (found_after (with_new nat_eq before x) xs ≡ before ++ more)) [
      | inl p ↦ (r.0, r.1 ∙ ap (λ front. front ++ r.0) p.1)
      | inr p ↦ (x ∷ r.0, r.1 ∙ (ap (λ front. front ++ r.0) p.1 ∙ append_assoc before (x ∷ []) r.0))
    ]

has-flat_map : (f : ℕ → List ℕ) (us : List ℕ) (u w : ℕ) → IsTrue (has us u) → IsTrue (has (f u) w) → IsTrue (has (flat_map f us) w)
has-flat_map f [] u w h k = absurd (cc)
has-flat_map f (y ∷ ys) u w h k =
    rw (list_any-append (λ z. nat_eq z w) (f y) (flat_map f ys)) (elim (or_cases (nat_eq y u) (has ys u) h) as (λ _. (has (f y) w || has (flat_map f ys) w) ≡ true) [
      | inl same ↦ let e : u ≡ y = sym (eqb-true y u same) in or_left (has (f y) w) (has (flat_map f ys) w) (rw e at k)
      | inr later ↦ or_right (has (f y) w) (has (flat_map f ys) w) (has-flat_map f ys u w later k)
    ])

-- the step of the search at one place
order_more : (g : Digraph) (sources : List ℕ) (place : ℕ) (old new : List ℕ) → place < length old → old ≡ found_over g sources (take place old) → new ≡ found_after old (targets_of g (get_or old place 0)) → new ≡ found_over g sources (take (place + 1) new)
order_more g sources place old new h order is =
    let more = found_after_grows old (targets_of g (get_or old place 0)) in
    let u : ℕ = get_or old place 0 in
    let before : List ℕ = flat_map (targets_of g) (take place old) in
    let front : take (place + 1) new ≡ take place old ++ u ∷ [] = ap (take (place + 1)) (is ∙ more.1) ∙ (take-append-le (place + 1) old more.0 (omega arith) ∙ take_more old place 0 h) in
    let targets : flat_map (targets_of g) (take (place + 1) new) ≡ before ++ targets_of g u = ap (flat_map (targets_of g)) front ∙ (flat_map-append (targets_of g) (take place old) (u ∷ []) ∙ ap (λ row. before ++ row) (append-nil (targets_of g u))) in
    let all : sources ++ flat_map (targets_of g) (take (place + 1) new) ≡ (sources ++ before) ++ targets_of g u = ap (λ row. sources ++ row) targets ∙ sym (append_assoc sources before (targets_of g u)) in
    is ∙ sym (ap (found_after []) all ∙ (fold-append (with_new nat_eq) [] (sources ++ before) (targets_of g u) ∙ ap (λ (xs : List ℕ). found_after xs (targets_of g u)) (sym order)))

-- What holds while the search goes on: the vertices before the place were looked at.
pub record IsSearched (g : Digraph) (sources found : List ℕ) (place : ℕ) : Type 0 where
  pub order : found ≡ found_over g sources (take place found)
  pub reached : (v : ℕ) → has found v ≡ true → ReachesFrom (HasArc g) sources v
  pub below : (v : ℕ) → has found v ≡ true → v < length g
  pub within : place ≤ length found

pub searched_first : (g : Digraph) (sources found : List ℕ) → All (λ v. v < length g) sources → found ≡ found_after [] sources → IsSearched g sources found 0
searched_first g sources found all is =
    let same : (v : ℕ) → has found v ≡ has sources v = λ v. ap (λ (xs : List ℕ). has xs v) is ∙ has-found_after [] sources v in
    record {
      order = is ∙ ap (found_after []) (sym (append-nil sources));
      reached = λ v h. record { source = v; listed = sym (same v) ∙ h; reaches = Reaches-itself (HasArc g) v };
      below = λ v h. listed_below sources (length g) v all (sym (same v) ∙ h);
      within = omega arith;
    }

module _ (g : Digraph) (sources old new : List ℕ) (place : ℕ) (range : All (λ w. w < length g) (targets_of g (get_or old place 0))) (at : place < length old) (is : new ≡ found_after old (targets_of g (get_or old place 0))) (s : IsSearched g sources old place) where
  from_either : (v : ℕ) → has new v ≡ true → (has old v ≡ true) ⊎ HasArc g (get_or old place 0) v
  from_either v h = or_cases (has old v) (has (targets_of g (get_or old place 0)) v) (sym (ap (λ (xs : List ℕ). has xs v) is ∙ has-found_after old (targets_of g (get_or old place 0)) v) ∙ h)

  place_found : has old (get_or old place 0) ≡ true
  place_found = list_any_at (λ y. nat_eq y (get_or old place 0)) old place 0 at (eq-eqb (get_or old place 0) (get_or old place 0) refl)

  pub searched_more : IsSearched g sources new (place + 1)
  searched_more =
      let grown = found_after_grows old (targets_of g (get_or old place 0)) in
      record {
        order = order_more g sources place old new at s.order is;
        reached = λ v h. elim (from_either v h) as (λ _. ReachesFrom (HasArc g) sources v) [
          | inl before ↦ s.reached v before
          | inr arc ↦ let r = s.reached (get_or old place 0) place_found in record { source = r.source; listed = r.listed; reaches = Reaches-arc (HasArc g) r.source (get_or old place 0) v r.reaches arc }
        ];
        below = λ v h. elim (from_either v h) as (λ _. v < length g) [ inl before ↦ s.below v before | inr arc ↦ listed_below (targets_of g (get_or old place 0)) (length g) v range arc ];
        within = omega (arith, ap length (is ∙ grown.1), length-append old grown.0);
      }

-- the end of the search
module _ (g : Digraph) (sources found : List ℕ) (place : ℕ) (ends : length found ≤ place) (s : IsSearched g sources found place) where
  pub whole : found ≡ found_over g sources found
  whole = s.order ∙ ap (found_over g sources) (take_all place found ends)

  both : (v : ℕ) → has found v ≡ (has sources v || has (flat_map (targets_of g) found) v)
  both v = ap (λ (xs : List ℕ). has xs v) whole ∙ (has-found_after [] (sources ++ flat_map (targets_of g) found) v ∙ list_any-append (λ y. nat_eq y v) sources (flat_map (targets_of g) found))

  closed : (u w : ℕ) → has found u ≡ true → HasArc g u w → has found w ≡ true
  closed u w h arc = both w ∙ or_right (has sources w) (has (flat_map (targets_of g) found) w) (has-flat_map (targets_of g) found u w h arc)

  along : (n v w : ℕ) → has found v ≡ true → Walk (HasArc g) n v w → has found w ≡ true
  along zero v w h walk = subst (λ x. has found x ≡ true) walk h
  along (suc n) v w h walk = along n walk.0 w (closed v walk.0 h walk.1) walk.2

  pub members_found : (v : ℕ) → IsTrue (has found v) ↔ ReachesFrom (HasArc g) sources v
  members_found v = (
    s.reached v,
    λ r. along r.reaches.0 r.source v (both r.source ∙ or_left (has sources r.source) (has (flat_map (targets_of g) found) r.source) r.listed) r.reaches.1,
  )

  pub all_below : All (λ v. v < length g) found
  all_below k d h = s.below (get_or found k d) (list_any_at (λ y. nat_eq y (get_or found k d)) found k d h (eq-eqb _ _ refl))

distinct_found : (before xs : List ℕ) → IsDistinct nat_eq before → IsDistinct nat_eq (found_after before xs)
distinct_found before [] h = h
distinct_found before (x ∷ xs) h = distinct_found (with_new nat_eq before x) xs (IsDistinct-with_new nat_eq_equiv before x h)

distinct_none : IsDistinct nat_eq []
unfolding IsDistinct
distinct_none = tt

pub distinct_over : (g : Digraph) (sources vs : List ℕ) → IsDistinct nat_eq (found_over g sources vs)
distinct_over g sources vs = distinct_found [] (sources ++ flat_map (targets_of g) vs) distinct_none
