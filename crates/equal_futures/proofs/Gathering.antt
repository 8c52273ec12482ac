-- Steps in lists: where they stand, the rows of incoming steps, and steps that are gathered.
use Rattle.equal_futures.proofs.Prelude.{◌≡◌, ℕ, zero, suc, ◌+◌, ◌<◌, inl, inr, List, [], ◌∷◌, length, get_or, Bool, true, false, ◌||◌, ◌&&◌, nat_eq, refl, sym, ap, ◌∙◌, subst, arith, ◌↔◌, Contains, IsPermutation, cases_eq, or_cases, or_left, or_right, and_parts, eqb-true, eq-eqb, ne_eqb, false≢true, Contains-permutation, IsPermutation-sym, Node, node_at, is_possible, target, node_after, StepsRise, NodesRise, has_arrow, AreFrom, AreAdded, AreIncoming, same_tests, All, and_from}
use Rattle.equal_futures.proofs.RowLists.{once}

-- where a step stands
pub step_place : (steps : List (ℕ × ℕ)) (e i : ℕ) → has_arrow steps e i ≡ true → (k : ℕ) × (k < length steps) × ((get_or steps k (0, 0)).0 ≡ e) × ((get_or steps k (0, 0)).1 ≡ i)
step_place [] e i h = absurd (false≢true h)
step_place (x ∷ xs) e i h = elim (or_cases (nat_eq x.0 e && nat_eq x.1 i) (has_arrow xs e i) h) as (λ _. (k : ℕ) × (k < suc (length xs)) × ((get_or (x ∷ xs) k (0, 0)).0 ≡ e) × ((get_or (x ∷ xs) k (0, 0)).1 ≡ i)) [
  | inl here ↦ let p = and_parts (nat_eq x.0 e) (nat_eq x.1 i) here in (0, omega arith, eqb-true x.0 e p.0, eqb-true x.1 i p.1)
  | inr later ↦ let p = step_place xs e i later in let l = p.1 in (suc p.0, omega arith, p.2, p.3)
]

pub step_at : (steps : List (ℕ × ℕ)) (k : ℕ) (d : ℕ × ℕ) → k < length steps → has_arrow steps (get_or steps k d).0 (get_or steps k d).1 ≡ true
step_at [] k d h = absurd (omega arith)
step_at (x ∷ xs) zero d h = or_left (nat_eq x.0 x.0 && nat_eq x.1 x.1) (has_arrow xs x.0 x.1) (and_from (nat_eq x.0 x.0) (nat_eq x.1 x.1) (eq-eqb x.0 x.0 refl) (eq-eqb x.1 x.1 refl))
step_at (x ∷ xs) (suc k) d h =
    let y = get_or xs k d in
    or_right (nat_eq x.0 y.0 && nat_eq x.1 y.1) (has_arrow xs y.0 y.1) (step_at xs k d (omega arith))

pub has_contained : (steps : List (ℕ × ℕ)) (e i : ℕ) → Contains steps (e, i) → has_arrow steps e i ≡ true
has_contained steps e i c =
    subst (λ (x : ℕ × ℕ). has_arrow steps x.0 x.1 ≡ true) c.2 (step_at steps c.0 (e, i) c.1)

contained : (steps : List (ℕ × ℕ)) (e i : ℕ) → has_arrow steps e i ≡ true → Contains steps (e, i)
contained [] e i h = absurd (false≢true h)
contained (x ∷ xs) e i h = elim (or_cases (nat_eq x.0 e && nat_eq x.1 i) (has_arrow xs e i) h) as (λ _. Contains (x ∷ xs) (e, i)) [
  | inl here ↦ let p = and_parts (nat_eq x.0 e) (nat_eq x.1 i) here in (0, omega arith, pair x.0 x.1 e i (eqb-true x.0 e p.0) (eqb-true x.1 i p.1))
  | inr later ↦ let p = contained xs e i later in let l = p.1 in (suc p.0, omega arith, p.2)
]
  where
    pair : (a b c d : ℕ) → a ≡ c → b ≡ d → ◌≡◌ {A = ℕ × ℕ} (a, b) (c, d)
    pair a b c d p q = λ j. (p j, q j)

-- another order has the same steps
pub permuted : (xs ys : List (ℕ × ℕ)) → IsPermutation xs ys → (e i : ℕ) → has_arrow ys e i ≡ has_arrow xs e i
permuted xs ys p e i = same_tests (has_arrow ys e i) (has_arrow xs e i)
    (λ h. has_contained xs e i (Contains-permutation ys xs (e, i) (IsPermutation-sym xs ys p) (contained ys e i h)))
    (λ h. has_contained ys e i (Contains-permutation xs ys (e, i) p (contained xs e i h)))

pub all_sources : (n : ℕ) (steps : List (ℕ × ℕ)) → AreFrom n steps → All (λ step. step.1 < n) steps
all_sources n steps from k d h = from (get_or steps k d).0 (get_or steps k d).1 (step_at steps k d h)

-- a step of a node is listed exactly where its event is possible and leads there
pub listed_is : (n : ℕ) (steps : List (ℕ × ℕ)) (e t : ℕ) → StepsRise n steps → (has_arrow steps e t ≡ true) ↔ ((is_possible steps e ≡ true) × (target steps e ≡ t))
listed_is n [] e t rise = (λ h. absurd (false≢true h), λ h. absurd (false≢true h.0))
listed_is n (x ∷ xs) e t rise = elim (cases_eq x.0 e) as (λ _. (has_arrow (x ∷ xs) e t ≡ true) ↔ ((is_possible (x ∷ xs) e ≡ true) × (target (x ∷ xs) e ≡ t))) [
  | inl same ↦
      let here : nat_eq x.0 e ≡ true = eq-eqb x.0 e same in
      let leads : target (x ∷ xs) e ≡ x.1 = rw here refl in (
        λ h. (
          or_left (nat_eq x.0 e) (is_possible xs e) here,
          leads ∙ elim (or_cases (nat_eq x.0 e && nat_eq x.1 t) (has_arrow xs e t) h) as (λ _. x.1 ≡ t) [
            | inl now ↦ eqb-true x.1 t (and_parts (nat_eq x.0 e) (nat_eq x.1 t) now).1
            | inr later ↦ let p = (listed_is n xs e t rise.2).0 later in absurd (false≢true (sym (once n x xs rise) ∙ ap (λ a. is_possible xs a) same ∙ p.0))
          ],
        ),
        λ h. or_left (nat_eq x.0 e && nat_eq x.1 t) (has_arrow xs e t) (and_from (nat_eq x.0 e) (nat_eq x.1 t) here (eq-eqb x.1 t (sym leads ∙ h.1))),
      )
  | inr other ↦
      let away : nat_eq x.0 e ≡ false = ne_eqb x.0 e other in
      let leads : target (x ∷ xs) e ≡ target xs e = rw away refl in
      let can : is_possible (x ∷ xs) e ≡ is_possible xs e = rw away refl in
      let has : has_arrow (x ∷ xs) e t ≡ has_arrow xs e t = rw away refl in
      let q = listed_is n xs e t rise.2 in
      (λ h. let p = q.0 (sym has ∙ h) in (can ∙ p.0, leads ∙ p.1), λ h. has ∙ q.1 (sym can ∙ h.0, sym leads ∙ h.1))
]

-- one step more in the row of its target
here : (a s h e : Bool) → ((a || (s && h)) || ((e && s) || false)) ≡ (a || (s && (h || ((e && true) || false))))
here true s h e = refl
here false true h true = refl
here false true h false = refl
here false false h true = refl
here false false h false = refl

away : (a s h e : Bool) → (a || (s && h)) ≡ (a || (s && (h || ((e && false) || false))))
away true s h e = refl
away false false h e = refl
away false true true e = refl
away false true false true = refl
away false true false false = refl

pub one_more_incoming : (nodes : List Node) (rows more : List (List (ℕ × ℕ))) (k : ℕ) → NodesRise nodes → AreIncoming nodes rows k → AreAdded rows more k (node_at nodes k).next → AreIncoming nodes more (k + 1)
one_more_incoming nodes rows more k rise a b = record {
  one_each = b.one_each ∙ a.one_each;
  exact = λ t e i h.
      let there : t < length rows = subst (λ m. t < m) (sym a.one_each) h in
      let is = b.steps t e i there in
      let listed = listed_is (length nodes) (node_at nodes k).next e t (rise k) in (
        λ p. elim (or_cases (has_arrow (get_or rows t []) e i) (nat_eq k i && has_arrow (node_at nodes k).next e t) (sym is ∙ p)) as (λ _. (i < k + 1) × (is_possible (node_at nodes i).next e ≡ true) × (node_after nodes i e ≡ t)) [
          | inl old ↦ let q = (a.exact t e i h).0 old in (omega (arith, q.0), q.1, q.2)
          | inr new ↦
              let q = and_parts (nat_eq k i) (has_arrow (node_at nodes k).next e t) new in
              let same : k ≡ i = eqb-true k i q.0 in
              let r = listed.0 q.1 in
              (omega arith, subst (λ x. is_possible (node_at nodes x).next e ≡ true) same r.0, subst (λ x. node_after nodes x e ≡ t) same r.1)
        ],
        λ r. is ∙ elim (cases_eq k i) as (λ _. (has_arrow (get_or rows t []) e i || (nat_eq k i && has_arrow (node_at nodes k).next e t)) ≡ true) [
          | inl same ↦ or_right (has_arrow (get_or rows t []) e i) (nat_eq k i && has_arrow (node_at nodes k).next e t)
              (and_from (nat_eq k i) (has_arrow (node_at nodes k).next e t) (eq-eqb k i same) (listed.1 (subst (λ x. is_possible (node_at nodes x).next e ≡ true) (sym same) r.1, subst (λ x. node_after nodes x e ≡ t) (sym same) r.2)))
          | inr other ↦ or_left (has_arrow (get_or rows t []) e i) (nat_eq k i && has_arrow (node_at nodes k).next e t) ((a.exact t e i h).1 (omega (arith, r.0, other), r.1, r.2))
        ],
      );
}

-- each step of a node leads to a node
pub all_targets : (n : ℕ) (steps : List (ℕ × ℕ)) → StepsRise n steps → All (λ step. step.1 < n) steps
all_targets n [] rise k d h = absurd (omega arith)
all_targets n (x ∷ xs) rise zero d h = rise.0
all_targets n (x ∷ xs) rise (suc k) d h = all_targets n xs rise.2 k d (omega arith)
