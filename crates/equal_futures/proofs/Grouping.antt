-- Steps that are sorted by event are taken group by group, each event once.
use Rattle.equal_futures.proofs.Prelude.{◌≡◌, ℕ, zero, suc, ◌+◌, ◌-◌, ◌<◌, ◌≤◌, inl, inr, List, [], ◌∷◌, length, get_or, take, drop, true, nat_eq, refl, sym, ap, ◌∙◌, subst, arith, ◌↔◌, IsNonDecreasingBy, IsPermutation, cases_lt, or_cases, or_left, or_right, eqb-true, eq-eqb, false≢true, length-take-le, length-drop, get_or-take, get_or-drop, IsSplitByEvents, AreFrom, has_arrow, event_at, State, HasBlocks, IsCalm, IsOnward, IsSplit, block_at, is_source, onward_trans, same_tests, All}
use Rattle.equal_futures.proofs.Gathering.{step_place, step_at, permuted, all_sources}

-- the events before a place are done, and don't come again
pub record AreSplitUpTo (n : ℕ) (s t : State) (steps : List (ℕ × ℕ)) (from : ℕ) : Type 0 where
  pub fit : HasBlocks n t
  pub calm : IsCalm t
  pub onward : IsOnward n s t
  pub exact : (i j : ℕ) → i < n → j < n → (block_at t i ≡ block_at t j) ↔ ((block_at s i ≡ block_at s j) × ((k : ℕ) → k < from → has_arrow steps (event_at steps k) i ≡ has_arrow steps (event_at steps k) j))
  pub apart : (k l : ℕ) → k < from → from ≤ l → l < length steps → event_at steps k ≡ event_at steps l → ⊥

source_place : (steps : List (ℕ × ℕ)) (i : ℕ) → is_source steps i ≡ true → (k : ℕ) × (k < length steps) × ((get_or steps k (0, 0)).1 ≡ i)
source_place [] i h = absurd (false≢true h)
source_place (x ∷ xs) i h = elim (or_cases (nat_eq x.1 i) (is_source xs i) h) as (λ _. (k : ℕ) × (k < suc (length xs)) × ((get_or (x ∷ xs) k (0, 0)).1 ≡ i)) [
  | inl here ↦ (0, omega arith, eqb-true x.1 i here)
  | inr later ↦ let p = source_place xs i later in let l = p.1 in (suc p.0, omega arith, p.2)
]

source_at : (steps : List (ℕ × ℕ)) (k : ℕ) → k < length steps → is_source steps (get_or steps k (0, 0)).1 ≡ true
source_at [] k h = absurd (omega arith)
source_at (x ∷ xs) zero h = or_left (nat_eq x.1 x.1) (is_source xs x.1) (eq-eqb x.1 x.1 refl)
source_at (x ∷ xs) (suc k) h = let y = get_or xs k (0, 0) in or_right (nat_eq x.1 y.1) (is_source xs y.1) (source_at xs k (omega arith))

-- the group of the steps by one event
pub record IsGroup (steps : List (ℕ × ℕ)) (from to : ℕ) : Type 0 where
  pub after : from < to
  pub within : to ≤ length steps
  pub same : (k : ℕ) → from ≤ k → k < to → event_at steps k ≡ event_at steps from
  pub stops : to < length steps → event_at steps to ≡ event_at steps from → ⊥

abbrev pub part : List (ℕ × ℕ) → ℕ → ℕ → List (ℕ × ℕ)
part steps from to = take (to - from) (drop from steps)

pub sources_part : (n : ℕ) (steps : List (ℕ × ℕ)) (from to : ℕ) → AreFrom n steps → from ≤ to → to ≤ length steps → All (λ step. step.1 < n) (part steps from to)
sources_part n steps from to sources low high k d h =
    let len : length (take (to - from) (drop from steps)) ≡ to - from = length-take-le (to - from) (drop from steps) (let l = length-drop from steps in omega arith) in
    let k' : k < to - from = subst (λ m. k < m) len h in
    subst (λ (x : ℕ × ℕ). x.1 < n) (sym (get_or-take (to - from) (drop from steps) k d k' ∙ get_or-drop from steps k d)) (all_sources n steps sources (from + k) d (omega arith))

module _ (n : ℕ) (s t u : State) (steps : List (ℕ × ℕ)) (from to : ℕ) (sorted : IsNonDecreasingBy (λ (step : ℕ × ℕ). step.0) steps) (g : IsGroup steps from to) (a : AreSplitUpTo n s t steps from) (split : IsSplit n t u (part steps from to)) where
  part_len : length (part steps from to) ≡ to - from
  part_len = length-take-le (to - from) (drop from steps) (let l = length-drop from steps in let w = g.within in omega arith)

  part_at : (k : ℕ) → k < to - from → get_or (part steps from to) k (0, 0) ≡ get_or steps (from + k) (0, 0)
  part_at k h = get_or-take (to - from) (drop from steps) k (0, 0) h ∙ get_or-drop from steps k (0, 0)

  -- no step by the event stands elsewhere
  inside : (k : ℕ) → k < length steps → event_at steps k ≡ event_at steps from → (from ≤ k) × (k < to)
  inside k h e =
      let w = g.within in let r = g.after in
      let low : from ≤ k = elim (cases_lt k from) as (λ _. from ≤ k) [ inl l ↦ absurd (a.apart k from l (omega arith) (omega arith) e) | inr m ↦ m ] in (
        low,
        elim (cases_lt k to) as (λ _. k < to) [
          | inl l ↦ l
          | inr m ↦
              let below : to < length steps = omega arith in
              let up : event_at steps to ≤ event_at steps k = sorted to k (0, 0) m h in
              let up' : event_at steps from ≤ event_at steps to = sorted from to (0, 0) (omega arith) below in
              absurd (g.stops below (omega arith))
        ],
      )

  source_same : (i : ℕ) → is_source (part steps from to) i ≡ has_arrow steps (event_at steps from) i
  source_same i = same_tests (is_source (part steps from to) i) (has_arrow steps (event_at steps from) i)
      (λ h.
      let w = g.within in
      let p = source_place (part steps from to) i h in
      let k : p.0 < to - from = subst (λ m. p.0 < m) part_len p.1 in
      let is : (get_or steps (from + p.0) (0, 0)).1 ≡ i = ap (λ (x : ℕ × ℕ). x.1) (sym (part_at p.0 k)) ∙ p.2 in
      let event : event_at steps (from + p.0) ≡ event_at steps from = g.same (from + p.0) (omega arith) (omega arith) in
      subst (λ e. has_arrow steps e i ≡ true) event (subst (λ x. has_arrow steps (event_at steps (from + p.0)) x ≡ true) is (step_at steps (from + p.0) (0, 0) (omega arith))))
      (λ h.
      let p = step_place steps (event_at steps from) i h in
      let q = inside p.0 p.1 p.2 in
      let k : p.0 - from < to - from = let x = q.0 in let y = q.1 in omega arith in
      let back : from + (p.0 - from) ≡ p.0 = let x = q.0 in omega arith in
      let is : (get_or (part steps from to) (p.0 - from) (0, 0)).1 ≡ i = ap (λ (x : ℕ × ℕ). x.1) (part_at (p.0 - from) k ∙ ap (λ m. get_or steps m (0, 0)) back) ∙ p.3 in
      subst (λ x. is_source (part steps from to) x ≡ true) is (source_at (part steps from to) (p.0 - from) (subst (λ m. p.0 - from < m) (sym part_len) k)))

  pub one_more_group : AreSplitUpTo n s u steps to
  one_more_group = record {
    fit = split.fit;
    calm = split.calm;
    onward = onward_trans n s t u a.onward split.onward;
    exact = λ i j h l.
        let p = a.exact i j h l in
        let q = split.exact i j h l in (
          λ e.
              let r = q.0 e in
              let r' = p.0 r.0 in
              let group : has_arrow steps (event_at steps from) i ≡ has_arrow steps (event_at steps from) j = sym (source_same i) ∙ r.1 ∙ source_same j in (
                r'.0,
                λ k m. elim (cases_lt k from) as (λ _. has_arrow steps (event_at steps k) i ≡ has_arrow steps (event_at steps k) j) [
                  | inl before ↦ r'.1 k before
                  | inr now ↦ subst (λ e. has_arrow steps e i ≡ has_arrow steps e j) (sym (g.same k now m)) group
                ],
              ),
          λ r.
              q.1 (p.1 (r.0, λ k m. r.1 k (let x = g.after in omega arith)), source_same i ∙ r.1 from g.after ∙ sym (source_same j)),
        );
    apart = λ k l h m below e. elim (cases_lt k from) as (λ _. ⊥) [
      | inl before ↦ a.apart k l before (let x = g.after in omega arith) below e
      | inr now ↦
          let r = inside l below (sym e ∙ g.same k now h) in let x = r.1 in absurd (omega arith)
    ];
  }

pub all_groups : (n : ℕ) (s t : State) (steps : List (ℕ × ℕ)) (from : ℕ) → length steps ≤ from → AreSplitUpTo n s t steps from → IsSplitByEvents n s t steps
all_groups n s t steps from over a = record {
  fit = a.fit;
  calm = a.calm;
  exact = λ i j h l.
      let p = a.exact i j h l in (
        λ e. let r = p.0 e in (
          r.0,
          λ e. same_tests (has_arrow steps e i) (has_arrow steps e j)
              (λ q. let m = step_place steps e i q in let b = m.1 in subst (λ x. has_arrow steps x j ≡ true) m.2 (sym (r.1 m.0 (omega arith)) ∙ subst (λ x. has_arrow steps x i ≡ true) (sym m.2) q))
              (λ q. let m = step_place steps e j q in let b = m.1 in subst (λ x. has_arrow steps x i ≡ true) m.2 (r.1 m.0 (omega arith) ∙ subst (λ x. has_arrow steps x j ≡ true) (sym m.2) q)),
        ),
        λ r. p.1 (r.0, λ k _. r.1 (event_at steps k)),
      );
  onward = a.onward;
}

-- the order of the steps doesn't matter
pub in_any_order : (n : ℕ) (s t : State) (xs ys : List (ℕ × ℕ)) → IsPermutation xs ys → IsSplitByEvents n s t ys → IsSplitByEvents n s t xs
in_any_order n s t xs ys p a = record {
  fit = a.fit;
  calm = a.calm;
  exact = λ i j h l. let q = a.exact i j h l in (
    λ e. let r = q.0 e in (r.0, λ e. sym (permuted xs ys p e i) ∙ r.1 e ∙ permuted xs ys p e j),
    λ r. q.1 (r.0, λ e. permuted xs ys p e i ∙ r.1 e ∙ sym (permuted xs ys p e j)),
  );
  onward = a.onward;
}

pub from_any_order : (n : ℕ) (xs ys : List (ℕ × ℕ)) → IsPermutation xs ys → AreFrom n xs → AreFrom n ys
from_any_order n xs ys p from e i h = from e i (sym (permuted xs ys p e i) ∙ h)
