-- Tests of written-out shapes: each computes, and has what it shows. For examples.
use Rattle.design_rules.proofs.Prelude.{◌≡◌, ℕ, zero, suc, ◌+◌, ◌<◌, ◌≤◌, ◌⊎◌, inl, inr, ℤ, List, [], ◌∷◌, ◌++◌, length, get_or, Bool, true, false, not, ◌&&◌, ◌||◌, cond, nat_eq, nat_le, nat_lt, refl, sym, ap, subst, ◌∙◌, arith, eqb-true, leb-true, ltb-true, cases_Bool, cases_eq, cases_lt, and_parts, and_from, or_cases, both_ways, false≢true, cond-true, cond-false, not-true, flat_map, list_any, get_or-eq_default, Decides-int_eq, has, any_member, IsWithin, AreApart, Meet, Node, no_node, node_at, is_possible, target, node_after, IsRun, end_of, part_at, sharers, Shape, count_in, is_odd, PartShared, end_push, int_eq}
use Rattle.design_rules.proofs.Holders.{odd_more, odd_same}
use Rattle.design_rules.proofs.Linking.{some_alphabet}
use Rattle.design_rules.proofs.Runs.{run_induction}

pub record Test (P : Type 0) : Type 0 where
  pub passes : Bool
  pub shows : passes ≡ true → P

abbrev pub shown : {P Q : Type 0} → Test P → (P → Q) → Test Q
shown p f = record { passes = p.passes; shows = λ h. f (p.shows h) }

abbrev pub always : Test (Unit {0})
always = record { passes = true; shows = λ h. tt }

abbrev pub never : Test ⊥
never = record { passes = false; shows = λ h. false≢true h }

abbrev pub is_true : (b : Bool) → Test (b ≡ true)
is_true b = record { passes = b; shows = λ h. h }

abbrev pub is_false : (b : Bool) → Test (b ≡ false)
is_false b = record { passes = not b; shows = not-true b }

abbrev pub same_truth : (a b : Bool) → Test (a ≡ b)
same_truth true b = shown (is_true b) sym
same_truth false b = shown (is_false b) sym

abbrev pub same : (m n : ℕ) → Test (m ≡ n)
same m n = record { passes = nat_eq m n; shows = eqb-true m n }

abbrev pub less : (m n : ℕ) → Test (m < n)
less m n = record { passes = nat_lt m n; shows = ltb-true m n }

abbrev pub at_most : (m n : ℕ) → Test (m ≤ n)
at_most m n = record { passes = nat_le m n; shows = leb-true m n }

abbrev pub same_rank : (x y : ℤ) → Test (x ≡ y)
same_rank x y = record { passes = int_eq x y; shows = (Decides-int_eq x y).0 }

abbrev pub both : {P Q : Type 0} → Test P → Test Q → Test (P × Q)
both p q = record { passes = p.passes && q.passes; shows = λ h. let x = and_parts p.passes q.passes h in (p.shows x.0, q.shows x.1) }

abbrev pub three : {P Q R : Type 0} → Test P → Test Q → Test R → Test (P × Q × R)
three p q r = shown (both p (both q r)) (λ h. (h.0, h.1.0, h.1.1))

abbrev pub four : {P Q R S : Type 0} → Test P → Test Q → Test R → Test S → Test (P × Q × R × S)
four p q r s = shown (both (both p q) (both r s)) (λ h. (h.0.0, h.0.1, h.1.0, h.1.1))

abbrev pub either : {P Q : Type 0} → Test P → Test Q → Test (P ⊎ Q)
either p q = record { passes = p.passes || q.passes; shows = λ h. elim (or_cases p.passes q.passes h) [ inl x ↦ inl (p.shows x) | inr x ↦ inr (q.shows x) ] }

-- where the first holds, the second does
abbrev pub when : {P : Type 0} (b : Bool) → Test P → Test (b ≡ true → P)
when b p = record { passes = cond b p.passes true; shows = λ h k. p.shows (sym (cond-true b p.passes true k) ∙ h) }

abbrev pub unless : {P : Type 0} (b : Bool) → Test P → Test (b ≡ false → P)
unless b p = record { passes = cond b true p.passes; shows = λ h k. p.shows (sym (cond-false b true p.passes k) ∙ h) }

-- ---- numbers and members

abbrev pub below : {P : ℕ → Type 0} (n : ℕ) → ((i : ℕ) → Test (P i)) → Test ((i : ℕ) → i < n → P i)
below zero p = shown always (λ _ i h. absurd (omega arith))
below {P} (suc n) p = shown (both (p n) (below n p)) (λ h i less. elim (cases_eq i n) [ inl same ↦ subst P (sym same) h.0 | inr other ↦ h.1 i (omega arith) ])

pub below_passes : {P : ℕ → Type 0} (n : ℕ) (p : (i : ℕ) → Test (P i)) → ((i : ℕ) → i < n → (p i).passes ≡ true) → (below n p).passes ≡ true
below_passes zero p h = refl
below_passes (suc n) p h = and_from _ _ (h n (omega arith)) (below_passes n p (λ i less. h i (omega arith)))

abbrev pub members : {P : ℕ → Type 0} (M : List ℕ) → ((e : ℕ) → Test (P e)) → Test ((e : ℕ) → has M e ≡ true → P e)
members [] p = shown always (λ _ e h. absurd (false≢true h))
members {P} (x ∷ M) p = shown (both (p x) (members M p)) (λ h e there. elim (or_cases (nat_eq x e) (has M e) there) [ inl same ↦ subst P (eqb-true x e same) h.0 | inr rest ↦ h.1 e rest ])

abbrev pub within : (M N : List ℕ) → Test (IsWithin M N)
within M N = members M (λ e. is_true (has N e))

abbrev pub apart : (M N : List ℕ) → Test (AreApart M N)
apart M N = shown (members M (λ e. is_false (has N e))) (λ h e m n. both_ways (has N e) (h e m) n)

abbrev pub meets : (M N : List ℕ) → Test (Meet M N)
meets M N = record { passes = list_any (has N) M; shows = λ h. let e = any_member (has N) M h in record { event = e.0; first = e.1; second = e.2 } }

-- ---- lists of sets, of steps and of nodes

pub at_each : (P : List ℕ → Type 0) (M : List ℕ) (Ms : List (List ℕ)) → P M → ((k : ℕ) → k < length Ms → P (get_or Ms k [])) → (k : ℕ) → k < length (M ∷ Ms) → P (get_or (M ∷ Ms) k [])
at_each P M Ms here later zero h = here
at_each P M Ms here later (suc k) h = later k (omega arith)

abbrev pub sets : {P : List ℕ → Type 0} (Ms : List (List ℕ)) → ((M : List ℕ) → Test (P M)) → Test ((k : ℕ) → k < length Ms → P (get_or Ms k []))
sets [] p = shown always (λ _ k h. absurd (omega arith))
sets {P} (M ∷ Ms) p = shown (both (p M) (sets Ms p)) (λ h. at_each P M Ms h.0 h.1)

pub at_step : (P : ℕ → ℕ → Type 0) (step : ℕ × ℕ) (steps : List (ℕ × ℕ)) (e : ℕ) → P step.0 step.1 → (is_possible steps e ≡ true → P e (target steps e)) → is_possible (step ∷ steps) e ≡ true → P e (target (step ∷ steps) e)
at_step P step steps e here later h = elim (cases_Bool (nat_eq step.0 e)) [
  | inl same ↦ subst (P e) (sym (cond-true (nat_eq step.0 e) step.1 (target steps e) same)) (subst (λ x. P x step.1) (eqb-true step.0 e same) here)
  | inr other ↦
      subst (P e) (sym (cond-false (nat_eq step.0 e) step.1 (target steps e) other))
      (later (elim (or_cases (nat_eq step.0 e) (is_possible steps e) h) [ inl x ↦ absurd (both_ways _ other x) | inr x ↦ x ]))
]

abbrev steps_of : {P : ℕ → ℕ → Type 0} (steps : List (ℕ × ℕ)) → ((e t : ℕ) → Test (P e t)) → Test ((e : ℕ) → is_possible steps e ≡ true → P e (target steps e))
steps_of [] p = shown always (λ _ e h. absurd (false≢true h))
steps_of {P} (step ∷ steps) p = shown (both (p step.0 step.1) (steps_of steps p)) (λ h e. at_step P step steps e h.0 (h.1 e))

-- A node past the end passes too.
abbrev pub nodes : {P : ℕ → Node → Type 0} (table : List Node) (p : (n : ℕ) (node : Node) → Test (P n node)) → ((n : ℕ) → (p n no_node).passes ≡ true) → Test ((n : ℕ) → P n (node_at table n))
nodes {P} table p past = shown (below (length table) (λ n. p n (node_at table n))) (λ h n. elim (cases_lt n (length table)) [
  | inl less ↦ h n less
  | inr more ↦ subst (P n) (sym (get_or-eq_default table no_node more)) ((p n no_node).shows (past n))
])

-- every step of the table, with the node that it leaves and the one to which it leads
abbrev pub steps : {P : ℕ → ℕ → ℕ → Type 0} (table : List Node) → ((n e t : ℕ) → Test (P n e t)) → Test ((n e : ℕ) → is_possible (node_at table n).next e ≡ true → P n e (node_after table n e))
steps table p = nodes table (λ n node. steps_of node.next (p n)) (λ n. refl)

-- every acceptance of the table, with its node
abbrev pub accepted : {P : ℕ → List ℕ → Type 0} (table : List Node) → ((n : ℕ) (M : List ℕ) → Test (P n M))
    → Test ((n k : ℕ) → k < length (node_at table n).accept → P n (get_or (node_at table n).accept k []))
accepted table p = nodes table (λ n node. sets node.accept (p n)) (λ n. refl)

-- every part and link
abbrev pub ends : {P : ℕ → ℕ → Type 0} (shape : Shape) → ((i l : ℕ) → Test (P i l)) → Test ((i l : ℕ) → i < length shape.parts → l < length shape.links → P i l)
ends shape p = shown (below (length shape.parts) (λ i. below (length shape.links) (p i))) (λ h i l here. h i here l)

-- ---- what is observed along runs

-- An observation goes on by itself with each event, and each node tells it.
pub record Observed {A : Type 0} (table : List Node) (observe : List ℕ → A) (next : A → ℕ → A) (told : ℕ → A) : Type 0 where
  pub start : observe [] ≡ told 0
  pub goes_on : (u : List ℕ) (e : ℕ) → observe (u ++ e ∷ []) ≡ next (observe u) e
  pub steps : (n e : ℕ) → is_possible (node_at table n).next e ≡ true → next (told n) e ≡ told (node_after table n e)

pub observed : {A : Type 0} (table : List Node) (observe : List ℕ → A) (next : A → ℕ → A) (told : ℕ → A) → Observed table observe next told → (s : List ℕ) → IsRun table s → observe s ≡ told (end_of table 0 s)
observed table observe next told o s h =
    run_induction table (λ u. observe u ≡ told (end_of table 0 u)) o.start
    (λ u e r possible is. o.goes_on u e ∙ ap (λ x. next x e) is ∙ o.steps (end_of table 0 u) e possible ∙ ap told (sym (end_push table 0 u e)))
    s h

-- ---- parities, and sets that part what is shared

abbrev pub next_parity : List ℕ → Bool → ℕ → Bool
next_parity S b e = cond (has S e) (not b) b

-- the parity of the events of a set, told node by node
pub parity_told : (table : List Node) (S : List ℕ) (told : ℕ → Bool) → false ≡ told 0 → ((n e : ℕ) → is_possible (node_at table n).next e ≡ true → next_parity S (told n) e ≡ told (node_after table n e))
    → (s : List ℕ) → IsRun table s → is_odd (count_in S s) ≡ told (end_of table 0 s)
parity_told table S told start steps = observed table (λ u. is_odd (count_in S u)) (next_parity S) told (record { start = start; goes_on = goes_on; steps = steps })
  where
    goes_on : (u : List ℕ) (e : ℕ) → is_odd (count_in S (u ++ e ∷ [])) ≡ next_parity S (is_odd (count_in S u)) e
    goes_on u e = grind (arith, odd_more S u e, odd_same S u e)

abbrev part_test : (shape : Shape) (i : ℕ) (others : List (List ℕ)) (e : ℕ) → Test (sharers others e ≡ cond (has (part_at shape.parts i).alphabet e && has shape.vocabulary e) 1 0)
part_test shape i others e = same (sharers others e) (cond (has (part_at shape.parts i).alphabet e && has shape.vocabulary e) 1 0)

abbrev pub parts_shared : (shape : Shape) (i : ℕ) (others : List (List ℕ)) → Test (PartShared shape i others)
parts_shared shape i others =
    shown (both (members (part_at shape.parts i).alphabet (part_test shape i others)) (members (flat_map (λ M. M) others) (part_test shape i others)))
    (λ h e. elim (cases_Bool (has (part_at shape.parts i).alphabet e)) [
      | inl own ↦ h.0 e own
      | inr strange ↦ elim (cases_lt (sharers others e) 1) [
        | inl none ↦ (let zero : sharers others e ≡ 0 = omega arith in zero) ∙ sym (ap (λ b. cond (b && has shape.vocabulary e) 1 0) strange)
        | inr some ↦ h.1 e (some_alphabet others e (omega arith))
      ]
    ])
