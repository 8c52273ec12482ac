-- Numbers that are met in their order: along a list, along two lists, and what has been met.
use Rattle.normal_form.proofs.Prelude.{◌≡◌, ℕ, zero, suc, ◌+◌, ◌<◌, ◌≤◌, inl, inr, true, false, nat_eq, List, [], ◌∷◌, ◌++◌, length, take, drop, refl, sym, ap, ◌∙◌, subst, arith, map, cases_Bool, cases_lt, cond-true, cond-false, false≢true, eq-eqb, ne_eqb, both_ways, or_left, or_right, append-nil, take-append-drop, flat_map-append, RisesFrom, BeginsAbove, Node, node_at, is_possible, target, targets_of_steps, targets_of_nodes, MeetsInOrder, MeetsUpTo, StepsRise, once}

pub meets_more : (n m : ℕ) (xs : List ℕ) → MeetsInOrder n xs m → n ≤ m
meets_more n m [] h = omega (arith, h)
meets_more n m (x ∷ xs) (inl h) = meets_more n m xs h.1
meets_more n m (x ∷ xs) (inr h) = let l : suc n ≤ m = meets_more (suc n) m xs h.1 in omega (arith, l)

pub meets_same : (n m k : ℕ) (xs : List ℕ) → MeetsInOrder n xs m → MeetsInOrder n xs k → m ≡ k
meets_same n m k [] a b = sym a ∙ b
meets_same n m k (x ∷ xs) (inl a) (inl b) = meets_same n m k xs a.1 b.1
meets_same n m k (x ∷ xs) (inl a) (inr b) = absurd (omega (arith, a.0, b.0))
meets_same n m k (x ∷ xs) (inr a) (inl b) = absurd (omega (arith, a.0, b.0))
meets_same n m k (x ∷ xs) (inr a) (inr b) = meets_same (suc n) m k xs a.1 b.1

-- what has been met between two lists
pub record MetBetween (n : ℕ) (xs ys : List ℕ) (m : ℕ) : Type 0 where
  pub middle : ℕ
  pub front : MeetsInOrder n xs middle
  pub back : MeetsInOrder middle ys m

pub meets_cut : (n m : ℕ) (xs ys : List ℕ) → MeetsInOrder n (xs ++ ys) m → MetBetween n xs ys m
meets_cut n m [] ys h = record { middle = n; front = refl; back = h }
meets_cut n m (x ∷ xs) ys (inl h) = let r = meets_cut n m xs ys h.1 in record { middle = r.middle; front = inl (h.0, r.front); back = r.back }
meets_cut n m (x ∷ xs) ys (inr h) = let r = meets_cut (suc n) m xs ys h.1 in record { middle = r.middle; front = inr (h.0, r.front); back = r.back }

-- what holds of each step's target
abbrev pub EachTarget : (ℕ → Type 0) → List (ℕ × ℕ) → Type 0
EachTarget P [] = Unit {0}
EachTarget P (step ∷ steps) = P step.1 × EachTarget P steps

pub weaker : (P Q : ℕ → Type 0) (steps : List (ℕ × ℕ)) → ((t : ℕ) → P t → Q t) → EachTarget P steps → EachTarget Q steps
weaker P Q [] turn each = tt
weaker P Q (step ∷ steps) turn each = (turn step.1 each.0, weaker P Q steps turn each.1)

pub target_is : (P : ℕ → Type 0) (steps : List (ℕ × ℕ)) (e : ℕ) → EachTarget P steps → is_possible steps e ≡ true → P (target steps e)
target_is P [] e each possible = absurd (false≢true possible)
target_is P (step ∷ steps) e each possible = elim (cases_Bool (nat_eq step.0 e)) as (λ _. P (target (step ∷ steps) e)) [
  | inl here ↦ subst P (sym (cond-true (nat_eq step.0 e) step.1 (target steps e) here)) each.0
  | inr other ↦
      let later : is_possible steps e ≡ true = rw other at possible in
      subst P (sym (cond-false (nat_eq step.0 e) step.1 (target steps e) other)) (target_is P steps e each.1 later)
]

-- each step leads to a node that has been met
pub steps_met : (n m : ℕ) (steps : List (ℕ × ℕ)) → MeetsInOrder n (targets_of_steps steps) m → EachTarget (λ t. t < m) steps
steps_met n m [] h = tt
steps_met n m (step ∷ steps) (inl h) = let l : n ≤ m = meets_more n m (targets_of_steps steps) h.1 in (omega (arith, h.0, l), steps_met n m steps h.1)
steps_met n m (step ∷ steps) (inr h) = let l : suc n ≤ m = meets_more (suc n) m (targets_of_steps steps) h.1 in (omega (arith, h.0, l), steps_met (suc n) m steps h.1)

pub nodes_met : (n m : ℕ) (nodes : List Node) (j : ℕ) → MeetsInOrder n (targets_of_nodes nodes) m → j < length nodes → EachTarget (λ t. t < m) (node_at nodes j).next
nodes_met n m [] j h below = absurd (omega arith)
nodes_met n m (node ∷ nodes) zero h below =
    let r = meets_cut n m (targets_of_steps node.next) (targets_of_nodes nodes) h in
    let l : r.middle ≤ m = meets_more r.middle m (targets_of_nodes nodes) r.back in
    weaker (λ t. t < r.middle) (λ t. t < m) node.next (λ t (less : t < r.middle). omega (arith, less, l)) (steps_met n r.middle node.next r.front)
nodes_met n m (node ∷ nodes) (suc j) h below =
    let r = meets_cut n m (targets_of_steps node.next) (targets_of_nodes nodes) h in
    nodes_met r.middle m nodes j r.back (omega arith)

-- steps whose events rise, and whose targets are nodes
pub rise_from : (n b : ℕ) (steps : List (ℕ × ℕ)) → RisesFrom b (map (λ step. step.0) steps) → EachTarget (λ t. t < n) steps → StepsRise n steps
rise_from n b [] rises each = tt
rise_from n b (step ∷ steps) rises each = (each.0, begins steps rises.1, rise_from n (step.0 + 1) steps rises.1 each.1)
  where
    begins : (steps : List (ℕ × ℕ)) → RisesFrom (step.0 + 1) (map (λ step. step.0) steps) → BeginsAbove step.0 steps
    begins [] r = tt
    begins (next ∷ steps) r = let h : step.0 + 1 ≤ next.0 = r.0 in omega arith

first_possible : (step : ℕ × ℕ) (steps : List (ℕ × ℕ)) → is_possible (step ∷ steps) step.0 ≡ true
first_possible step steps = or_left (nat_eq step.0 step.0) (is_possible steps step.0) (eq-eqb step.0 step.0 refl)

other_event : (n : ℕ) (step : ℕ × ℕ) (steps : List (ℕ × ℕ)) (e : ℕ) → StepsRise n (step ∷ steps) → is_possible steps e ≡ true → nat_eq step.0 e ≡ false
other_event n step steps e rise h = ne_eqb step.0 e (λ same. both_ways (is_possible steps e) (subst (λ (a : ℕ). is_possible steps a ≡ false) same (once n step steps rise)) h)

later_possible : (n : ℕ) (step : ℕ × ℕ) (steps : List (ℕ × ℕ)) (e : ℕ) → StepsRise n (step ∷ steps) → is_possible steps e ≡ true → is_possible (step ∷ steps) e ≡ true
later_possible n step steps e rise h = or_right (nat_eq step.0 e) (is_possible steps e) h

later_target : (n : ℕ) (step : ℕ × ℕ) (steps : List (ℕ × ℕ)) (e : ℕ) → StepsRise n (step ∷ steps) → is_possible steps e ≡ true → target (step ∷ steps) e ≡ target steps e
later_target n step steps e rise h = cond-false (nat_eq step.0 e) step.1 (target steps e) (other_event n step steps e rise h)

-- what holds of each possible event's target holds of each target
pub each_target : (P : ℕ → Type 0) (n : ℕ) (steps : List (ℕ × ℕ)) → StepsRise n steps → ((e : ℕ) → is_possible steps e ≡ true → P (target steps e)) → EachTarget P steps
each_target P n [] rise each = tt
each_target P n (step ∷ steps) rise each = (
  subst P (cond-true (nat_eq step.0 step.0) step.1 (target steps step.0) (eq-eqb step.0 step.0 refl)) (each step.0 (first_possible step steps)),
  each_target P n steps rise.2 (λ e h. subst P (later_target n step steps e rise h) (each e (later_possible n step steps e rise h))),
)

-- a number that is met anew is the target of an event
pub record LeadsTo (steps : List (ℕ × ℕ)) (t : ℕ) : Type 0 where
  pub event : ℕ
  pub possible : is_possible steps event ≡ true
  pub leads : target steps event ≡ t

later : (b t : ℕ) (step : ℕ × ℕ) (steps : List (ℕ × ℕ)) → StepsRise b (step ∷ steps) → LeadsTo steps t → LeadsTo (step ∷ steps) t
later b t step steps rise l = record { event = l.event; possible = later_possible b step steps l.event rise l.possible; leads = later_target b step steps l.event rise l.possible ∙ l.leads }

pub newly_met : (b n m t : ℕ) (steps : List (ℕ × ℕ)) → StepsRise b steps → MeetsInOrder n (targets_of_steps steps) m → n ≤ t → t < m → LeadsTo steps t
newly_met b n m t [] rise h low high = absurd (omega (arith, h))
newly_met b n m t (step ∷ steps) rise (inl h) low high = later b t step steps rise (newly_met b n m t steps rise.2 h.1 low high)
newly_met b n m t (step ∷ steps) rise (inr h) low high = elim (cases_lt n t) as (λ _. LeadsTo (step ∷ steps) t) [
  | inl early ↦ later b t step steps rise (newly_met b (suc n) m t steps rise.2 h.1 (omega arith) high)
  | inr late ↦
      let here : n ≡ t = omega arith in
      record { event = step.0; possible = first_possible step steps; leads = cond-true (nat_eq step.0 step.0) step.1 (target steps step.0) (eq-eqb step.0 step.0 refl) ∙ h.0 ∙ here }
]

pub more_targets : (xs : List Node) (node : Node) → targets_of_nodes (xs ++ node ∷ []) ≡ targets_of_nodes xs ++ targets_of_steps node.next
more_targets xs node = flat_map-append (λ (n : Node). targets_of_steps n.next) xs (node ∷ []) ∙ ap (λ (ys : List ℕ). targets_of_nodes xs ++ ys) (append-nil (targets_of_steps node.next))

-- the first nodes meet no more than all
pub meets_part : (nodes : List Node) (k m n : ℕ) → MeetsUpTo (take k nodes) m → MeetsUpTo nodes n → m ≤ n
meets_part nodes k m n part whole =
    let parts : targets_of_nodes nodes ≡ targets_of_nodes (take k nodes) ++ targets_of_nodes (drop k nodes) = ap targets_of_nodes (sym (take-append-drop k nodes)) ∙ flat_map-append (λ (n : Node). targets_of_steps n.next) (take k nodes) (drop k nodes) in
    let r : MetBetween 1 (targets_of_nodes (take k nodes)) (targets_of_nodes (drop k nodes)) n = meets_cut 1 n (targets_of_nodes (take k nodes)) (targets_of_nodes (drop k nodes)) (subst (λ (ts : List ℕ). MeetsInOrder 1 ts n) parts whole) in
    let same : m ≡ r.middle = meets_same 1 m r.middle (targets_of_nodes (take k nodes)) part r.front in
    let l : r.middle ≤ n = meets_more r.middle n (targets_of_nodes (drop k nodes)) r.back in
    omega (arith, same, l)
