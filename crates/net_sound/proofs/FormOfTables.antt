-- The shape of a network is well formed.
--
-- A component's trace has events of its alphabet alone. Each node of its normal table is reached by a run, which is a trace;
-- so a possible event is the last one of a trace, and an acceptance is offered by a state of the component, whose events are
-- possible. Targets are nodes, since whoever goes over the steps breadth first meets exactly the nodes.
use Rattle.net_sound.proofs.Prelude.{◌≡◌, ℕ, suc, ◌+◌, ◌<◌, ◌≤◌, List, [], ◌∷◌, ◌++◌, length, get_or, map, true, IsTrue, nat_eq, refl, sym, ap, subst, ◌∙◌, arith, inl, inr, eq-eqb, and_parts, or_left, or_right, or_cases, eqb-true, false≢true, cases_lt, get_or-eq_default, has, Label, silent, visible, Path, Component, ComponentStep, leaves, visible_events, After, IsTrace, IsAcceptance, IsWithin, Node, node_at, is_possible, node_after, is_run, end_of, IsReached, no_node, BeginsAbove, StepsHaveForm, AreWithin, NodesHaveForm, HasForm, HaveForm, MeetsInOrder, targets_of_steps, targets_of_nodes, IsNormalTable, IsRisingNode, Part, part_at, ArePartsOf, ShapesAreWellFormed, MOST_SETS, MOST_TERMS, RisesFrom, rises_from_increasing, run_push}
use Rattle.net_sound.proofs.Parts.{component_of}

-- ---- traces of a component

path_within : {T : Type 0} (Step : T → Label → T → Type 0) (ls : List Label) (c d : Component T) (e : ℕ) → Path (ComponentStep Step) c ls d
    → IsTrue (has (visible_events ls) e) → IsTrue (has c.alphabet e)
path_within Step [] c d e path h = absurd (false≢true h)
path_within Step (silent ∷ ls) c d e path h = subst (λ al. IsTrue (has al e)) (sym path.1.0) (path_within Step ls path.0 d e path.2 h)
path_within Step (visible x ∷ ls) c d e path h = elim (or_cases (nat_eq x e) (has (visible_events ls) e) h) [
  | inl same ↦ subst (λ y. IsTrue (has c.alphabet y)) (eqb-true x e same) path.1.1
  | inr later ↦ subst (λ al. IsTrue (has al e)) (sym path.1.0) (path_within Step ls path.0 d e path.2 later)
]

has_last : (s : List ℕ) (e : ℕ) → IsTrue (has (s ++ e ∷ []) e)
has_last [] e = or_left _ _ (eq-eqb e e refl)
has_last (x ∷ s) e = or_right _ _ (has_last s e)

-- the last event of a trace is in the alphabet
last_within : {T : Type 0} (Step : T → Label → T → Type 0) (c : Component T) (s : List ℕ) (e : ℕ) → IsTrace (ComponentStep Step) c (s ++ e ∷ []) → IsTrue (has c.alphabet e)
last_within Step c s e (d, a) = path_within Step a.0 c d e a.1 (subst (λ es. IsTrue (has es e)) (sym a.2) (has_last s e))

path_push : {S : Type 0} (Step : S → Label → S → Type 0) (ls : List Label) (l : Label) (x y z : S) → Path Step x ls y → Step y l z → Path Step x (ls ++ l ∷ []) z
path_push Step [] l x y z path step = (z, subst (λ w. Step w l z) (sym path) step, refl)
path_push Step (k ∷ ls) l x y z path step = (path.0, path.1, path_push Step ls l path.0 y z path.2 step)

events_push : (ls : List Label) (e : ℕ) → visible_events (ls ++ visible e ∷ []) ≡ visible_events ls ++ e ∷ []
events_push [] e = refl
events_push (silent ∷ ls) e = events_push ls e
events_push (visible x ∷ ls) e = ap (λ es. x ∷ es) (events_push ls e)

-- a trace goes on with an event of the state to which it leads
trace_push : {S : Type 0} (Step : S → Label → S → Type 0) (x y z : S) (s : List ℕ) (e : ℕ) → After Step x s y → Step y (visible e) z → IsTrace Step x (s ++ e ∷ [])
trace_push Step x y z s e a step = (z, (a.0 ++ visible e ∷ [], path_push Step a.0 (visible e) x y z a.1 step, events_push a.0 e ∙ ap (λ es. es ++ e ∷ []) a.2))

-- ---- where steps lead

abbrev AllBelow : ℕ → List ℕ → Type 0
AllBelow m [] = Unit {0}
AllBelow m (t ∷ ts) = (t < m) × AllBelow m ts

meets_more : (n m : ℕ) (ts : List ℕ) → MeetsInOrder n ts m → n ≤ m
meets_more n m [] h = omega (arith, h)
meets_more n m (t ∷ ts) (inl h) = meets_more n m ts h.1
meets_more n m (t ∷ ts) (inr h) = let l : suc n ≤ m = meets_more (suc n) m ts h.1 in omega (arith, l)

met_below : (n m : ℕ) (ts : List ℕ) → MeetsInOrder n ts m → AllBelow m ts
met_below n m [] h = tt
met_below n m (t ∷ ts) (inl h) = let less : t < n = h.0 in let more : n ≤ m = meets_more n m ts h.1 in (omega arith, met_below n m ts h.1)
met_below n m (t ∷ ts) (inr h) = let same : t ≡ n = h.0 in let more : suc n ≤ m = meets_more (suc n) m ts h.1 in (omega arith, met_below (suc n) m ts h.1)

below_append : (m : ℕ) (xs ys : List ℕ) → AllBelow m (xs ++ ys) → AllBelow m xs × AllBelow m ys
below_append m [] ys h = (tt, h)
below_append m (x ∷ xs) ys h = let r = below_append m xs ys h.1 in ((h.0, r.0), r.1)

-- ---- the form of steps, acceptances and nodes

begins_above : (e : ℕ) (steps : List (ℕ × ℕ)) → RisesFrom (e + 1) (map (λ step. step.0) steps) → BeginsAbove e steps
begins_above e [] h = tt
begins_above e (step ∷ steps) h = let more : e + 1 ≤ step.0 = h.0 in omega arith

steps_have_form : (a : List ℕ) (m n : ℕ) (steps : List (ℕ × ℕ)) → ((e : ℕ) → is_possible steps e ≡ true → IsTrue (has a e))
    → AllBelow m (targets_of_steps steps) → RisesFrom n (map (λ step. step.0) steps) → StepsHaveForm a m steps
steps_have_form a m n [] events below rises = tt
steps_have_form a m n (step ∷ steps) events below rises = (
  events step.0 (or_left (nat_eq step.0 step.0) (is_possible steps step.0) (eq-eqb step.0 step.0 refl)),
  below.0,
  begins_above step.0 steps rises.1,
  steps_have_form a m (step.0 + 1) steps (λ e h. events e (or_right (nat_eq step.0 e) (is_possible steps e) h)) below.1 rises.1,
)

are_within : (a : List ℕ) (Ms : List (List ℕ)) → ((k : ℕ) → k < length Ms → IsWithin (get_or Ms k []) a) → AreWithin a Ms
are_within a [] h = tt
are_within a (M ∷ Ms) h = (h 0 (omega arith), are_within a Ms (λ k less. h (suc k) (omega arith)))

nodes_have_form : (a : List ℕ) (m : ℕ) (nodes : List Node)
    → ((n e : ℕ) → n < length nodes → is_possible (node_at nodes n).next e ≡ true → IsTrue (has a e))
    → ((n k : ℕ) → n < length nodes → k < length (node_at nodes n).accept → IsWithin (get_or (node_at nodes n).accept k []) a)
    → ((n : ℕ) → n < length nodes → IsRisingNode (node_at nodes n))
    → AllBelow m (targets_of_nodes nodes) → NodesHaveForm a m nodes
nodes_have_form a m [] events accepts rising below = tt
nodes_have_form a m (node ∷ nodes) events accepts rising below =
    let b = below_append m (targets_of_steps node.next) (targets_of_nodes nodes) below in
    let first : 0 < length (node ∷ nodes) = omega arith in (
      steps_have_form a m 0 node.next (λ e h. events 0 e first h) b.0 (rises_from_increasing (map (λ step. step.0) node.next) (rising 0 first).events),
      are_within a node.accept (λ k h. accepts 0 k first h),
      nodes_have_form a m nodes (λ n e less h. events (suc n) e (omega arith) h) (λ n k less h. accepts (suc n) k (omega arith) h) (λ n less. rising (suc n) (omega arith)) b.1,
    )

-- ---- a normal table

run_last : (table : List Node) (n : ℕ) (s : List ℕ) (e : ℕ) → is_run table n (s ++ e ∷ []) ≡ true → is_possible (node_at table (end_of table n s)).next e ≡ true
run_last table n [] e h = (and_parts (is_possible (node_at table n).next e) true h).0
run_last table n (x ∷ s) e h =
    let p = and_parts (is_possible (node_at table n).next x) (is_run table (node_after table n x) (s ++ e ∷ [])) h in
    run_last table (node_after table n x) s e p.1

module _ {T : Type 0} (Step : T → Label → T → Type 0) (c : Component T) (most : ℕ) (table : List Node) (normal : IsNormalTable (ComponentStep Step) c most table) where
  event_within : (n e : ℕ) → n < length table → is_possible (node_at table n).next e ≡ true → IsTrue (has c.alphabet e)
  event_within n e less h =
      let r = normal.reached n less in
      last_within Step c r.run e ((normal.traces (r.run ++ e ∷ [])).1 (run_push table 0 r.run e r.follows (subst (λ x. is_possible (node_at table x).next e ≡ true) (sym r.leads) h)))

  -- an acceptance of a node is one after the run that leads to the node
  accepted : (n k : ℕ) (r : IsReached table n) → k < length (node_at table n).accept → IsAcceptance (ComponentStep Step) c r.run (get_or (node_at table n).accept k [])
  accepted n k r h =
      let t = (normal.traces r.run).1 r.follows in
      subst (λ x. k < length (node_at table x).accept → IsAcceptance (ComponentStep Step) c r.run (get_or (node_at table x).accept k [])) r.leads (λ less. normal.acceptances.sound r.run k t less) h

  -- so an event of it ends a trace
  ends_trace : (n k e : ℕ) (r : IsReached table n) → k < length (node_at table n).accept → IsTrue (has (get_or (node_at table n).accept k []) e) → IsTrace (ComponentStep Step) c (r.run ++ e ∷ [])
  ends_trace n k e r h x =
      let m = accepted n k r h in
      let o = (m.offer.offered e).0 x in
      trace_push (ComponentStep Step) c m.offer.state o.0 r.run e m.offer.reached o.1

  acceptance_within : (n k : ℕ) → n < length table → k < length (node_at table n).accept → IsWithin (get_or (node_at table n).accept k []) c.alphabet
  acceptance_within n k less h e x = let r = normal.reached n less in last_within Step c r.run e (ends_trace n k e r h x)

  offered_possible : (n k e : ℕ) → n < length table → k < length (node_at table n).accept → IsTrue (has (get_or (node_at table n).accept k []) e)
      → IsTrue (is_possible (node_at table n).next e)
  offered_possible n k e less h x =
      let r = normal.reached n less in
      subst (λ y. is_possible (node_at table y).next e ≡ true) r.leads (run_last table 0 r.run e ((normal.traces (r.run ++ e ∷ [])).0 (ends_trace n k e r h x)))

  nothing_past : (n k e : ℕ) → length table ≤ n → IsTrue (has (get_or (node_at table n).accept k []) e) → ⊥
  nothing_past n k e past x = false≢true (subst (λ (y : Node). has (get_or y.accept k []) e ≡ true) (get_or-eq_default table no_node past) x)

  nothing_listed : (n k e : ℕ) → length (node_at table n).accept ≤ k → IsTrue (has (get_or (node_at table n).accept k []) e) → ⊥
  nothing_listed n k e past x = false≢true (subst (λ (M : List ℕ). has M e ≡ true) (get_or-eq_default (node_at table n).accept [] past) x)

  pub accepts_possible : (n k e : ℕ) → IsTrue (has (get_or (node_at table n).accept k []) e) → IsTrue (is_possible (node_at table n).next e)
  accepts_possible n k e x = elim (cases_lt n (length table)) [
    | inl less ↦ elim (cases_lt k (length (node_at table n).accept)) [
      | inl listed ↦ offered_possible n k e less listed x
      | inr past ↦ absurd (nothing_listed n k e past x)
    ]
    | inr past ↦ absurd (nothing_past n k e past x)
  ]

  pub table_has_form : length table ≤ MOST_SETS → HasForm (record { alphabet = c.alphabet; table = table })
  table_has_form few = record {
    least = meets_more 1 (length table) (targets_of_nodes table) normal.breadth_first.all_met;
    most = few;
    nodes = nodes_have_form c.alphabet (length table) table event_within acceptance_within (λ n less. normal.rising n no_node less) (met_below 1 (length table) (targets_of_nodes table) normal.breadth_first.all_met);
  }

-- ---- the parts of a shape

have_form : {T : Type 0} (Step : T → Label → T → Type 0) (cs : List (Component T)) (ps : List Part) → ArePartsOf Step cs ps
    → ((i : ℕ) → i < length ps → length (part_at ps i).table ≤ MOST_SETS) → HaveForm ps
have_form Step [] [] parts nodes = tt
have_form Step (c ∷ cs) (p ∷ ps) parts nodes = (
  subst (λ al. HasForm (record { alphabet = al; table = p.table })) parts.0.alphabet (table_has_form Step c MOST_TERMS p.table parts.0.table (nodes 0 (omega arith))),
  have_form Step cs ps parts.1 (λ i less. nodes (suc i) (omega arith)),
)
have_form Step _ _ parts nodes = absurd parts

pub shapes_are_well_formed : {T : Type 0} (Step : T → Label → T → Type 0) → ShapesAreWellFormed Step
shapes_are_well_formed Step tree shape is =
    let of = component_of Step (leaves tree) shape.parts is.parts in
    record {
      linked = is.linked;
      form = have_form Step (leaves tree) shape.parts is.parts is.nodes;
      few = λ i n below. (of i below).part.table.few n;
      possible = λ i n k e below x. let r = of i below in accepts_possible Step r.component MOST_TERMS (part_at shape.parts i).table r.part.table n k e x;
      reached = λ i n below. (of i below).part.table.reached n;
    }
