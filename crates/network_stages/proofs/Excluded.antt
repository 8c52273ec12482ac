-- Components that have their tables: no fault tells the truth of them.
use Rattle.network_stages.proofs.Prelude.{◌≡◌, ℕ, zero, suc, ◌<◌, ◌≤◌, ◌-◌, List, [], ◌∷◌, Some, take, slice_get, inl, inr, refl, sym, ap, subst, ◌∙◌, arith, cases_lt, none-some, same_Some, greatest, Proc, Content, silent, Component, ComponentStep, SilentStep, Silently, IsTableOf, RawStep, RawTable, standing_at, Walk, AreSteps, AreTerms, IsLocalTable, Room, LocalTable, heights_are_exact, AreTablesWithin, IsTableWithin, room_after, room_left, whole_room, FaultsExcludeAllTables, ComponentTable, ProcessStep, IsCircle, Leads, excluded}
use Rattle.process_steps.specs.declared.component_fault.ComponentFault.TheVariants as fault

module _ (p : Content) where
  -- ---- two tables of a component take the same room

  module _ (c : Component Proc) (room : Room) (a b : LocalTable) (is : IsLocalTable p c room a) (other : IsLocalTable p c room b) where
    terms : AreTerms (ProcessStep p) c is.terms
    terms = record { once = is.table.terms_once; reached = is.table.reached }

    steps : AreSteps (ProcessStep p) c is.terms a.table
    steps = record { silent_once = is.table.silent_once; steps_once = is.table.steps_once; sound = is.table.sound }

    -- the other table just fits into the room that it takes
    tight : IsLocalTable p c b.used b
    tight = record {
      terms = other.terms;
      table = other.table;
      fit = other.fit;
      few = other.few;
      nodes = other.nodes;
      steps = other.steps;
      room_for_nodes = omega arith;
      room_for_steps = omega arith;
      order = other.order;
    }

    no_more_nodes : a.used.nodes ≤ b.used.nodes
    no_more_nodes =
        elim (cases_lt b.used.nodes a.used.nodes) as (λ _. a.used.nodes ≤ b.used.nodes) [
          | inl less ↦
              absurd (excluded p c b.used b fault.TermTotal tight
              (record { terms = is.terms; are = terms; large = subst (λ n. b.used.nodes < n) (sym is.nodes) less }))
          | inr more ↦ more
        ]

    no_more_steps : a.used.steps ≤ b.used.steps
    no_more_steps =
        elim (cases_lt b.used.steps a.used.steps) as (λ _. a.used.steps ≤ b.used.steps) [
          | inl less ↦
              absurd (excluded p c b.used b fault.StepCount tight
              (record { terms = is.terms; raw = a.table; are = terms; steps = steps; many = subst (λ n. b.used.steps < n) (sym is.steps) less }))
          | inr more ↦ more
        ]

  same_left : (c : Component Proc) (room : Room) (a b : LocalTable) → IsLocalTable p c room a → IsLocalTable p c room b → room_after room a.used ≡ room_after room b.used
  same_left c room a b is other =
      let n = no_more_nodes c room a b is other in
      let n' = no_more_nodes c room b a other is in
      let s = no_more_steps c room a b is other in
      let s' = no_more_steps c room b a other is in
      let nodes : a.used.nodes ≡ b.used.nodes = omega (arith, n, n') in
      let steps : a.used.steps ≡ b.used.steps = omega (arith, s, s') in
      let first : room_after room a.used ≡ record { nodes = room.nodes - b.used.nodes; steps = room.steps - a.used.steps } =
      ap (λ (k : ℕ). record { nodes = room.nodes - k; steps = room.steps - a.used.steps }) nodes in
      let second : record { nodes = room.nodes - b.used.nodes; steps = room.steps - a.used.steps } ≡ room_after room b.used =
      ap (λ (k : ℕ). record { nodes = room.nodes - b.used.nodes; steps = room.steps - k }) steps in
      first ∙ second

  -- the table of the component in the place i, within the room that other tables of those before it leave
  at_place : (room : Room) (cs : List (Component Proc)) (es ts : List ComponentTable) (i : ℕ) (c : Component Proc) → AreTablesWithin p room (take i cs) es
      → AreTablesWithin p room cs ts → slice_get cs i ≡ Some c → (t : ComponentTable) × IsTableWithin p (room_left room es) c t
  at_place room [] es ts i c earlier are at = absurd (none-some c at)
  at_place room (d ∷ cs) es [] i c earlier are at = absurd are
  at_place room (d ∷ cs) [] (t ∷ ts) zero c earlier are at = (t, subst (λ x. IsTableWithin p room x t) (same_Some d c at) are.0)
  at_place room (d ∷ cs) (e ∷ es) (t ∷ ts) zero c earlier are at = absurd earlier
  at_place room (d ∷ cs) [] (t ∷ ts) (suc i) c earlier are at = absurd earlier
  at_place room (d ∷ cs) (e ∷ es) (t ∷ ts) (suc i) c earlier are at =
      let same = same_left d room e.local t.local earlier.0.table are.0.table in
      at_place (room_after room e.local.used) cs es ts i c earlier.1 (subst (λ r. AreTablesWithin p r cs ts) (sym same) are.1) at

-- ---- walks along a circle get as long as may be

longer : {V : Type 0} (Arc : V → V → Type 0) (x y z : V) (vs : List V) (k m : ℕ) → Leads Arc x vs y → k ≤ m → Walk Arc m y z → (n : ℕ) × (suc k ≤ n) × Walk Arc n x z
longer Arc x y z [] k m leads more walk = (suc m, omega (arith, more), (y, leads, walk))
longer Arc x y z (v ∷ vs) k m leads more walk =
    let r = longer Arc v y z vs k m leads.1 more walk in
    let many = r.1 in
    (suc r.0, omega (arith, many), (v, leads.0, r.2))

round : {V : Type 0} (Arc : V → V → Type 0) (v : V) (vs : List V) → Leads Arc v vs v → (k : ℕ) → (n : ℕ) × (k ≤ n) × Walk Arc n v v
round Arc v vs leads zero = (0, omega arith, refl)
round Arc v vs leads (suc k) = let r = round Arc v vs leads k in longer Arc v v v vs k r.0 leads r.1 r.2

first_arc : {V : Type 0} (Arc : V → V → Type 0) (x y : V) (vs : List V) → Leads Arc x vs y → (z : V) × Arc x z
first_arc Arc x y [] leads = (y, leads)
first_arc Arc x y (v ∷ vs) leads = (v, leads.0)

module _ (p : Content) (c : Component Proc) (terms : List Proc) (raw : RawTable) (t : IsTableOf (ProcessStep p) c terms raw) where
  -- a silent walk of the table is one of the component
  climb : (k m n : ℕ) (x : Proc) → slice_get terms m ≡ Some x → Silently (RawStep raw) k m n → (d : Component Proc) × Silently (ComponentStep (ProcessStep p)) k (standing_at c x) d
  climb zero m n x h w = (standing_at c x, refl)
  climb (suc k) m n x h w =
      let s = t.sound m w.0 silent w.1 in
      let r = climb k w.0 n s.goal s.to w.2 in
      (r.0, (standing_at c s.goal, subst (λ y. ComponentStep (ProcessStep p) (standing_at c y) silent (standing_at c s.goal)) (same_Some s.source x (sym s.from ∙ h)) s.step, r.1))

never_round : (p : Content) (c : Component Proc) (room : Room) (u : ComponentTable) (made : LocalTable) (circle : List ℕ) → IsTableWithin p room c u → IsLocalTable p c room made
    → IsCircle (SilentStep (RawStep made.table)) circle → ⊥
never_round p c room u made [] is other leads = leads
never_round p c room u made (v ∷ vs) is other leads =
    let exact = heights_are_exact (ProcessStep p) c is.table.terms u.local.table u.heights is.table.table is.heights in
    let walk = round (SilentStep (RawStep made.table)) v vs leads (suc (greatest u.heights)) in
    let arc = first_arc (SilentStep (RawStep made.table)) v v vs leads in
    let s = other.table.sound v arc.0 silent arc.1 in
    let up = climb p c other.terms made.table other.table walk.0 v v s.source s.from walk.2 in
    let many : suc (greatest u.heights) ≤ walk.0 = walk.1 in
    let few : walk.0 ≤ greatest u.heights = exact.most (standing_at c s.source) up.0 walk.0 (other.table.reached v s.source s.from) up.1 in
    omega (arith, many, few)

-- ---- no fault tells the truth of components that have tables

pub faults_exclude_tables : FaultsExcludeAllTables
faults_exclude_tables p cs ts n r are (i, f, first, told) =
    let t = at_place p whole_room cs first.tables ts i first.component first.earlier are first.at in
    let room = room_left whole_room first.tables in
    elim first.has as (λ _. ⊥) [
      | inl lacks ↦ excluded p first.component room t.0.local f t.1.table lacks
      | inr goes ↦ never_round p first.component room t.0 goes.1.made goes.1.circle t.1 goes.1.table goes.1.round
    ]
