-- Traces of a component lead to as many sets of terms as the same traces of its table: the table has exactly the component's terms, each under one number.
use Rattle.network_stages.proofs.Prelude.{◌≡◌, ℕ, List, [], get_or, refl, sym, ap, subst, ◌∙◌, same_Some, Proc, Content, Label, Component, ComponentStep, Path, IsTableOf, RawStep, RawTable, standing_at, After, trace_down, trace_up, HasTable, HasManySets, ComponentTable, ProcessStep, ◌+◌, MOST_SETS, ReachesSets, run_down, run_up, stands}

module _ {T : Type 0} (Step : T → Label → T → Type 0) (c : Component T) (terms : List T) (raw : RawTable) (t : IsTableOf Step c terms raw) where
  -- a state of the component after one trace, where the numbers after it are those after the other
  over : (s w : List ℕ) → ((n : ℕ) → After (RawStep raw) 0 s n → After (RawStep raw) 0 w n) → (d : Component T) → After (ComponentStep Step) c s d → After (ComponentStep Step) c w d
  over s w same d a =
      let r = run_down Step c terms raw a.0 c d 0 t t.first refl a.1 in
      let b = same r.number (a.0, r.path, a.2) in
      let q = run_up Step c terms raw b.0 0 r.number c.term t t.first b.1 in
      let state : standing_at c q.goal ≡ d = ap (standing_at c) (same_Some q.goal d.term (sym q.listed ∙ r.listed)) ∙ sym (stands c d r.alphabet) in
      (b.0, subst (λ (y : Component T). Path (ComponentStep Step) c b.0 y) state q.path, b.2)

  -- a number after one trace, where the component's states after it are those after the other
  under : (s w : List ℕ) → ((d : Component T) → After (ComponentStep Step) c s d → After (ComponentStep Step) c w d) → (n : ℕ) → After (RawStep raw) 0 s n → After (RawStep raw) 0 w n
  under s w same n a =
      let r = run_up Step c terms raw a.0 0 n c.term t t.first a.1 in
      let b = same (standing_at c r.goal) (a.0, r.path, a.2) in
      let q = run_down Step c terms raw b.0 c (standing_at c r.goal) 0 t t.first refl b.1 in
      let one : q.number ≡ n = t.terms_once q.number n r.goal q.listed r.listed in
      (b.0, subst (λ m. Path (RawStep raw) 0 b.0 m) one q.path, b.2)

  pub sets_of_component : (n : ℕ) → ReachesSets (RawStep raw) 0 n → ReachesSets (ComponentStep Step) c n
  sets_of_component n r = record {
    traces = r.traces;
    count = r.count;
    each = λ k below. trace_up Step c terms raw (get_or r.traces k []) t (r.each k below);
    apart = λ j k less below same. r.apart j k less below (λ m. (
      under (get_or r.traces j []) (get_or r.traces k []) (λ d. (same d).0) m,
      under (get_or r.traces k []) (get_or r.traces j []) (λ d. (same d).1) m,
    ));
  }

  pub sets_of_table : (n : ℕ) → ReachesSets (ComponentStep Step) c n → ReachesSets (RawStep raw) 0 n
  sets_of_table n r = record {
    traces = r.traces;
    count = r.count;
    each = λ k below. trace_down Step c terms raw (get_or r.traces k []) t (r.each k below);
    apart = λ j k less below same. r.apart j k less below (λ d. (
      over (get_or r.traces j []) (get_or r.traces k []) (λ m. (same m).0) d,
      over (get_or r.traces k []) (get_or r.traces j []) (λ m. (same m).1) d,
    ));
  }

-- a component whose table has few sets has few
pub few_sets : (p : Content) (c : Component Proc) (t : ComponentTable) → HasTable p c t → (ReachesSets (RawStep t.local.table) 0 (MOST_SETS + 1) → ⊥) → HasManySets p c → ⊥
few_sets p c t (room, has) few many = few (sets_of_table (ProcessStep p) c has.table.terms t.local.table has.table.table (MOST_SETS + 1) many)

-- one whose table has many has many
pub many_sets : (p : Content) (c : Component Proc) (t : ComponentTable) → HasTable p c t → ReachesSets (RawStep t.local.table) 0 (MOST_SETS + 1) → HasManySets p c
many_sets p c t (room, has) many = sets_of_component (ProcessStep p) c has.table.terms t.local.table has.table.table (MOST_SETS + 1) many
