-- Parts of components, one after another: each is the normal table of its component's table.
use Rattle.network_stages.proofs.Prelude.{◌≡◌, inl, inr, ℕ, ◌+◌, ◌<◌, ◌≤◌, List, [], ◌∷◌, ◌++◌, length, take, get_or, slice_get, Some, refl, sym, ap, subst, ◌∙◌, add-one, arith, take-suc, cases_eq, take_all, same_Some, slice_get-get_or, Proc, Content, HasForm, HaveForm, Component, ComponentStep, IsNormalTable, Part, RawStep, ArePartsOf, IsPartOf, Node, table_has_form, normal_tables_carry_over, AreTablesOf, HasTable, HasManySets, HaveFewSets, HaveFewSetsBefore, HasNoPart, HaveNoParts, ComponentTable, ProcessStep, Tells, Stop, Refusal, MOST_SETS, MOST_TERMS}
use Rattle.process_steps.specs.declared.component_fault.ComponentFault.TheVariants as fault
use Rattle.report.specs.declared.answer.Refusal.TheVariants as refusal
use Rattle.csp_base.specs.declared.stop.Stop.TheVariants as stop

-- a table with at most so many acceptances at a node has at most more
with_more : {S : Type 0} (Step : S → _ → S → Type 0) (start : S) (few most : ℕ) (table : List Node) → few ≤ most → IsNormalTable Step start few table → IsNormalTable Step start most table
with_more Step start few most table more normal = record {
  traces = normal.traces;
  classes = normal.classes;
  acceptances = normal.acceptances;
  rising = normal.rising;
  breadth_first = normal.breadth_first;
  reached = normal.reached;
  few = λ n. let least = normal.few n in omega (arith, more, least);
}

-- the normal table of a component's table makes the component's part
pub is_part : (p : Content) (c : Component Proc) (t : ComponentTable) (alphabet : List ℕ) (table : List Node) (part : Part) → HasTable p c t → alphabet ≡ c.alphabet
    → IsNormalTable (RawStep t.local.table) 0 t.local.table.count table → length table ≤ MOST_SETS → part ≡ record { alphabet = alphabet; table = table }
    → IsPartOf (ProcessStep p) c part × HasForm part
is_part p c t alphabet table part (room, has) same normal few is =
    let count = has.table.table.count in
    let terms = has.table.few in
    let carried = normal_tables_carry_over (ProcessStep p) c has.table.terms t.local.table t.local.table.count table has.table.table normal in
    let whole = with_more (ComponentStep (ProcessStep p)) c t.local.table.count MOST_TERMS table (omega (arith, count, terms)) carried in
    let made : Part = record { alphabet = c.alphabet; table = table } in
    let one : part ≡ made = is ∙ ap (λ (al : List ℕ). let q : Part = record { alphabet = al; table = table } in q) same in
    subst (λ (q : Part). IsPartOf (ProcessStep p) c q × HasForm q) (sym one) (record { alphabet = refl; table = whole }, table_has_form (ProcessStep p) c MOST_TERMS table whole few)

-- ---- one more part

parts_more : (p : Content) (cs : List (Component Proc)) (ps : List Part) (c : Component Proc) (part : Part) → ArePartsOf (ProcessStep p) cs ps → IsPartOf (ProcessStep p) c part
    → ArePartsOf (ProcessStep p) (cs ++ c ∷ []) (ps ++ part ∷ [])
parts_more p [] [] c part are one = (one, tt)
parts_more p [] (q ∷ ps) c part are one = absurd are
parts_more p (d ∷ cs) [] c part are one = absurd are
parts_more p (d ∷ cs) (q ∷ ps) c part are one = (are.0, parts_more p cs ps c part are.1 one)

form_more : (ps : List Part) (part : Part) → HaveForm ps → HasForm part → HaveForm (ps ++ part ∷ [])
form_more [] part have one = (one, tt)
form_more (q ∷ ps) part have one = (have.0, form_more ps part have.1 one)

-- what stands while parts are made: the first seats have theirs, and few sets
pub record AreMade (p : Content) (seats : List (Component Proc)) (made : List Part) (i : ℕ) : Type 0 where
  pub parts : ArePartsOf (ProcessStep p) (take i seats) made
  pub form : HaveForm made
  pub few : HaveFewSetsBefore p i seats

module _ (p : Content) (seats : List (Component Proc)) where
  module _ (i : ℕ) (c : Component Proc) (within : i < length seats) (is : c ≡ get_or seats i c) where
    here : slice_get seats i ≡ Some c
    here = slice_get-get_or seats i c within ∙ ap Some (sym is)

    few_more : HaveFewSetsBefore p i seats → (HasManySets p c → ⊥) → HaveFewSetsBefore p (i + 1) seats
    few_more before few j d below at many =
        elim (cases_eq j i) as (λ _. ⊥) [
          | inl same ↦ few (subst (HasManySets p) (sym (same_Some c d (sym here ∙ subst (λ k. slice_get seats k ≡ Some d) same at))) many)
          | inr other ↦ before j d (omega arith) at many
        ]

    pub one_made : (made new : List Part) (part : Part) → AreMade p seats made i → IsPartOf (ProcessStep p) c part → HasForm part → (HasManySets p c → ⊥) → new ≡ made ++ part ∷ []
        → AreMade p seats new (i + 1)
    one_made made new part are one form few grew =
        let grown : take i seats ++ c ∷ [] ≡ take (i + 1) seats = rw (add-one) (ap (λ x. take i seats ++ x ∷ []) is ∙ sym (take-suc seats i c within)) in
        let more : ArePartsOf (ProcessStep p) (take (i + 1) seats) (made ++ part ∷ []) =
        subst (λ (cs : List (Component Proc)). ArePartsOf (ProcessStep p) cs (made ++ part ∷ [])) grown (parts_more p (take i seats) made c part are.parts one) in
        record {
          parts = subst (λ (ps : List Part). ArePartsOf (ProcessStep p) (take (i + 1) seats) ps) (sym grew) more;
          form = subst HaveForm (sym grew) (form_more made part are.form form);
          few = few_more are.few few;
        }

    -- the first component with many sets
    pub first_many : (made : List Part) (s : Stop Refusal) → AreMade p seats made i → Tells (λ r. HasManySets p c × (r ≡ refusal.Component i fault.SubsetLimit)) s → Tells (HaveNoParts p 0 seats) s
    first_many made stop.NoMemory are tells = tt
    first_many made (stop.Told r) are tells = (i, record { component = c; at = here; many = tells.0; earlier = are.few }, tells.1 ∙ ap (λ (k : ℕ). refusal.Component k fault.SubsetLimit) (let z : i ≡ 0 + i = omega arith in z))

  pub all_made : (made : List Part) (i : ℕ) → AreMade p seats made i → length seats ≤ i → ArePartsOf (ProcessStep p) seats made × HaveFewSets p seats
  all_made made i done at_end = (
    subst (λ (cs : List (Component Proc)). ArePartsOf (ProcessStep p) cs made) (take_all i seats at_end) done.parts,
    λ j c below at many. done.few j c (omega (arith, at_end, below)) at many,
  )

-- a component alone, with its table, that has many sets
pub no_part : (p : Content) (n : ℕ) (c : Component Proc) (cs : List (Component Proc)) (tables : List ComponentTable) (s : Stop Refusal) → cs ≡ c ∷ [] → AreTablesOf p cs tables
    → Tells (λ r. HasManySets p c × (r ≡ refusal.Component n fault.SubsetLimit)) s → Tells (HasNoPart p n c) s
no_part p n c cs tables stop.NoMemory one are tells = tt
no_part p n c cs tables (stop.Told r) one are tells = inr (
  tables,
  subst (λ (ds : List (Component Proc)). AreTablesOf p ds tables) one are,
  (0, record { component = c; at = refl; many = tells.0; earlier = λ j d below. absurd (let z : ⊥ = omega arith in z) }, tells.1 ∙ ap (λ (k : ℕ). refusal.Component k fault.SubsetLimit) (let z : n ≡ n + 0 = omega arith in z)),
)
