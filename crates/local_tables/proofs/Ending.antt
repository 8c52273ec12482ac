-- What is found as terms and steps of the component, and the table once all terms are followed.
use Rattle.local_tables.proofs.Prelude.{◌≡◌, ℕ, ◌+◌, ◌<◌, ◌≤◌, List, [], ◌∷◌, Some, length, refl, sym, ap, subst, ◌∙◌, arith, eq-eqb, inl, inr, map, min, slice_get, length-map, cases_lt, get_or_from_slice_get, slice_get-get_or, slice_get_within, push_cases, EachOnce, total, proc_size, Proc, stands_none, IsTableOf, RawTable, targets_in, Label, silent, visible, ProcessStep, Move, capped, eq_id, ProcId, AreDifferent, tree_at, AreTerms, part_of, step_count, IsInOrder, IsLocalTable, AreFound, AreRows, AreTabled, IsFollowed, IsUpTo, IsWithin, counted_size, first_found, terms_at, Found, LocalTable, Task, MOST_TERMS, IsDistinct, are_once}
use Rattle.csp_program.specs.declared.processes.Proc.TheVariants as proc
use Rattle.local_tables.proofs.Following.{are_steps, complete, endless, in_order, lacks_none, under_map}
use Rattle.local_tables.proofs.Walking.{reached}

-- ---- sizes

uncapped : (n : ℕ) → capped n < 4294967295 → n ≡ capped n
uncapped n h = let low : min n 4294967295 < 4294967295 = h in omega arith

sizes_exact : (ts : List Proc) → total (map counted_size ts) < 4294967295 → total (map proc_size ts) ≡ total (map counted_size ts)
sizes_exact [] h = refl
sizes_exact (t ∷ ts) h =
    let all : counted_size t + total (map counted_size ts) < 4294967295 = h in
    let one : proc_size t ≡ counted_size t = uncapped (proc_size t) (omega arith) in
    let others : total (map proc_size ts) ≡ total (map counted_size ts) = sizes_exact ts (omega arith) in
    λ i. one i + others i

-- sizes whose counting stops are no larger
pub no_larger : (ts : List Proc) → total (map counted_size ts) ≤ total (map proc_size ts)
no_larger [] = omega arith
no_larger (t ∷ ts) =
    let others : total (map counted_size ts) ≤ total (map proc_size ts) = no_larger ts in
    let one : min (proc_size t) 4294967295 ≤ proc_size t = omega arith in
    omega (arith, others, one)

-- ---- the first term alone

pub first_is_found : (task : Task) (trees : List Proc) (id : ProcId) (size : ℕ) → slice_get trees id.0 ≡ Some task.start.now → size ≡ counted_size (tree_at trees id)
    → AreFound task trees (first_found id size)
first_is_found task trees id size put counted = record {
  places = λ k other h. elim (push_cases [] id k other h) [
    | inl before ↦ absurd (stands_none other (k, before))
    | inr last ↦ subst (λ (z : ProcId). z.0 < length trees) last.1 (slice_get_within trees id.0 task.start.now put)
  ];
  led = record {
    first = ap Some (get_or_from_slice_get trees id.0 task.start.now proc.Stop put);
    as_many = refl;
    earlier = λ k o h. cc;
    led = λ k o h. cc;
  };
  count = refl;
  sizes = (let e : size ≡ counted_size (tree_at trees id) = counted in omega arith);
}

pub no_rows : (task : Task) (trees : List Proc) (id : ProcId) (size m : ℕ) → AreRows task (terms_at trees (first_found id size).terms) (first_found id size).table m []
no_rows task trees id size m = record { inside = λ l inside. ap (map (λ n. slice_get (tree_at trees id ∷ []) n)) (empty l); outside = λ l outside. empty l }
  where
    empty : (l : Label) → targets_in (first_found id size).table m l ≡ []
    empty silent = refl
    empty (visible e) = refl

module _ (task : Task) (trees : List Proc) (id : ProcId) (size : ℕ) (found : Found) (is : found ≡ first_found id size) (put : slice_get trees id.0 ≡ Some task.start.now) (counted : size ≡ counted_size (tree_at trees id)) where
  pub first_tabled : AreTabled task trees found
  first_tabled = subst (AreTabled task trees) (sym is) (record { found = first_is_found task trees id size put counted; rows = λ m. inr (no_rows task trees id size m) })

  pub first_up_to : IsWithin task.room trees found → IsUpTo task trees found 0
  first_up_to within = record {
    found = first_tabled.found;
    within = within;
    before = λ k h. absurd (omega arith);
    later = λ k h. subst (λ (f : Found). AreRows task (terms_at trees f.terms) f.table k []) (sym is) (no_rows task trees id size k);
  }

-- ---- some of the terms

module _ (task : Task) (trees : List Proc) (found : Found) (are : AreFound task trees found) (different : AreDifferent trees) (distinct : IsDistinct eq_id found.terms) where
  pub are_terms : AreTerms (ProcessStep task.program.now) (part_of task) (terms_at trees found.terms)
  are_terms = record { once = once; reached = reached task (terms_at trees found.terms) found.origins are.led }
    where
      at : (k : ℕ) (id : ProcId) (x : Proc) → slice_get found.terms k ≡ Some id → tree_at trees id ≡ x → slice_get trees id.0 ≡ Some x
      at k id x h is = slice_get-get_or trees id.0 proc.Stop (are.places k id h) ∙ ap Some is

      once : EachOnce (terms_at trees found.terms)
      once j k x h g =
          let a = under_map (tree_at trees) found.terms j x h in
          let b = under_map (tree_at trees) found.terms k x g in
          let same : a.element.0 ≡ b.element.0 = different a.element.0 b.element.0 x (at j a.element x a.at a.is) (at k b.element x b.at b.is) in
          are_once eq_id (λ id. eq-eqb id.0 id.0 refl) found.terms distinct j k b.element (a.at ∙ ap Some (λ i. record { 0 = same i })) b.at

-- ---- all of them

module _ (task : Task) (trees : List Proc) (found : Found) (at : ℕ) (every : found.table.count ≤ at) (up : IsUpTo task trees found at) (different : AreDifferent trees) (distinct : IsDistinct eq_id found.terms) where
  followed : (m : ℕ) (x : Proc) → slice_get (terms_at trees found.terms) m ≡ Some x
      → (moves : List Move) × IsFollowed task (terms_at trees found.terms) found.table m moves []
  followed m x h =
      let inside : m < length (terms_at trees found.terms) = slice_get_within (terms_at trees found.terms) m x h in
      let many : length (terms_at trees found.terms) ≡ length found.terms = length-map found.terms (tree_at trees) in
      let count : found.table.count ≡ length found.terms = up.found.count in
      up.before m (omega arith)

  pub is_tabled : AreTabled task trees found
  is_tabled = record {
    found = up.found;
    rows = λ m. elim (cases_lt m at) [
      | inl less ↦ let f = up.before m less in inl (f.0, [], f.1)
      | inr from ↦ inr (up.later m from)
    ];
  }

  table_of : IsTableOf (ProcessStep task.program.now) (part_of task) (terms_at trees found.terms) found.table
  table_of =
      let terms = are_terms task trees found up.found different distinct in
      let steps = are_steps task (terms_at trees found.terms) found.table is_tabled.rows in
      record {
        first = up.found.led.first;
        count = length-map found.terms (tree_at trees) ∙ sym up.found.count;
        terms_once = terms.once;
        silent_once = steps.silent_once;
        steps_once = steps.steps_once;
        reached = terms.reached;
        sound = steps.sound;
        complete = λ m x l d h step. let f = followed m x h in complete task (terms_at trees found.terms) found.table m f.0 f.1 x h l d step;
      }

  pub local_table : (made : LocalTable) → task.room.nodes < 4294967295 → made.table ≡ found.table → made.used.nodes ≡ found.nodes → made.used.steps ≡ step_count found.table
      → IsLocalTable task.program.now (part_of task) task.room made
  local_table made small table nodes steps =
      let terms = terms_at trees found.terms in
      let sizes : total (map counted_size (terms_at trees found.terms)) ≡ found.nodes = up.found.sizes in
      let room_left : found.nodes ≤ task.room.nodes = up.within.nodes in
      let fits : step_count found.table ≤ task.room.steps = up.within.steps in
      record {
        terms = terms;
        table = subst (λ (r : RawTable). IsTableOf (ProcessStep task.program.now) (part_of task) terms r) (sym table) table_of;
        fit = λ m x h. let f = followed m x h in record {
          whole = lacks_none task terms found.table m f.0 f.1 x h;
          goes_on = endless task terms found.table m f.0 f.1 x h;
          shallow = up.within.shallow m x h;
        };
        few = let ids = length-map found.terms (tree_at trees) in let few : length found.terms ≤ MOST_TERMS = up.within.few in omega arith;
        nodes = sizes_exact terms (omega arith) ∙ sizes ∙ sym nodes;
        steps = ap step_count table ∙ sym steps;
        room_for_nodes = omega arith;
        room_for_steps = omega arith;
        order = λ m x l h inside. let f = followed m x h in
            subst (λ (r : RawTable). IsInOrder task.program.now terms r m x l) (sym table) (in_order task terms found.table m f.0 f.1 x h l inside);
      }
