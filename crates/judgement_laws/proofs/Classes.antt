-- The nodes of a component's normal table are the classes of its traces: a run that leads to each node, one after another.
use Rattle.judgement_laws.proofs.Prelude.{◌≡◌, ◌⊎◌, inl, inr, ℕ, zero, suc, ◌+◌, ◌<◌, ◌≤◌, List, [], ◌∷◌, Some, slice_get, length, refl, sym, ap, subst, ◌∙◌, arith, cases_lt, same_Some, slice_get_within, Label, Component, ComponentStep, Tree, leaves, IsReached, IsRun, Node, end_of, HasForm, HaveForm, Part, Shape, ArePartsOf, IsPartOf, IsShapeOf, node_count, shapes_are_well_formed, HasClasses, HaveClasses, end_within}

-- the members f k, f (k + 1) and so on, m of them
abbrev row_of : {A : Type 0} → (ℕ → A) → ℕ → ℕ → List A
row_of f k zero = []
row_of f k (suc m) = f k ∷ row_of f (suc k) m

many_in_row : {A : Type 0} (f : ℕ → A) (k m : ℕ) → length (row_of f k m) ≡ m
many_in_row f k zero = refl
many_in_row f k (suc m) = let rest = many_in_row f (suc k) m in omega (arith, rest)

in_row : {A : Type 0} (f : ℕ → A) (k m j : ℕ) → j < m → slice_get (row_of f k m) j ≡ Some (f (k + j))
in_row f k zero j below = absurd (omega arith)
in_row f k (suc m) zero below = ap (λ n. Some (f n)) (let z : k ≡ k + 0 = omega arith in z)
in_row f k (suc m) (suc j) below = in_row f (suc k) m j (omega arith) ∙ ap (λ n. Some (f n)) (let z : suc k + j ≡ k + suc j = omega arith in z)

below_length : {A : Type 0} (f : ℕ → A) (m j : ℕ) (x : A) → slice_get (row_of f 0 m) j ≡ Some x → (j < m) × (f j ≡ x)
below_length f m j x at =
    let within = slice_get_within (row_of f 0 m) j x at in
    let many = many_in_row f 0 m in
    let below : j < m = omega (arith, within, many) in
    (below, same_Some (f j) x (ap (λ n. Some (f n)) (let z : j ≡ 0 + j = omega arith in z) ∙ sym (in_row f 0 m j below) ∙ at))

module _ (table : List Node) (reached : (n : ℕ) → n < length table → IsReached table n) where
  -- the run leads to the node n
  record LeadsTo (n : ℕ) (s : List ℕ) : Type 0 where
    follows : IsRun table s
    leads : end_of table 0 s ≡ n

  -- a run to the node n, if there is one
  run_if : (n : ℕ) → (n < length table) ⊎ (length table ≤ n) → List ℕ
  run_if n (inl below) = (reached n below).run
  run_if n (inr beyond) = []

  run_to : ℕ → List ℕ
  run_to n = run_if n (cases_lt n (length table))

  leads_if : (n : ℕ) (d : (n < length table) ⊎ (length table ≤ n)) → n < length table → LeadsTo n (run_if n d)
  unfolding run_if
  leads_if n (inl below) within = record { follows = (reached n below).follows; leads = (reached n below).leads }
  leads_if n (inr beyond) within = absurd (omega (arith, beyond, within))

  leads_to : (n : ℕ) → n < length table → LeadsTo n (run_to n)
  unfolding run_to
  leads_to n within = leads_if n (cases_lt n (length table)) within

  -- a run to each node
  runs : List (List ℕ)
  runs = row_of run_to 0 (length table)

  as_many : length runs ≡ length table
  unfolding runs
  as_many = many_in_row run_to 0 (length table)

  each_leads : (j : ℕ) (s : List ℕ) → slice_get runs j ≡ Some s → LeadsTo j s
  unfolding runs
  each_leads j s at =
      let is = below_length run_to (length table) j s at in
      subst (LeadsTo j) is.1 (leads_to j is.0)

  listed : (n : ℕ) → n < length table → slice_get runs n ≡ Some (run_to n)
  unfolding runs
  listed n below = in_row run_to 0 (length table) n below ∙ ap (λ k. Some (run_to k)) (let z : 0 + n ≡ n = omega arith in z)

module _ {T : Type 0} (Step : T → Label → T → Type 0) where
  part_has_classes : (c : Component T) (p : Part) → HasForm p → IsPartOf Step c p → HasClasses (ComponentStep Step) c (length p.table)
  part_has_classes c p form is =
      let normal = is.table in
      record {
        traces = runs p.table normal.reached;
        count = as_many p.table normal.reached;
        are = λ k s at. (normal.traces s).1 (each_leads p.table normal.reached k s at).follows;
        different = λ j k s t at at' same.
            let a = each_leads p.table normal.reached j s at in
            let b = each_leads p.table normal.reached k t at' in
            let one : end_of p.table 0 s ≡ end_of p.table 0 t = (normal.classes s t ((normal.traces s).1 a.follows) ((normal.traces t).1 b.follows)).1 same in
            sym a.leads ∙ one ∙ b.leads;
        all = λ s trace.
            let within = end_within p s form ((normal.traces s).0 trace) in
            let n = end_of p.table 0 s in
            let b = leads_to p.table normal.reached n within in
            let other = run_to p.table normal.reached n in
            record {
              place = n;
              trace = other;
              listed = listed p.table normal.reached n within;
              same = (normal.classes s other trace ((normal.traces other).1 b.follows)).0 (sym b.leads);
            };
      }

  parts_have_classes : (cs : List (Component T)) (ps : List Part) → HaveForm ps → ArePartsOf Step cs ps → HaveClasses Step cs (node_count ps)
  parts_have_classes [] [] form are = refl
  parts_have_classes [] (p ∷ ps) form are = absurd are
  parts_have_classes (c ∷ cs) [] form are = absurd are
  parts_have_classes (c ∷ cs) (p ∷ ps) form are =
      (length p.table, node_count ps, part_has_classes c p form.0 are.0, parts_have_classes cs ps form.1 are.1, refl)

  -- the nodes of the parts of a network's shape
  pub shape_has_classes : (tree : Tree T) (shape : Shape) → IsShapeOf Step tree shape → HaveClasses Step (leaves tree) (node_count shape.parts)
  shape_has_classes tree shape is = parts_have_classes (leaves tree) shape.parts (shapes_are_well_formed Step tree shape is).form is.parts
