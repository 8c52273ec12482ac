-- What a node's process measures: its own parts and the processes at its places.
use Rattle.term_pool.proofs.Prelude.{◌≡◌, ◌⊎◌, inl, inr, ℕ, ◌+◌, ◌<◌, ◌≤◌, max, min, Bool, true, false, ◌||◌, ◌&&◌, not, nat_lt, nat_eq, List, [], ◌∷◌, ◌++◌, map, length, take, get_or, refl, ap, sym, ◌∙◌, subst, arith, false≢true, ltb-true, or_right, take_more, slice_get-get_or, first_so, second_so, greatest, total, proc_depth, proc_depth_of_layer, Names, any_of, before, expr_free, gen_binding, head_free, nowhere, pair_free, proc_free, proc_free_of_layer, under, proc_size, proc_size_of_layer, Proc, fold-roll-Proc, map-Proc, Proc-F, roll-Proc, before_split, low_either, low_of, lower, none_low, under_split, noted_at, capped, IsLow, Measure, ProcId, Layer, layer_parts, deepest_at, measure_at, own_depth, own_free, own_size, total_at, AreMeasured, IsLeastAt, IsNodeMeasure, Measures, tree_at, layer_tree, all_below, layer_below}
use Rattle.csp_program.specs.declared.processes.Proc.TheVariants as proc
use Rattle.term_pool.proofs.NodeLemmas.{layer_of, rolls}

abbrev proc_form_depth : Proc-F Proc → ℕ
proc_form_depth d = proc_depth_of_layer (map-Proc Proc ℕ proc_depth d)

abbrev proc_form_size : Proc-F Proc → ℕ
proc_form_size d = proc_size_of_layer (map-Proc Proc ℕ proc_size d)

abbrev proc_form_free : Proc-F Proc → Names
proc_form_free d = proc_free_of_layer (map-Proc Proc Names proc_free d)

-- a process that is of this form
proc_measures : (p q : Proc) (d : Proc-F Proc) → p ≡ q → roll-Proc d ≡ q → (proc_depth p ≡ proc_form_depth d) × (proc_size p ≡ proc_form_size d) × (proc_free p ≡ proc_form_free d)
proc_measures p q d is rolls = (
  ap proc_depth (is ∙ sym rolls) ∙ fold-roll-Proc ℕ proc_depth_of_layer d,
  ap proc_size (is ∙ sym rolls) ∙ fold-roll-Proc ℕ proc_size_of_layer d,
  ap proc_free (is ∙ sym rolls) ∙ fold-roll-Proc Names proc_free_of_layer d,
)

form_depth_of : (ts : List Proc) (n : Layer) → proc_form_depth (layer_of ts n) ≡ 1 + max (own_depth n) (greatest (map proc_depth (map (tree_at ts) (layer_parts n))))
form_depth_of ts Proc-F.Stop = omega arith
form_depth_of ts _ = omega arith

form_size_of : (ts : List Proc) (n : Layer) → proc_form_size (layer_of ts n) ≡ 1 + (own_size n + total (map proc_size (map (tree_at ts) (layer_parts n))))
form_size_of ts Proc-F.Stop = omega arith
form_size_of ts _ = omega arith

pub tree_depth : (ts : List Proc) (n : Layer) → proc_depth (layer_tree ts n) ≡ 1 + max (own_depth n) (greatest (map proc_depth (map (tree_at ts) (layer_parts n))))
tree_depth ts n = (proc_measures (layer_tree ts n) (layer_tree ts n) (layer_of ts n) refl (sym (rolls ts n))).0 ∙ form_depth_of ts n

pub tree_size : (ts : List Proc) (n : Layer) → proc_size (layer_tree ts n) ≡ 1 + (own_size n + total (map proc_size (map (tree_at ts) (layer_parts n))))
tree_size ts n = (proc_measures (layer_tree ts n) (layer_tree ts n) (layer_of ts n) refl (sym (rolls ts n))).1 ∙ form_size_of ts n

-- the names that are free in a node's process are read by its own parts or by its sub-processes
own_first : (a p : Bool) → a || p ≡ true → (a ≡ true) ⊎ (p || false ≡ true)
own_first true p e = inl refl
own_first false true e = inr refl
own_first false false e = absurd (false≢true e)

own_bound : (a n p : Bool) → a || (n && p) ≡ true → (a ≡ true) ⊎ (p || false ≡ true)
own_bound true n p e = inl refl
own_bound false true p e = own_first false p e
own_bound false false p e = absurd (false≢true e)

own_last : (p a : Bool) → p || a ≡ true → (a ≡ true) ⊎ (p || false ≡ true)
own_last true a e = inr refl
own_last false a e = inl e

own_two : (a p q : Bool) → a || (p || q) ≡ true → (a ≡ true) ⊎ (p || (q || false) ≡ true)
own_two true p q e = inl refl
own_two false true q e = inr refl
own_two false false true e = inr refl
own_two false false false e = absurd (false≢true e)

own_head : (h b f p : Bool) → (b ≡ true → (f ≡ true) ⊎ (p ≡ true)) → h || b ≡ true → (h || f ≡ true) ⊎ (p || false ≡ true)
own_head true b f p split e = inl refl
own_head false b f p split e = either_one (split e)
  where
    either_one : (f ≡ true) ⊎ (p ≡ true) → (f ≡ true) ⊎ (p || false ≡ true)
    either_one (inl h) = inl h
    either_one (inr h) = inr (λ i. h i || false)

own_under : (p u g a : Bool) → (u ≡ true → (g ≡ true) ⊎ (a ≡ true)) → p || u ≡ true → (a || g ≡ true) ⊎ (p || false ≡ true)
own_under true u g a split e = inr refl
own_under false u g a split e = either_one (split e)
  where
    either_one : (g ≡ true) ⊎ (a ≡ true) → (a || g ≡ true) ⊎ (false ≡ true)
    either_one (inl h) = inl (or_right a g h)
    either_one (inr h) = inl (λ i. h i || g)

-- a number that is none above those of some places, and of one more
least_push : (ms : List Measure) (all new : ℕ) (ids : List ProcId) (id : ProcId) → new ≡ min all (measure_at ms id).least → IsLeastAt ms all ids → IsLeastAt ms new (ids ++ id ∷ [])
least_push ms all new [] id e low = (omega (arith, e), tt)
least_push ms all new (q ∷ ids) id e low = (let first = low.0 in omega (arith, e, first), least_push ms all new ids id e low.1)

pub least_lower : (ms : List Measure) (m n : ℕ) (ids : List ProcId) → m ≤ n → IsLeastAt ms n ids → IsLeastAt ms m ids
least_lower ms m n [] h low = tt
least_lower ms m n (id ∷ ids) h low = (let first = low.0 in omega (arith, h, first), least_lower ms m n ids h low.1)

pub least_more : (ms : List Measure) (all new : ℕ) (ids : List ProcId) (i : ℕ) (other : ProcId) (m : Measure) → i < length ids → new ≡ min all m.least → m ≡ measure_at ms (get_or ids i other) → IsLeastAt ms all (take i ids) → IsLeastAt ms new (take (i + 1) ids)
least_more ms all new ids i other m h is at low =
    subst (λ (qs : List ProcId). IsLeastAt ms new qs) (sym (take_more ids i other h))
    (least_push ms all new (take i ids) (get_or ids i other) (is ∙ ap (λ (k : Measure). min all k.least) at) low)

abbrev frees : List Proc → List ProcId → Names
frees ts ids = any_of (map proc_free (map (tree_at ts) ids))

form_split : (ts : List Proc) (n : Layer) (x : ℕ) → proc_form_free (layer_of ts n) x ≡ true → (own_free n x ≡ true) ⊎ (frees ts (layer_parts n) x ≡ true)
form_split ts (Proc-F.Prefix h fields p) x e = own_head (head_free h x) (before fields (proc_free (tree_at ts p)) x) (before fields nowhere x) (proc_free (tree_at ts p) x) (before_split fields (proc_free (tree_at ts p)) x) e
form_split ts (Proc-F.Guard c p) x e = own_first (expr_free c x) (proc_free (tree_at ts p) x) e
form_split ts (Proc-F.If c p q) x e = own_two (expr_free c x) (proc_free (tree_at ts p) x) (proc_free (tree_at ts q) x) e
form_split ts (Proc-F.External ps) x e = inr e
form_split ts (Proc-F.Internal ps) x e = inr e
form_split ts (Proc-F.EachExternal y s p) x e = own_bound (expr_free s x) (not (nat_eq y x)) (proc_free (tree_at ts p) x) e
form_split ts (Proc-F.EachInternal y s p) x e = own_bound (expr_free s x) (not (nat_eq y x)) (proc_free (tree_at ts p) x) e
form_split ts (Proc-F.Hide p s) x e = own_last (proc_free (tree_at ts p) x) (expr_free s x) e
form_split ts (Proc-F.Rename p pairs gens) x e =
    own_under (proc_free (tree_at ts p) x) (under (map gen_binding gens) (any_of (map pair_free pairs)) x) (under (map gen_binding gens) nowhere x) (any_of (map pair_free pairs) x) (under_split (map gen_binding gens) (any_of (map pair_free pairs)) x) e
form_split ts (Proc-F.Seq p q) x e = own_two false (proc_free (tree_at ts p) x) (proc_free (tree_at ts q) x) e
form_split ts _ x e = inl e

module _ (ts : List Proc) (ms : List Measure) (are : AreMeasured ts ms) where
  measured_at : (id : ProcId) → nat_lt id.0 (length ms) ≡ true → Measures (tree_at ts id) (measure_at ms id)
  measured_at id h = noted_at proc_depth proc_size proc_free ms ts id.0 (measure_at ms id) proc.Stop are.noted (slice_get-get_or ms id.0 (record { depth = 0; size = 0; least = 0 }) (ltb-true id.0 (length ms) h))

  deepest_measured : (ids : List ProcId) → all_below (length ms) ids ≡ true → deepest_at ms ids ≡ capped (greatest (map proc_depth (map (tree_at ts) ids)))
  deepest_measured [] h = omega arith
  deepest_measured (id ∷ ids) h =
      let first = (measured_at id (first_so (nat_lt id.0 (length ms)) (all_below (length ms) ids) h)).depth in
      let others = deepest_measured ids (second_so (nat_lt id.0 (length ms)) (all_below (length ms) ids) h) in
      omega (arith, first, others)

  total_measured : (ids : List ProcId) → all_below (length ms) ids ≡ true → capped (total_at ms ids) ≡ capped (total (map proc_size (map (tree_at ts) ids)))
  total_measured [] h = refl
  total_measured (id ∷ ids) h =
      let first = (measured_at id (first_so (nat_lt id.0 (length ms)) (all_below (length ms) ids) h)).size in
      let others = total_measured ids (second_so (nat_lt id.0 (length ms)) (all_below (length ms) ids) h) in
      omega (arith, first, others)

  low_measured : (m : ℕ) (ids : List ProcId) → all_below (length ms) ids ≡ true → IsLeastAt ms m ids → IsLow m (frees ts ids)
  low_measured m [] h low = none_low m
  low_measured m (id ∷ ids) h low =
      let first = lower m (measure_at ms id).least (proc_free (tree_at ts id)) low.0 (measured_at id (first_so (nat_lt id.0 (length ms)) (all_below (length ms) ids) h)).low in
      let others = low_measured m ids (second_so (nat_lt id.0 (length ms)) (all_below (length ms) ids) h) low.1 in
      low_either m m m (proc_free (tree_at ts id)) (frees ts ids) (omega arith) first others

  -- where the measures are those of the trees, a node's measure is that of its tree
  pub node_measured : (n : Layer) (m : Measure) → layer_below (length ms) n ≡ true → IsNodeMeasure ms n m → Measures (layer_tree ts n) m
  node_measured n m h is = record {
    depth = let d = is.depth in omega (arith, d, tree_depth ts n, deepest_measured (layer_parts n) h);
    size = let s = is.size in omega (arith, s, tree_size ts n, total_measured (layer_parts n) h);
    low = subst (λ (names : Names). IsLow m.least names) (sym (proc_measures (layer_tree ts n) (layer_tree ts n) (layer_of ts n) refl (sym (rolls ts n))).2)
        (low_of m.least (own_free n) (frees ts (layer_parts n)) (proc_form_free (layer_of ts n)) (form_split ts n) is.own (low_measured m.least (layer_parts n) h is.places));
  }
