-- What follows from how a pool keeps its processes.
use Rattle.term_pool.proofs.Prelude.{◌≡◌, ◌⊎◌, inl, inr, ℕ, zero, suc, ◌+◌, ◌<◌, ◌≤◌, true, nat_lt, Some, List, [], ◌∷◌, ◌++◌, map, length, get_or, slice_get, refl, ap, sym, ◌∙◌, subst, arith, ltb-true, false≢true, length-append, slice_get_within, slice_get-get_or, get_or_from_slice_get, first_so, second_so, Result, Ok, Err, IsErr, slice_get-append_left, proc_depth, proc_free, proc_size, Proc, Proc-F, IsHeld, Puts, AreMeasured, IsNodeMeasure, AreDifferent, Has, IsFront, PartsStandBelow, StandBelow, parts, tree_at, layer_tree, all_below, layer_below, trees_of, fall, AddsOne, Layer, layer_parts, noted_more, noted_push, IsAbsent, Measure, ProcId, push_cases, EachOnce}
use Rattle.csp_program.specs.declared.processes.Proc.TheVariants as proc
use Rattle.term_pool.proofs.NodeLemmas.{parts_at, same_node}
use Rattle.term_pool.proofs.NodeMeasures.{node_measured}
use Rattle.term_pool.proofs.TreeLemmas.{all_below_more, of_front, grown_push, grown_length, grown_at, fall_at, fall_push}
use Rattle.term_pool.proofs.WithinLemmas.{has_push}

at_end : {X : Type 0} (xs : List X) (x : X) → slice_get (xs ++ x ∷ []) (length xs) ≡ Some x
at_end [] x = refl
at_end (y ∷ xs) x = at_end xs x

abbrev id_at : ℕ → ProcId
id_at k = record { 0 = k }

pub trees_length : (ns : List Layer) → length (trees_of ns) ≡ length ns
trees_length ns = let h = grown_length [] ns in omega (arith, h)

-- a list with one node more
trees_push : (ns : List Layer) (n : Layer) → trees_of (ns ++ n ∷ []) ≡ trees_of ns ++ layer_tree (trees_of ns) n ∷ []
trees_push ns n = grown_push [] ns n

module _ (ns : List Layer) (smaller : fall 0 ns ≡ true) where
  -- the tree at a node's place is the node's
  pub tree_stands : (k : ℕ) (n : Layer) → slice_get ns k ≡ Some n → get_or (trees_of ns) k proc.Stop ≡ layer_tree (trees_of ns) n
  tree_stands k n g =
      let z : k ≡ 0 + k = omega arith in
      ap (λ j. get_or (trees_of ns) j proc.Stop) z ∙ grown_at [] ns smaller k n g

  pub places_fall : (k : ℕ) (n : Layer) → slice_get ns k ≡ Some n → layer_below k n ≡ true
  places_fall k n g =
      let z : 0 + k ≡ k = omega arith in
      subst (λ (c : ℕ). layer_below c n ≡ true) z (fall_at 0 ns smaller k n g)

  pub stands : (k : ℕ) (n : Layer) → slice_get ns k ≡ Some n → slice_get (trees_of ns) k ≡ Some (layer_tree (trees_of ns) n)
  stands k n g =
      let within : k < length (trees_of ns) = let a = slice_get_within ns k n g in let b = trees_length ns in omega (arith, a, b) in
      slice_get-get_or (trees_of ns) k proc.Stop within ∙ ap (λ (t : Proc). Some t) (tree_stands k n g)

  parts_below : (k : ℕ) → k ≤ length (trees_of ns) → (ids : List ProcId) → all_below k ids ≡ true → StandBelow (trees_of ns) k (map (tree_at (trees_of ns)) ids)
  parts_below k le [] h = tt
  parts_below k le (id ∷ ids) h =
      let lt : id.0 < k = ltb-true id.0 k (first_so (nat_lt id.0 k) (all_below k ids) h) in
      ((id.0, lt, slice_get-get_or (trees_of ns) id.0 proc.Stop (omega arith)), parts_below k le ids (second_so (nat_lt id.0 k) (all_below k ids) h))

  -- the sub-processes of each process stand at smaller places
  pub parts_stand : PartsStandBelow (trees_of ns)
  parts_stand k t h =
      let within : k < length (trees_of ns) = slice_get_within (trees_of ns) k t h in
      let n = get_or ns k Proc-F.Stop in
      let n_is : slice_get ns k ≡ Some n = slice_get-get_or ns k Proc-F.Stop (let b = trees_length ns in omega (arith, b)) in
      let t_is : layer_tree (trees_of ns) n ≡ t = sym (tree_stands k n n_is) ∙ get_or_from_slice_get (trees_of ns) k t proc.Stop h in
      subst (λ (p : Proc). StandBelow (trees_of ns) k (parts p)) t_is
      (subst (λ (ps : List Proc). StandBelow (trees_of ns) k ps) (sym (parts_at (trees_of ns) n))
      (parts_below k (omega arith) (layer_parts n) (places_fall k n n_is)))

module _ (ns : List Layer) (smaller : fall 0 ns ≡ true) (distinct : EachOnce ns) where
  differ : (b : ℕ) → b ≤ length ns → (i j : ℕ) → i < b → j < b → tree_at (trees_of ns) (id_at i) ≡ tree_at (trees_of ns) (id_at j) → i ≡ j
  differ zero le i j h g e = absurd (omega (arith, h))
  differ (suc b) le i j h g e =
      let n = get_or ns i Proc-F.Stop in
      let m = get_or ns j Proc-F.Stop in
      let n_is : slice_get ns i ≡ Some n = slice_get-get_or ns i Proc-F.Stop (omega (arith, h, le)) in
      let m_is : slice_get ns j ≡ Some m = slice_get-get_or ns j Proc-F.Stop (omega (arith, g, le)) in
      let n_below : layer_below b n ≡ true = all_below_more i b (omega (arith, h)) (layer_parts n) (places_fall ns smaller i n n_is) in
      let m_below : layer_below b m ≡ true = all_below_more j b (omega (arith, g)) (layer_parts m) (places_fall ns smaller j m m_is) in
      let same : layer_tree (trees_of ns) n ≡ layer_tree (trees_of ns) m = sym (tree_stands ns smaller i n n_is) ∙ (e ∙ tree_stands ns smaller j m m_is) in
      let n_m : n ≡ m = same_node (trees_of ns) b (differ b (omega (arith, le))) n m n_below m_below same in
      distinct i j m (n_is ∙ ap (λ (x : Layer). Some x) n_m) m_is

  -- no process stands at two places
  pub are_different : AreDifferent (trees_of ns)
  are_different i j t h g =
      let b = trees_length ns in
      let i_in = slice_get_within (trees_of ns) i t h in
      let j_in = slice_get_within (trees_of ns) j t g in
      differ (length ns) (omega arith) i j (omega (arith, b, i_in)) (omega (arith, b, j_in))
      (get_or_from_slice_get (trees_of ns) i t proc.Stop h ∙ sym (get_or_from_slice_get (trees_of ns) j t proc.Stop g))

  -- a node whose process is there is there itself
  pub is_known : (n : Layer) → layer_below (length ns) n ≡ true → Has (trees_of ns) (layer_tree (trees_of ns) n) → (k : ℕ) × (slice_get ns k ≡ Some n)
  is_known n below has =
      let within : has.0 < length ns = let a = slice_get_within (trees_of ns) has.0 (layer_tree (trees_of ns) n) has.1 in let b = trees_length ns in omega (arith, a, b) in
      let m = get_or ns has.0 Proc-F.Stop in
      let m_is : slice_get ns has.0 ≡ Some m = slice_get-get_or ns has.0 Proc-F.Stop within in
      let m_below : layer_below (length ns) m ≡ true = all_below_more has.0 (length ns) (omega (arith, within)) (layer_parts m) (places_fall ns smaller has.0 m m_is) in
      let same : layer_tree (trees_of ns) m ≡ layer_tree (trees_of ns) n = sym (tree_stands ns smaller has.0 m m_is) ∙ get_or_from_slice_get (trees_of ns) has.0 (layer_tree (trees_of ns) n) proc.Stop has.1 in
      let m_n : m ≡ n = same_node (trees_of ns) (length ns) (differ (length ns) (omega arith)) m n m_below below same in
      (has.0, m_is ∙ ap (λ (x : Layer). Some x) m_n)

once_push : (ns : List Layer) (n : Layer) → EachOnce ns → IsAbsent ns n → EachOnce (ns ++ n ∷ [])
once_push ns n once absent i j x h g = either (push_cases ns n i x h) (push_cases ns n j x g)
  where
    either : (slice_get ns i ≡ Some x) ⊎ ((i ≡ length ns) × (n ≡ x)) → (slice_get ns j ≡ Some x) ⊎ ((j ≡ length ns) × (n ≡ x)) → i ≡ j
    either (inl a) (inl b) = once i j x a b
    either (inl a) (inr b) = absurd (absent i (a ∙ ap (λ (y : Layer). Some y) (sym b.1)))
    either (inr a) (inl b) = absurd (absent j (b ∙ ap (λ (y : Layer). Some y) (sym a.1)))
    either (inr a) (inr b) = a.0 ∙ sym b.0

module _ (ns : List Layer) (ms : List Measure) (held : IsHeld ns ms) (n : Layer) (below : layer_below (length ns) n ≡ true) where
  pub held_length : length ms ≡ length ns
  held_length = held.measured.length ∙ trees_length ns

  pub below_measures : layer_below (length ms) n ≡ true
  below_measures = subst (λ (c : ℕ). layer_below c n ≡ true) (sym held_length) below

  smaller_push : fall 0 (ns ++ n ∷ []) ≡ true
  smaller_push =
      let z : length ns ≡ 0 + length ns = omega arith in
      fall_push 0 ns n held.smaller (subst (λ (c : ℕ). layer_below c n ≡ true) z below)

  measured_push : (m : Measure) → IsNodeMeasure ms n m → AreMeasured (trees_of (ns ++ n ∷ [])) (ms ++ m ∷ [])
  measured_push m is =
      let ts : List Proc = trees_of ns in
      let t : Proc = layer_tree ts n in
      let place : slice_get (ts ++ t ∷ []) (length ms) ≡ Some t = ap (λ (k : ℕ). slice_get (ts ++ t ∷ []) k) held.measured.length ∙ at_end ts t in
      subst (λ (us : List Proc). AreMeasured us (ms ++ m ∷ [])) (sym (trees_push ns n)) (record {
        length = let same = held.measured.length in omega (arith, same, length-append ms (m ∷ []), length-append ts (t ∷ []));
        noted = noted_push proc_depth proc_size proc_free ms (ts ++ t ∷ []) m t (noted_more proc_depth proc_size proc_free ms ts (t ∷ []) held.measured.noted) place (node_measured ts ms held.measured n m below_measures is);
      })

  -- a new node is kept with its measure
  pub held_push : IsAbsent ns n → (m : Measure) → IsNodeMeasure ms n m → IsHeld (ns ++ n ∷ []) (ms ++ m ∷ [])
  held_push absent m is = record {
    smaller = smaller_push;
    distinct = once_push ns n held.distinct absent;
    measured = measured_push m is;
  }

  front_push : IsFront (trees_of ns) (trees_of (ns ++ n ∷ []))
  front_push k t h = subst (λ (ts : List Proc). slice_get ts k ≡ Some t) (sym (trees_push ns n)) (slice_get-append_left (trees_of ns) (layer_tree (trees_of ns) n ∷ []) k t h)

  process_push : (k : ℕ) → slice_get (ns ++ n ∷ []) k ≡ Some n → slice_get (trees_of (ns ++ n ∷ [])) k ≡ Some (layer_tree (trees_of ns) n)
  process_push k g =
      let below_trees : layer_below (length (trees_of ns)) n ≡ true = subst (λ (c : ℕ). layer_below c n ≡ true) (sym (trees_length ns)) below in
      let same : layer_tree (trees_of (ns ++ n ∷ [])) n ≡ layer_tree (trees_of ns) n = ap (λ (ts : List Proc). layer_tree ts n) (trees_push ns n) ∙ of_front (trees_of ns) (layer_tree (trees_of ns) n ∷ []) n below_trees in
      stands (ns ++ n ∷ []) smaller_push k n g ∙ ap (λ (t : Proc). Some t) same

  pub unknown_push : IsAbsent ns n → Has (trees_of ns) (layer_tree (trees_of ns) n) → ⊥
  unknown_push absent has = let there = is_known ns held.smaller held.distinct n below has in absent there.0 there.1

  only_push : AddsOne (trees_of ns) (trees_of (ns ++ n ∷ [])) (layer_tree (trees_of ns) n)
  only_push u has = has_push (layer_tree (trees_of ns) n) u (trees_of ns) (subst (λ (ts : List Proc). Has ts u) (trees_push ns n) has)

  -- what comes of putting the node: of a new one, of one that stands at k, and where memory is wanting
  pub puts_new : {E : Type 0} → IsAbsent ns n → (k : ℕ) → slice_get (ns ++ n ∷ []) k ≡ Some n → Puts {E = E} (trees_of ns) (trees_of (ns ++ n ∷ [])) (Ok (id_at k)) (layer_tree (trees_of ns) n)
  puts_new absent k g = record { process = process_push k g; front = front_push; known = λ has. absurd (unknown_push absent has); only = only_push; err = tt }

  pub puts_known : {E : Type 0} → (k : ℕ) → slice_get ns k ≡ Some n → Puts {E = E} (trees_of ns) (trees_of ns) (Ok (id_at k)) (layer_tree (trees_of ns) n)
  puts_known k g = record { process = stands ns held.smaller k n g; front = λ j t h. h; known = λ has. refl; only = λ u has. inl has; err = tt }

-- nothing is put
pub puts_none : {E : Type 0} (ts : List Proc) (t : Proc) (r : Result ProcId E) → IsErr r → Puts ts ts r t
puts_none ts t (Ok id) failed = absurd (false≢true failed)
puts_none ts t (Err e) failed = record { process = tt; front = λ j u h. h; known = λ has. refl; only = λ u has. inl has; err = refl }
