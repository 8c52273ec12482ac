-- What follows from how a pool keeps its nodes as entries.
use Rattle.term_pool.proofs.Prelude.{◌≡◌, ◌⊎◌, inl, inr, ℕ, zero, suc, ◌<◌, true, false, None, Some, Option, List, [], ◌∷◌, ◌++◌, length, get_or, slice_get, refl, ap, sym, ◌∙◌, subst, arith, map-append, length-map, length_push, same_from_push, slice_get-map, slice_get-get_or, Result, Ok, Err, IsErr, MatchOption, OnErr, option_map, proc_depth, proc_free, proc_size, Proc, noted_at, is_absent, entry_layer, layers, ArePartsOnce, Fits, HasParts, PartsStart, eq_entry, processes, IsHeld, IsKept, Puts, Layer, IsNodeMeasure, Measures, Has, layer_below, layer_tree, trees_of, laws-law, Entry, OwnParts, IsAbsent, Measure, ProcId, push_cases, is_member}
use Rattle.csp_program.specs.declared.processes.Proc.TheVariants as proc
use Rattle.term_pool.proofs.EntryLemmas.{fits_more, layer_stays, same_entry, has_parts}
use Rattle.term_pool.proofs.HeldLemmas.{held_push, is_known, places_fall, puts_known, puts_new, puts_none, tree_stands, trees_length, unknown_push}

abbrev id_at : ℕ → ProcId
id_at k = record { 0 = k }

-- the layer of the entry at a place
layer_there : (parts : OwnParts) (es : List Entry) (k : ℕ) (e : Entry) → slice_get es k ≡ Some e → slice_get (layers parts es) k ≡ Some (entry_layer parts e)
layer_there parts es k e g = slice_get-map (entry_layer parts) es k ∙ ap (λ (found : Option Entry). option_map (entry_layer parts) found) g

-- the entry of the layer at a place
entry_there : (parts : OwnParts) (es : List Entry) (k : ℕ) (n : Layer) → slice_get (layers parts es) k ≡ Some n → (e : Entry) × (slice_get es k ≡ Some e) × (entry_layer parts e ≡ n)
entry_there parts [] k n g = cc
entry_there parts (e ∷ es) zero n g = let same : entry_layer parts e ≡ n = cc in (e, refl, same)
entry_there parts (e ∷ es) (suc k) n g = entry_there parts es k n g

pub processes_length : (parts : OwnParts) (es : List Entry) → length (processes parts es) ≡ length es
processes_length parts es = trees_length (layers parts es) ∙ length-map es (entry_layer parts)

module _ (parts : OwnParts) (es : List Entry) (ms : List Measure) (kept : IsKept parts es ms) where
  -- the entry that is read at a place
  module _ (k : ℕ) (within : k < length (processes parts es)) where
    pub read_within : (xs : List Entry) → xs ≡ es → k < length xs
    read_within xs x = let a = processes_length parts es in let b = ap (λ (ys : List Entry). length ys) x in omega (arith, a, b, within)

    module _ (xs : List Entry) (x : xs ≡ es) (other : Entry) where
      read : slice_get es k ≡ Some (get_or xs k other)
      read =
          let inside : k < length es = let a = processes_length parts es in omega (arith, a, within) in
          slice_get-get_or es k other inside ∙ ap (λ (ys : List Entry). Some (get_or ys k other)) (sym x)

      pub read_fits : Fits parts (get_or xs k other)
      read_fits = kept.fits k (get_or xs k other) read

      pub read_below : layer_below k (entry_layer parts (get_or xs k other)) ≡ true
      read_below = places_fall (layers parts es) kept.held.smaller k (entry_layer parts (get_or xs k other)) (layer_there parts es k (get_or xs k other) read)

      pub read_process : layer_tree (processes parts es) (entry_layer parts (get_or xs k other)) ≡ get_or (processes parts es) k proc.Stop
      read_process = sym (tree_stands (layers parts es) kept.held.smaller k (entry_layer parts (get_or xs k other)) (layer_there parts es k (get_or xs k other) read))

  -- the measure that is read at a place
  pub measure_read : (k : ℕ) → k < length (processes parts es) → (xs : List Measure) → xs ≡ ms → (other : Measure) → Measures (get_or (processes parts es) k proc.Stop) (get_or xs k other)
  measure_read k within xs x other =
      let inside : k < length ms = let same = kept.held.measured.length in omega (arith, same, within) in
      noted_at proc_depth proc_size proc_free ms (processes parts es) k (get_or xs k other) proc.Stop kept.held.measured.noted
      (slice_get-get_or ms k other inside ∙ ap (λ (ys : List Measure). Some (get_or ys k other)) (sym x))

  -- an entry that looks at places of the pool alone
  module _ (e : Entry) (fits : Fits parts e) (below : layer_below (length (processes parts es)) (entry_layer parts e) ≡ true) where
    below_layers : layer_below (length (layers parts es)) (entry_layer parts e) ≡ true
    below_layers = subst (λ (c : ℕ). layer_below c (entry_layer parts e) ≡ true) (trees_length (layers parts es)) below

    absent : is_member eq_entry es e ≡ false → IsAbsent (layers parts es) (entry_layer parts e)
    absent unknown k g =
        let d = entry_there parts es k (entry_layer parts e) g in
        let same : d.0 ≡ e = same_entry parts kept.once d.0 e (kept.fits k d.0 d.1) fits d.2 in
        is_absent eq_entry laws-law.refl es e unknown k (d.1 ∙ ap (λ (x : Entry). Some x) same)

    more : layers parts (es ++ e ∷ []) ≡ layers parts es ++ entry_layer parts e ∷ []
    more = map-append (entry_layer parts) es (e ∷ [])

    all_fit : (k : ℕ) (d : Entry) → (slice_get es k ≡ Some d) ⊎ ((k ≡ length es) × (e ≡ d)) → Fits parts d
    all_fit k d (inl g) = kept.fits k d g
    all_fit k d (inr g) = subst (λ (x : Entry). Fits parts x) g.1 fits

    -- a new entry is kept with its measure
    pub kept_push : is_member eq_entry es e ≡ false → (m : Measure) → IsNodeMeasure ms (entry_layer parts e) m → IsKept parts (es ++ e ∷ []) (ms ++ m ∷ [])
    kept_push unknown m is = record {
      fits = λ k x g. all_fit k x (push_cases es e k x g);
      once = kept.once;
      held = subst (λ (ns : List Layer). IsHeld ns (ms ++ m ∷ [])) (sym more) (held_push (layers parts es) ms kept.held (entry_layer parts e) below_layers (absent unknown) m is);
    }

    pub puts_push : {E : Type 0} → is_member eq_entry es e ≡ false → (k : ℕ) → slice_get (es ++ e ∷ []) k ≡ Some e
        → Puts {E = E} (processes parts es) (processes parts (es ++ e ∷ [])) (Ok (id_at k)) (layer_tree (processes parts es) (entry_layer parts e))
    puts_push {E} unknown k g =
        subst (λ (ns : List Layer). Puts {E = E} (processes parts es) (trees_of ns) (Ok (id_at k)) (layer_tree (processes parts es) (entry_layer parts e))) (sym more)
        (puts_new (layers parts es) ms kept.held (entry_layer parts e) below_layers (absent unknown) k
        (subst (λ (ns : List Layer). slice_get ns k ≡ Some (entry_layer parts e)) more (layer_there parts (es ++ e ∷ []) k e g)))

    pub puts_there : {E : Type 0} → (k : ℕ) → slice_get es k ≡ Some e → Puts {E = E} (processes parts es) (processes parts es) (Ok (id_at k)) (layer_tree (processes parts es) (entry_layer parts e))
    puts_there k g = puts_known (layers parts es) ms kept.held (entry_layer parts e) below_layers k (layer_there parts es k e g)

    pub puts_unknown : is_member eq_entry es e ≡ false → Has (processes parts es) (layer_tree (processes parts es) (entry_layer parts e)) → ⊥
    puts_unknown unknown = unknown_push (layers parts es) ms kept.held (entry_layer parts e) below_layers (absent unknown)

layers_stay : (old new : OwnParts) → PartsStart old new → (es : List Entry) → ((k : ℕ) (e : Entry) → slice_get es k ≡ Some e → Fits old e) → layers new es ≡ layers old es
layers_stay old new start [] fits = refl
layers_stay old new start (e ∷ es) fits = λ i. layer_stays old new start e (fits 0 e refl) i ∷ layers_stay old new start es (λ k d g. fits (suc k) d g) i

-- the own parts grow before the entry is put
module _ (old new : OwnParts) (start : PartsStart old new) (es : List Entry) (ms : List Measure) (kept : IsKept old es ms) where
  processes_stay : processes new es ≡ processes old es
  processes_stay = ap trees_of (layers_stay old new start es kept.fits)

  pub kept_more : ArePartsOnce new → IsKept new es ms
  kept_more once = record {
    fits = λ k e g. fits_more old new start e (kept.fits k e g);
    once = once;
    held = subst (λ (ns : List Layer). IsHeld ns ms) (sym (layers_stay old new start es kept.fits)) kept.held;
  }

  pub puts_nothing : {E : Type 0} (r : Result ProcId E) → IsErr r → (t : Proc) → Puts (processes old es) (processes new es) r t
  puts_nothing r failed t = subst (λ (ts : List Proc). Puts (processes old es) ts r t) (sym processes_stay) (puts_none (processes old es) t r failed)

  module _ (e : Entry) (n : Layer) (is : entry_layer new e ≡ n) where
    pub below_more : layer_below (length (processes old es)) n ≡ true → layer_below (length (processes new es)) (entry_layer new e) ≡ true
    below_more h =
        subst (λ (ts : List Proc). layer_below (length ts) (entry_layer new e) ≡ true) (sym processes_stay)
        (subst (λ (m : Layer). layer_below (length (processes old es)) m ≡ true) (sym is) h)

    module _ (t : Proc) (tree : layer_tree (processes old es) n ≡ t) where
      tree_is : layer_tree (processes new es) (entry_layer new e) ≡ t
      tree_is = ap (λ (ts : List Proc). layer_tree ts (entry_layer new e)) processes_stay ∙ (ap (λ (m : Layer). layer_tree (processes old es) m) is ∙ tree)

      pub puts_as : {E : Type 0} (after : List Proc) (r : Result ProcId E) → Puts (processes new es) after r (layer_tree (processes new es) (entry_layer new e)) → Puts (processes old es) after r t
      puts_as after r h =
          subst (λ (q : Proc). Puts (processes old es) after r q) tree_is
          (subst (λ (ts : List Proc). Puts ts after r (layer_tree (processes new es) (entry_layer new e))) processes_stay h)

      pub unknown_as : {E : Type 0} (r : Result ProcId E) → OnErr r (Has (processes new es) (layer_tree (processes new es) (entry_layer new e)) → ⊥) → OnErr r (Has (processes old es) t → ⊥)
      unknown_as r h =
          subst (λ (q : Proc). OnErr r (Has (processes old es) q → ⊥)) tree_is
          (subst (λ (ts : List Proc). OnErr r (Has ts (layer_tree (processes new es) (entry_layer new e)) → ⊥)) processes_stay h)

-- where an own part of a node is new, its process is
pub no_parts_no_process : (parts : OwnParts) (es : List Entry) (ms : List Measure) → IsKept parts es ms → (n : Layer) → layer_below (length (processes parts es)) n ≡ true → (HasParts parts n → ⊥)
    → Has (processes parts es) (layer_tree (processes parts es) n) → ⊥
no_parts_no_process parts es ms kept n below lacks has =
    let here = is_known (layers parts es) kept.held.smaller kept.held.distinct n (subst (λ (c : ℕ). layer_below c n ≡ true) (trees_length (layers parts es)) below) has in
    let e = entry_there parts es here.0 n here.1 in
    lacks (has_parts parts e.0 n (kept.fits here.0 e.0 e.1) e.2)

-- what is so holds where nothing else is said
pub on_err : {T E : Type 0} (r : Result T E) (P : Type 0) → P → OnErr r P
on_err (Ok x) P p = tt
on_err (Err e) P p = p

-- what was put at the end is taken out again
pub taken_out : (all before after : List Entry) (e : Entry) (gone : Option Entry) → all ≡ before ++ e ∷ [] → MatchOption gone ((all ≡ []) × (after ≡ [])) (λ last. all ≡ after ++ last ∷ []) → after ≡ before
taken_out all before after e None pushed h =
    let a = ap (λ (xs : List Entry). length xs) (sym pushed ∙ h.0) in
    let b = length_push before e in
    absurd (omega (arith, a, b))
taken_out all before after e (Some last) pushed h = sym (same_from_push before after e last (sym pushed ∙ h)).0

-- nothing is kept at first
none_twice : {T : Type 0} (i j : ℕ) (x : T) → slice_get [] i ≡ Some x → slice_get [] j ≡ Some x → i ≡ j
none_twice i j x h g = cc

abbrev no_parts : OwnParts
no_parts = record { heads = []; fields = []; exprs = []; arguments = []; pairs = []; gens = []; choices = [] }

pub nothing_kept : (parts : OwnParts) (entries : List Entry) (measures : List Measure) → parts ≡ no_parts → entries ≡ [] → measures ≡ [] → IsKept parts entries measures
nothing_kept parts entries measures p e m =
    subst (λ (xs : OwnParts). IsKept xs entries measures) (sym p)
    (subst (λ (xs : List Entry). IsKept no_parts xs measures) (sym e)
    (subst (λ (xs : List Measure). IsKept no_parts [] xs) (sym m) (record {
      fits = λ k e g. cc;
      once = record { heads = none_twice; fields = none_twice; exprs = none_twice; arguments = none_twice; pairs = none_twice; gens = none_twice; choices = none_twice };
      held = record { smaller = refl; distinct = none_twice; measured = record { length = refl; noted = tt } };
    })))
