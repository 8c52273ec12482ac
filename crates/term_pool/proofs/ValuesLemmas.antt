-- What the places of a pool become where values are put in, one place after another.
use Rattle.term_pool.proofs.Prelude.{◌≡◌, ℕ, zero, suc, ◌+◌, ◌<◌, Bool, true, false, cond, nat_lt, nat_eq, Some, None, Option, List, [], ◌∷◌, ◌++◌, length, slice_get, take, refl, ap, sym, ◌∙◌, subst, arith, eqb-true, ltb-true, map_more, take-map, slice_get-get_or, slice_get_within, get_or_from_slice_get, HashMap, get, IsEmpty, Updates, lookup, Env, given_by, proc_with, Given, Proc, ProcId, Layer, shown, id_or, moved, Has, IsFront, parts, Grows, StandAt, StandsFor, all_with, left_below, own_with, AreMade, IsLeft, IsMade, all_below, layer_tree, places, tree_at, tree_of, AddsOne, first_so, second_so, Node}
use Rattle.csp_program.specs.declared.processes.Proc.TheVariants as proc
use Rattle.term_pool.proofs.PutLemmas as lemmas
use Rattle.term_pool.proofs.SubstituteLemmas.{parts_layer, stands_layer}

-- each of some places that are all smaller than b is
item_below : (b : ℕ) (ids : List ProcId) (i : ℕ) → i < length ids → all_below b ids ≡ true → (id_or ids i).0 < b
item_below b [] i more h = absurd (omega (arith, more))
item_below b (id ∷ ids) zero more h = ltb-true id.0 b (first_so (nat_lt id.0 b) (all_below b ids) h)
item_below b (id ∷ ids) (suc i) more h = item_below b ids i (omega (arith, more)) (second_so (nat_lt id.0 b) (all_below b ids) h)

module _ (given : Given) where
  pub stands_made : (trees : List Proc) (id : ProcId) (n : Layer) → layer_tree trees n ≡ tree_at trees id → (ids : List ProcId) → StandAt trees ids (parts (proc_with given (tree_at trees id)))
      → StandsFor trees (moved (own_with given n) ids) (proc_with given (tree_at trees id))
  stands_made trees id n tree ids h =
      let stands : StandsFor trees (moved (own_with given n) ids) (proc_with given (layer_tree trees n)) =
      stands_layer given trees n ids (subst (λ (t : Proc). StandAt trees ids (parts (proc_with given t))) (sym tree) h) in
      subst (λ (t : Proc). StandsFor trees (moved (own_with given n) ids) (proc_with given t)) tree stands

  -- what stands below the node at a place says of what its process becomes, with the values that are left there
  module _ (trees : List Proc) (id : ProcId) (n : Node) (tree : tree_of trees n ≡ tree_at trees id) (xs ids : List ProcId) (read : xs ≡ ids) (listed : ids ≡ places n) where
    under_with : (below : Given) → below ≡ left_below (shown n) given → all_with below trees xs ≡ parts (proc_with given (tree_at trees id))
    under_with below e =
        (λ i. all_with (e i) trees ((read ∙ listed) i)) ∙ (sym (parts_layer given trees (shown n)) ∙ ap (λ (t : Proc). parts (proc_with given t)) tree)

    module _ (found : Option Env) (free : IsLeft (shown n) given found) where
      pub under_none : found ≡ None → all_with given trees xs ≡ parts (proc_with given (tree_at trees id))
      under_none is = under_with given (sym (subst (λ (u : Option Env). IsLeft (shown n) given u) is free))

      pub under_some : (left : Env) → found ≡ Some left → all_with (given_by left) trees xs ≡ parts (proc_with given (tree_at trees id))
      under_some left is = under_with (given_by left) (subst (λ (u : Option Env). IsLeft (shown n) given u) is free)

  -- what has been made stays where the list grows
  pub still_made : (old new : List Proc) → IsFront old new → (q : ℕ) (made : ProcId) → IsMade given old q made → IsMade given new q made
  still_made old new front q made h = record {
    process = h.process;
    before = front q h.process h.before;
    after = front made.0 (proc_with given h.process) h.after;
  }

  pub all_still_made : {S : Type 0} (old new : List Proc) → IsFront old new → (visited : HashMap ℕ ProcId S) → AreMade given old visited → AreMade given new visited
  all_still_made old new front visited are q made g = still_made old new front q made (are q made g)

  -- nothing has been visited at first
  pub none_made : {S : Type 0} (trees : List Proc) (visited : HashMap ℕ ProcId S) → IsEmpty visited → AreMade given trees visited
  none_made trees visited empty q made g =
      let nil_from_length : None ≡ Some made = sym (ap (λ (entries : List (ℕ × ProcId)). lookup (nat_eq q) entries) empty) ∙ g in
      cc

  -- one place more has been visited
  one_made : (trees : List Proc) (k : ℕ) (made : ProcId) → IsMade given trees k made → (q : ℕ) (other : ProcId) (before : Option ProcId) → (before ≡ Some other → IsMade given trees q other)
      → (b : Bool) → nat_eq k q ≡ b → cond b (Some made) before ≡ Some other → IsMade given trees q other
  one_made trees k made h q other before are true e g =
      let same : made ≡ other = cc in
      let place : k ≡ q = eqb-true k q e in
      subst (λ (j : ℕ). IsMade given trees j other) place (subst (λ (id : ProcId). IsMade given trees k id) same h)
  one_made trees k made h q other before are false e g = are g

  pub more_made : {S : Type 0} (trees : List Proc) (old new : HashMap ℕ ProcId S) (k : ℕ) (made : ProcId) → AreMade given trees old → IsMade given trees k made → Updates nat_eq old new k (Some made) → AreMade given trees new
  more_made trees old new k made are h updates q other g =
      one_made trees k made h q other (get nat_eq old q) (are q other) (nat_eq k q) refl (sym (updates.0 q) ∙ g)

  pub made_by : (old new : List Proc) (id : ProcId) → id.0 < length old → IsFront old new → (made : ProcId) → slice_get new made.0 ≡ Some (proc_with given (tree_at old id)) → IsMade given new id.0 made
  made_by old new id within front made h = record {
    process = tree_at old id;
    before = front id.0 (tree_at old id) (slice_get-get_or old id.0 proc.Stop within);
    after = h;
  }

  -- the process at the place with the value put in, as the list that the walk began with says it
  pub made_is : (old new : List Proc) (id : ProcId) → id.0 < length old → IsFront old new → proc_with given (tree_at new id) ≡ proc_with given (tree_at old id)
  made_is old new id within front =
      ap (proc_with given) (get_or_from_slice_get new id.0 (tree_at old id) proc.Stop (front id.0 (tree_at old id) (slice_get-get_or old id.0 proc.Stop within)))

  pub made_after : (old new : List Proc) (id made : ProcId) → id.0 < length old → IsFront old new → IsMade given new id.0 made → slice_get new made.0 ≡ Some (proc_with given (tree_at old id))
  made_after old new id made within front h =
      let stays : slice_get new id.0 ≡ Some (tree_at old id) = front id.0 (tree_at old id) (slice_get-get_or old id.0 proc.Stop within) in
      let same : h.process ≡ tree_at old id = let e : Some h.process ≡ Some (tree_at old id) = sym h.before ∙ stays in cc in
      h.after ∙ ap (λ (t : Proc). Some (proc_with given t)) same

  pub still_within : (old new : List Proc) (id : ProcId) → id.0 < length old → IsFront old new → id.0 < length new
  still_within old new id within front = slice_get_within new id.0 (tree_at old id) (front id.0 (tree_at old id) (slice_get-get_or old id.0 proc.Stop within))

  -- the next of some places, each of which is smaller than one of the list
  module _ (old : List Proc) (id : ProcId) (within : id.0 < length old) (ids : List ProcId) (below : all_below id.0 ids ≡ true) (i : ℕ) (more : i < length ids) where
    pub next_smaller : (id_or ids i).0 < id.0
    next_smaller = item_below id.0 ids i more below

    next_within : (id_or ids i).0 < length old
    next_within = let h = next_smaller in omega (arith, h, within)

    pub next_in : (mid : List Proc) → IsFront old mid → (id_or ids i).0 < length mid
    next_in mid front = still_within old mid (id_or ids i) next_within front

    next_more : all_with given old (take i ids) ++ proc_with given (tree_at old (id_or ids i)) ∷ [] ≡ all_with given old (take (i + 1) ids)
    next_more = sym (map_more (λ id. proc_with given (tree_at old id)) ids i (record { 0 = 0 }) more)

    pub next_grows : (mid new : List Proc) → Grows old mid (all_with given old (take i ids)) → Grows mid new (proc_with given (tree_at mid (id_or ids i)) ∷ []) → Grows old new (all_with given old (take (i + 1) ids))
    next_grows mid new g h =
        subst (λ (ts : List Proc). Grows old new ts) next_more
        (lemmas.grows_both old mid new (all_with given old (take i ids)) (proc_with given (tree_at old (id_or ids i)) ∷ []) g
        (subst (λ (t : Proc). Grows mid new (t ∷ [])) (made_is old mid (id_or ids i) next_within g.front) h))

    pub next_ends : (mid new : List Proc) → Grows old mid (all_with given old (take i ids)) → Grows mid new (proc_with given (tree_at mid (id_or ids i)) ∷ []) → Grows old new (all_with given old ids)
    next_ends mid new g h =
        lemmas.grows_end old new (all_with given old ids) (i + 1)
        (subst (λ (ts : List Proc). Grows old new ts) (sym (take-map (λ id. proc_with given (tree_at old id)) (i + 1) ids)) (next_grows mid new g h))

    pub next_stands : (mid new : List Proc) → IsFront old mid → IsFront mid new → (made : List ProcId) (q : ProcId) → StandAt mid made (all_with given old (take i ids))
        → slice_get new q.0 ≡ Some (proc_with given (tree_at mid (id_or ids i))) → StandAt new (made ++ q ∷ []) (all_with given old (take (i + 1) ids))
    next_stands mid new old_front front made q stand h =
        subst (λ (ts : List Proc). StandAt new (made ++ q ∷ []) ts) next_more
        (lemmas.stand_push mid new front made (all_with given old (take i ids)) q (proc_with given (tree_at old (id_or ids i))) stand (h ∙ ap (λ (t : Proc). Some t) (made_is old mid (id_or ids i) next_within old_front)))

  pub tree_stays : (old new : List Proc) (id : ProcId) → id.0 < length old → IsFront old new → tree_at new id ≡ tree_at old id
  tree_stays old new id within front = get_or_from_slice_get new id.0 (tree_at old id) proc.Stop (front id.0 (tree_at old id) (slice_get-get_or old id.0 proc.Stop within))

  -- first the sub-processes of what the process becomes, and then itself, as the list in between says it
  pub layer_grows : (old mid new : List Proc) (id : ProcId) → id.0 < length old → Grows old mid (parts (proc_with given (tree_at old id))) → IsFront mid new
      → (Has mid (proc_with given (tree_at mid id)) → new ≡ mid) → AddsOne mid new (proc_with given (tree_at mid id)) → Grows old new (proc_with given (tree_at old id) ∷ [])
  layer_grows old mid new id within g front known only =
      let same : tree_at mid id ≡ tree_at old id = tree_stays old mid id within g.front in
      lemmas.grows_whole old mid new (proc_with given (tree_at old id)) g front
      (subst (λ (t : Proc). Has mid (proc_with given t) → new ≡ mid) same known) (subst (λ (t : Proc). AddsOne mid new (proc_with given t)) same only)
