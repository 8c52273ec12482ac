-- Lemmas on lists that grow as processes are put into them, and on nodes that stand for processes.
use Rattle.term_pool.proofs.Prelude.{◌≡◌, ◌⊎◌, inl, inr, ℕ, ◌+◌, ◌<◌, true, nat_lt, Some, List, [], ◌∷◌, ◌++◌, map, length, get_or, slice_get, take, drop, refl, ap, sym, ◌∙◌, subst, lt-ltb, and_from, take_more, take-append-drop, slice_get_within, get_or_from_slice_get, Proc, Has, IsFront, PartsStandBelow, StandBelow, parts, Grows, HasAll, StandAt, StandsFor, tree_at, layer_tree, all_below, AddsOne, IsInOne, Layer, ProcId}
use Rattle.csp_program.specs.declared.processes.Proc.TheVariants as proc
use Rattle.term_pool.proofs.WithinLemmas.{in_left, in_right, in_whole, is_whole}

has_front : (trees : List Proc) (ps qs : List Proc) → HasAll trees (ps ++ qs) → HasAll trees ps
has_front trees [] qs h = tt
has_front trees (p ∷ ps) qs h = (h.0, has_front trees ps qs h.1)

has_back : (trees : List Proc) (ps qs : List Proc) → HasAll trees (ps ++ qs) → HasAll trees qs
has_back trees [] qs h = h
has_back trees (p ∷ ps) qs h = has_back trees ps qs h.1

has_below : (trees : List Proc) (k : ℕ) (ps : List Proc) → StandBelow trees k ps → HasAll trees ps
has_below trees k [] h = tt
has_below trees k (p ∷ ps) h = ((h.0.0, h.0.2), has_below trees k ps h.1)

-- a list with a process has its sub-processes
has_parts : (trees : List Proc) (t : Proc) → PartsStandBelow trees → Has trees t → HasAll trees (parts t)
has_parts trees t stand has = has_below trees has.0 (parts t) (stand has.0 t has.1)

more_left : (old ps qs : List Proc) (u : Proc) → Has old u ⊎ IsInOne ps u → Has old u ⊎ IsInOne (ps ++ qs) u
more_left old ps qs u (inl h) = inl h
more_left old ps qs u (inr h) = inr (in_left ps qs u h)

more_both : (old mid ps qs : List Proc) (u : Proc) → ((w : Proc) → Has mid w → Has old w ⊎ IsInOne ps w) → Has mid u ⊎ IsInOne qs u → Has old u ⊎ IsInOne (ps ++ qs) u
more_both old mid ps qs u first (inl h) = more_left old ps qs u (first u h)
more_both old mid ps qs u first (inr h) = inr (in_right ps qs u h)

more_parts : (old : List Proc) (t u : Proc) → Has old u ⊎ IsInOne (parts t) u → Has old u ⊎ IsInOne (t ∷ []) u
more_parts old t u (inl h) = inl h
more_parts old t u (inr h) = inr (in_whole t u h)

more_whole : (old mid : List Proc) (t u : Proc) → ((w : Proc) → Has mid w → Has old w ⊎ IsInOne (parts t) w) → Has mid u ⊎ (t ≡ u) → Has old u ⊎ IsInOne (t ∷ []) u
more_whole old mid t u first (inl h) = more_parts old t u (first u h)
more_whole old mid t u first (inr e) = inr (is_whole t u e)

-- first the one processes and then the others
pub grows_both : (old mid new ps qs : List Proc) → Grows old mid ps → Grows mid new qs → Grows old new (ps ++ qs)
grows_both old mid new ps qs g h = record {
  front = λ k t s. h.front k t (g.front k t s);
  known = λ stand has.
      let first : mid ≡ old = g.known stand (has_front old ps qs has) in
      h.known (subst PartsStandBelow (sym first) stand) (subst (λ (ts : List Proc). HasAll ts qs) (sym first) (has_back old ps qs has)) ∙ first;
  only = λ u has. more_both old mid ps qs u g.only (h.only u has);
}

-- where not all of the processes were put
pub grows_less : (old new ps qs : List Proc) → Grows old new ps → Grows old new (ps ++ qs)
grows_less old new ps qs g = record { front = g.front; known = λ stand has. g.known stand (has_front old ps qs has); only = λ u has. more_left old ps qs u (g.only u has) }

-- the sub-processes first, and then the process
pub grows_whole : (old mid new : List Proc) (t : Proc) → Grows old mid (parts t) → IsFront mid new → (Has mid t → new ≡ mid) → AddsOne mid new t → Grows old new (t ∷ [])
grows_whole old mid new t g front known only = record {
  front = λ k q s. front k q (g.front k q s);
  known = λ stand has.
      let first : mid ≡ old = g.known stand (has_parts old t stand has.0) in
      known (subst (λ (ts : List Proc). Has ts t) (sym first) has.0) ∙ first;
  only = λ u has. more_whole old mid t u g.only (only u has);
}

-- not even all of the sub-processes
pub grows_some : (old mid : List Proc) (t : Proc) → Grows old mid (parts t) → Grows old mid (t ∷ [])
grows_some old mid t g = grows_whole old mid mid t g (λ k q s. s) (λ has. refl) (λ u has. inl has)

-- a place of the list
pub within : (trees : List Proc) (p : ProcId) (t : Proc) → slice_get trees p.0 ≡ Some t → nat_lt p.0 (length trees) ≡ true
within trees p t h = lt-ltb p.0 (length trees) (slice_get_within trees p.0 t h)

pub at : (trees : List Proc) (p : ProcId) (t : Proc) → slice_get trees p.0 ≡ Some t → tree_at trees p ≡ t
at trees p t h = get_or_from_slice_get trees p.0 t proc.Stop h

pub stand_below : (trees : List Proc) (ids : List ProcId) (ts : List Proc) → StandAt trees ids ts → all_below (length trees) ids ≡ true
stand_below trees [] [] h = refl
stand_below trees (id ∷ ids) (t ∷ ts) h = and_from (nat_lt id.0 (length trees)) (all_below (length trees) ids) (within trees id t h.0) (stand_below trees ids ts h.1)
stand_below trees _ _ h = absurd h

pub stand_trees : (trees : List Proc) (ids : List ProcId) (ts : List Proc) → StandAt trees ids ts → map (tree_at trees) ids ≡ ts
stand_trees trees [] [] h = refl
stand_trees trees (id ∷ ids) (t ∷ ts) h = λ i. at trees id t h.0 i ∷ stand_trees trees ids ts h.1 i
stand_trees trees _ _ h = absurd h

-- one place more, in a list that has grown
pub stand_push : (old new : List Proc) → IsFront old new → (ids : List ProcId) (ts : List Proc) (id : ProcId) (t : Proc) → StandAt old ids ts → slice_get new id.0 ≡ Some t → StandAt new (ids ++ id ∷ []) (ts ++ t ∷ [])
stand_push old new front [] [] id t h g = (g, tt)
stand_push old new front (q ∷ ids) (u ∷ ts) id t h g = (front q.0 u h.0, stand_push old new front ids ts id t h.1 g)
stand_push old new front _ _ id t h g = absurd h

-- the node's process after its sub-processes
pub grows_node : (old mid new : List Proc) (t : Proc) (n : Layer) → Grows old mid (parts t) → StandsFor mid n t → IsFront mid new → (Has mid (layer_tree mid n) → new ≡ mid)
    → AddsOne mid new (layer_tree mid n) → Grows old new (t ∷ [])
grows_node old mid new t n g stands front known only =
    grows_whole old mid new t g front (subst (λ (q : Proc). Has mid q → new ≡ mid) stands.tree known) (subst (λ (q : Proc). AddsOne mid new q) stands.tree only)

-- one process more of a list
pub grows_more : (old mid new ps : List Proc) (i : ℕ) (x : Proc) → i < length ps → x ≡ get_or ps i x → Grows old mid (take i ps) → Grows mid new (x ∷ []) → Grows old new (take (i + 1) ps)
grows_more old mid new ps i x h e g k =
    subst (λ (ts : List Proc). Grows old new ts) (sym (take_more ps i x h ∙ ap (λ (y : Proc). take i ps ++ y ∷ []) (sym e))) (grows_both old mid new (take i ps) (x ∷ []) g k)

pub grows_end : (old new ps : List Proc) (i : ℕ) → Grows old new (take i ps) → Grows old new ps
grows_end old new ps i g = subst (λ (ts : List Proc). Grows old new ts) (take-append-drop i ps) (grows_less old new (take i ps) (drop i ps) g)

pub stand_more : (old new : List Proc) → IsFront old new → (ids : List ProcId) (ps : List Proc) (i : ℕ) (x : Proc) (id : ProcId) → i < length ps → x ≡ get_or ps i x
    → StandAt old ids (take i ps) → slice_get new id.0 ≡ Some x → StandAt new (ids ++ id ∷ []) (take (i + 1) ps)
stand_more old new front ids ps i x id h e g k =
    subst (λ (ts : List Proc). StandAt new (ids ++ id ∷ []) ts) (sym (take_more ps i x h ∙ ap (λ (y : Proc). take i ps ++ y ∷ []) (sym e))) (stand_push old new front ids (take i ps) id x g k)
