-- What stays where the list of processes of a pool grows at its end.
use Rattle.csp_steps.proofs.Prelude.{◌≡◌, ℕ, zero, suc, ◌<◌, true, nat_lt, Some, Ok, List, [], ◌∷◌, ◌++◌, map, length, get_or, slice_get, refl, ap, sym, ◌∙◌, subst, arith, ltb-true, lt-ltb, and_from, slice_get-get_or, slice_get_within, get_or_from_slice_get, first_so, second_so, Proc, Move, at, IsFront, all_below, tree_at, ProcId, all_within, AreAt, AreMoves, IsMove, IsPlaceOf, seen, StepTo}
use Rattle.csp_program.specs.declared.processes.Proc.TheVariants as proc

pub front_same : (trees : List Proc) → IsFront trees trees
front_same trees k t h = h

pub front_both : (old mid new : List Proc) → IsFront old mid → IsFront mid new → IsFront old new
front_both old mid new f g k t h = g k t (f k t h)

pub standing : (trees : List Proc) (id : ProcId) → id.0 < length trees → slice_get trees id.0 ≡ Some (tree_at trees id)
standing trees id within = slice_get-get_or trees id.0 proc.Stop within

-- a place that is known is one of the list, and what stands there is the process
pub found : (trees : List Proc) (id : ProcId) (t : Proc) → slice_get trees id.0 ≡ Some t → IsPlaceOf trees id (Ok t)
found trees id t h = record { same = ap (λ u. Ok u) (sym (at trees id t h)); within = slice_get_within trees id.0 t h }

module _ (old new : List Proc) (front : IsFront old new) where
  pub still_within : (id : ProcId) → id.0 < length old → id.0 < length new
  still_within id within = slice_get_within new id.0 (tree_at old id) (front id.0 (tree_at old id) (standing old id within))

  pub tree_stays : (id : ProcId) → id.0 < length old → tree_at new id ≡ tree_at old id
  tree_stays id within = get_or_from_slice_get new id.0 (tree_at old id) proc.Stop (front id.0 (tree_at old id) (standing old id within))

  stays_so : (id : ProcId) → nat_lt id.0 (length old) ≡ true → nat_lt id.0 (length new) ≡ true
  stays_so id h = lt-ltb id.0 (length new) (still_within id (ltb-true id.0 (length old) h))

  pub all_below_stay : (ids : List ProcId) → all_below (length old) ids ≡ true → all_below (length new) ids ≡ true
  all_below_stay [] h = refl
  all_below_stay (id ∷ ids) h =
      and_from (nat_lt id.0 (length new)) (all_below (length new) ids) (stays_so id (first_so (nat_lt id.0 (length old)) (all_below (length old) ids) h))
      (all_below_stay ids (second_so (nat_lt id.0 (length old)) (all_below (length old) ids) h))

  pub trees_stay : (ids : List ProcId) → all_below (length old) ids ≡ true → map (tree_at new) ids ≡ map (tree_at old) ids
  trees_stay [] h = refl
  trees_stay (id ∷ ids) h =
      λ i. tree_stays id (ltb-true id.0 (length old) (first_so (nat_lt id.0 (length old)) (all_below (length old) ids) h)) i ∷
      trees_stay ids (second_so (nat_lt id.0 (length old)) (all_below (length old) ids) h) i

  pub all_within_stay : (steps : List StepTo) → all_within (length old) steps ≡ true → all_within (length new) steps ≡ true
  all_within_stay [] h = refl
  all_within_stay (s ∷ steps) h =
      and_from (nat_lt s.to.0 (length new)) (all_within (length new) steps) (stays_so s.to (first_so (nat_lt s.to.0 (length old)) (all_within (length old) steps) h))
      (all_within_stay steps (second_so (nat_lt s.to.0 (length old)) (all_within (length old) steps) h))

  pub seen_stay : (steps : List StepTo) → all_within (length old) steps ≡ true → map (seen new) steps ≡ map (seen old) steps
  seen_stay [] h = refl
  seen_stay (s ∷ steps) h =
      λ i. (s.label, tree_stays s.to (ltb-true s.to.0 (length old) (first_so (nat_lt s.to.0 (length old)) (all_within (length old) steps) h)) i) ∷
      seen_stay steps (second_so (nat_lt s.to.0 (length old)) (all_within (length old) steps) h) i

  pub at_stay : (ids : List ProcId) (ts : List Proc) → AreAt old ids ts → AreAt new ids ts
  at_stay ids ts h = record { same = trees_stay ids h.within ∙ h.same; within = all_below_stay ids h.within }

  pub moves_stay : (steps : List StepTo) (moves : List Move) → AreMoves old steps moves → AreMoves new steps moves
  moves_stay steps moves h = record { same = seen_stay steps h.within ∙ h.same; within = all_within_stay steps h.within }

-- lists with one more at their end
pub all_within_push : (count : ℕ) (steps : List StepTo) (s : StepTo) → all_within count steps ≡ true → s.to.0 < count → all_within count (steps ++ s ∷ []) ≡ true
all_within_push count [] s h lt = and_from (nat_lt s.to.0 count) true (lt-ltb s.to.0 count lt) refl
all_within_push count (r ∷ steps) s h lt =
    and_from (nat_lt r.to.0 count) (all_within count (steps ++ s ∷ [])) (first_so (nat_lt r.to.0 count) (all_within count steps) h)
    (all_within_push count steps s (second_so (nat_lt r.to.0 count) (all_within count steps) h) lt)

pub all_below_push : (count : ℕ) (ids : List ProcId) (id : ProcId) → all_below count ids ≡ true → id.0 < count → all_below count (ids ++ id ∷ []) ≡ true
all_below_push count [] id h lt = and_from (nat_lt id.0 count) true (lt-ltb id.0 count lt) refl
all_below_push count (q ∷ ids) id h lt =
    and_from (nat_lt q.0 count) (all_below count (ids ++ id ∷ [])) (first_so (nat_lt q.0 count) (all_below count ids) h)
    (all_below_push count ids id (second_so (nat_lt q.0 count) (all_below count ids) h) lt)

seen_push : (trees : List Proc) (steps : List StepTo) (s : StepTo) → map (seen trees) (steps ++ s ∷ []) ≡ map (seen trees) steps ++ seen trees s ∷ []
seen_push trees [] s = refl
seen_push trees (r ∷ steps) s = λ i. seen trees r ∷ seen_push trees steps s i

trees_push : (trees : List Proc) (ids : List ProcId) (id : ProcId) → map (tree_at trees) (ids ++ id ∷ []) ≡ map (tree_at trees) ids ++ tree_at trees id ∷ []
trees_push trees [] id = refl
trees_push trees (q ∷ ids) id = λ i. tree_at trees q ∷ trees_push trees ids id i

pub one_move : (trees : List Proc) (steps : List StepTo) (moves : List Move) (s : StepTo) (m : Move) → AreMoves trees steps moves → IsMove trees s m → AreMoves trees (steps ++ s ∷ []) (moves ++ m ∷ [])
one_move trees steps moves s m h g = record {
  same = seen_push trees steps s ∙ (λ i. h.same i ++ g.same i ∷ []);
  within = all_within_push (length trees) steps s h.within g.within;
}

pub one_place : (trees : List Proc) (ids : List ProcId) (ts : List Proc) (id : ProcId) (t : Proc) → AreAt trees ids ts → slice_get trees id.0 ≡ Some t → AreAt trees (ids ++ id ∷ []) (ts ++ t ∷ [])
one_place trees ids ts id t h g = record {
  same = trees_push trees ids id ∙ (λ i. h.same i ++ at trees id t g i ∷ []);
  within = all_below_push (length trees) ids id h.within (slice_get_within trees id.0 t g);
}

-- the process at an index of a list of places
pub below_at : (count : ℕ) (ids : List ProcId) (k : ℕ) (d : ProcId) → all_below count ids ≡ true → k < length ids → (get_or ids k d).0 < count
below_at count [] k d h lt = absurd (omega (arith, lt))
below_at count (id ∷ ids) zero d h lt = ltb-true id.0 count (first_so (nat_lt id.0 count) (all_below count ids) h)
below_at count (id ∷ ids) (suc k) d h lt = below_at count ids k d (second_so (nat_lt id.0 count) (all_below count ids) h) (omega (arith, lt))

pub within_at : (count : ℕ) (steps : List StepTo) (k : ℕ) (d : StepTo) → all_within count steps ≡ true → k < length steps → (get_or steps k d).to.0 < count
within_at count [] k d h lt = absurd (omega (arith, lt))
within_at count (s ∷ steps) zero d h lt = ltb-true s.to.0 count (first_so (nat_lt s.to.0 count) (all_within count steps) h)
within_at count (s ∷ steps) (suc k) d h lt = within_at count steps k d (second_so (nat_lt s.to.0 count) (all_within count steps) h) (omega (arith, lt))

pub within_of : (count : ℕ) (steps : List StepTo) (k : ℕ) (s : StepTo) → all_within count steps ≡ true → slice_get steps k ≡ Some s → s.to.0 < count
within_of count [] k s h g = cc
within_of count (r ∷ steps) zero s h g =
    let e : r ≡ s = cc in
    subst (λ (q : StepTo). q.to.0 < count) e (ltb-true r.to.0 count (first_so (nat_lt r.to.0 count) (all_within count steps) h))
within_of count (r ∷ steps) (suc k) s h g = within_of count steps k s (second_so (nat_lt r.to.0 count) (all_within count steps) h) g
