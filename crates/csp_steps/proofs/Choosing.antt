-- The steps of an operand of a choice.
use Rattle.csp_steps.proofs.Prelude.{◌≡◌, ℕ, ◌+◌, ◌<◌, ◌≤◌, true, nat_lt, zero, suc, Ok, Err, Some, List, [], ◌∷◌, ◌++◌, map, length, get_or, slice_get, slice_set, take, drop, refl, ap, sym, ◌∙◌, subst, arith, lt-ltb, and_from, get_or-map, length-map, map-append, map-set, take_all, slice_get_within, first_so, second_so, proc_depth, Outcome, and_then, one, proc_with, ValueKind, Proc, Content, Atom, One, each_put, Move, in_choice, steps_of, steps_of_choice, at, AreDifferent, IsFront, all_below, tree_at, ProcId, all_within, AreAdded, AreAt, AreEach, AreMoves, IsMove, seen, AreFirsts, AreFirstsAfter, none, StepTo, left, left_all, left_end, left_fault, left_next, take_read, map_push, greatest}
use Rattle.csp_steps.proofs.Alike.{added_within, seen_firsts}
use Rattle.csp_steps.proofs.Firsts.{firsts_append, map_firsts}
use Rattle.csp_steps.proofs.Places.{all_within_stay, at_stay, below_at, front_both, one_place, seen_stay, still_within, tree_stays, trees_stay}

abbrev pub of_operand : Content → List Proc → ℕ → Proc → Outcome (List Move)
of_operand p qs k q = and_then (steps_of p q) (λ moves. Ok (map (λ m. in_choice qs k m.0 m.1) moves))

-- What the operands before the place i make of the choice.
pub record IsChoiceSoFar (p : Content) (qs trees : List Proc) (numbered : List StepTo) (i : ℕ) : Type 0 where
  pub moves : List Move
  pub rest : steps_of_choice p (steps_of p) qs ≡ left (of_operand p qs) (λ ms. ms) moves i (drop i qs)
  pub within : all_within (length trees) numbered ≡ true
  pub firsts : AreFirsts moves (map (seen trees) numbered)

pub choice_begin : (p : Content) (qs trees : List Proc) (numbered : List StepTo) → numbered ≡ [] → IsChoiceSoFar p qs trees numbered 0
choice_begin p qs trees numbered e = subst (λ (ss : List StepTo). IsChoiceSoFar p qs trees ss 0) (sym e) (record {
  moves = [];
  rest = left_all (of_operand p qs) 0 qs;
  within = refl;
  firsts = none [];
})

pub choice_end : (p : Content) (qs trees : List Proc) (numbered made : List StepTo) (i : ℕ) → length qs ≤ i → IsChoiceSoFar p qs trees numbered i → made ≡ numbered → AreEach trees made (steps_of_choice p (steps_of p) qs)
choice_end p qs trees numbered made i past h is = subst (λ (ss : List StepTo). AreEach trees ss (steps_of_choice p (steps_of p) qs)) (sym is) (record {
  moves = h.moves;
  has = h.rest ∙ left_end (of_operand p qs) (λ ms. ms) refl (λ xs ys. refl) h.moves qs i i past;
  within = h.within;
  firsts = h.firsts;
})

-- the processes with one more value put in
module _ (old mid new : List Proc) (f : IsFront old mid) (g : IsFront mid new) (id : ProcId) (within : id.0 < length old) where
  pub next_put : (x : ℕ) (atoms : List Atom) (i : ℕ) (a : Atom) → i < length atoms → a ≡ get_or atoms i a → (ids more : List ProcId) (made : ProcId)
      → AreAt mid ids (each_put x (take i atoms) (tree_at old id)) → slice_get new made.0 ≡ Some (proc_with (one x (One a)) (tree_at mid id)) → more ≡ ids ++ made ∷ []
      → AreAt new more (each_put x (take (i + 1) atoms) (tree_at old id))
  next_put x atoms i a lt is ids more made h process grown =
      let q = tree_at old id in
      let all : each_put x (take (i + 1) atoms) q ≡ each_put x (take i atoms) q ++ proc_with (one x (One a)) q ∷ [] =
      ap (λ xs. each_put x xs q) (take_read atoms i a lt is) ∙ map_push (λ b. proc_with (one x (One b)) q) (take i atoms) a in
      let here : slice_get new made.0 ≡ Some (proc_with (one x (One a)) q) = process ∙ ap (λ (t : Proc). Some (proc_with (one x (One a)) t)) (tree_stays old mid f id within) in
      subst (λ (qs : List ProcId). AreAt new qs (each_put x (take (i + 1) atoms) q)) (sym grown)
      (subst (λ (ts : List Proc). AreAt new (ids ++ made ∷ []) ts) (sym all) (one_place new ids (each_put x (take i atoms) q) made (proc_with (one x (One a)) q) (at_stay mid new g ids (each_put x (take i atoms) q) h) here))

pub all_put : (new : List Proc) (x : ℕ) (atoms : List Atom) (q : Proc) (ids : List ProcId) (i : ℕ) → length atoms ≤ i → AreAt new ids (each_put x (take i atoms) q) → AreAt new ids (each_put x atoms q)
all_put new x atoms q ids i past h = subst (λ (xs : List Atom). AreAt new ids (each_put x xs q)) (take_all i atoms past) h

-- a step to a place at which the process stands
pub as_move : (trees : List Proc) (s : StepTo) (m : Move) → s.label ≡ m.0 → slice_get trees s.to.0 ≡ Some m.1 → IsMove trees s m
as_move trees s m l h = record { same = λ i. (l i, at trees s.to m.1 h i); within = slice_get_within trees s.to.0 m.1 h }

-- the place at an index, whatever stands for one past the end
pub at_any : (ids : List ProcId) (k : ℕ) (d e : ProcId) → k < length ids → get_or ids k d ≡ get_or ids k e
at_any [] k d e lt = absurd (omega (arith, lt))
at_any (id ∷ ids) zero d e lt = refl
at_any (id ∷ ids) (suc k) d e lt = at_any ids k d e (omega (arith, lt))

-- the process at an index of places
pub operand_at : (trees : List Proc) (ids : List ProcId) (k : ℕ) (id : ProcId) → id ≡ get_or ids k id → k < length ids → tree_at trees id ≡ get_or (map (tree_at trees) ids) k (tree_at trees id)
operand_at trees ids k id is lt = ap (tree_at trees) is ∙ sym (get_or-map (tree_at trees) ids k id (tree_at trees id) lt)

-- the choice with another place in place of an operand's
pub with_other : (trees : List Proc) (ids : List ProcId) (k : ℕ) (id : ProcId) → map (tree_at trees) (slice_set ids k id) ≡ slice_set (map (tree_at trees) ids) k (tree_at trees id)
with_other trees ids k id = map-set (tree_at trees) ids k id

pub below_other : (count : ℕ) (ids : List ProcId) (k : ℕ) (id : ProcId) → all_below count ids ≡ true → id.0 < count → all_below count (slice_set ids k id) ≡ true
below_other count [] k id h lt = refl
below_other count (q ∷ ids) zero id h lt = and_from (nat_lt id.0 count) (all_below count ids) (lt-ltb id.0 count lt) (second_so (nat_lt q.0 count) (all_below count ids) h)
below_other count (q ∷ ids) (suc k) id h lt =
    and_from (nat_lt q.0 count) (all_below count (slice_set ids k id)) (first_so (nat_lt q.0 count) (all_below count ids) h)
    (below_other count ids k id (second_so (nat_lt q.0 count) (all_below count ids) h) lt)

-- The next operand: its steps are taken in the list mid, and what they make of the choice is added there.
module _ (p : Content) (old mid now new : List Proc) (f : IsFront old mid) (g : IsFront mid now) (ids : List ProcId) (below : all_below (length old) ids ≡ true)
    (k : ℕ) (id : ProcId) (lt : k < length ids) (is : id ≡ get_or ids k id) where
  id_within : id.0 < length old
  id_within = subst (λ (q : ProcId). q.0 < length old) (sym is) (below_at (length old) ids k id below lt)

  pub operand_in : id.0 < length mid
  operand_in = still_within old mid f id id_within

  abbrev qs : List Proc
  qs = map (tree_at old) ids

  at_place : tree_at old id ≡ get_or qs k (tree_at old id)
  at_place = operand_at old ids k id is lt

  pub operand_fault : (moves : List Move) (kind : ValueKind) → steps_of p (tree_at mid id) ≡ Err kind → left (of_operand p qs) (λ ms. ms) moves k (drop k qs) ≡ Err kind
  operand_fault moves kind e =
      left_fault (of_operand p qs) (λ ms. ms) refl (λ xs ys. refl) moves qs k k (tree_at old id) kind (omega (arith, lt, length-map ids (tree_at old))) at_place
      (ap (λ (o : Outcome (List Move)). and_then (and_then o (λ ms. Ok (map (λ m. in_choice qs k m.0 m.1) ms))) (λ ys. Ok (moves ++ ys)))
      (ap (steps_of p) (sym (tree_stays old mid f id id_within)) ∙ e))

  -- what stands once the operands before the next one are there
  pub operand_next : (numbered : List StepTo) → IsChoiceSoFar p qs mid numbered k → (found made more : List StepTo) → AreEach now found (steps_of p (tree_at mid id))
      → (slice : List StepTo) → slice ≡ found → IsFront now new → AreMoves new made (map (λ m. in_choice (map (tree_at now) ids) k m.0 m.1) (map (seen now) slice))
      → (added : List StepTo) → added ≡ made → AreDifferent new → AreAdded numbered added more → IsChoiceSoFar p qs new more (k + 1)
  operand_next numbered h found made more each slice alike front moves added is_made different joined =
      let trees_are : map (tree_at now) ids ≡ qs = trees_stay old now (front_both old mid now f g) ids below in
      let whole : IsFront mid new = front_both mid now new g front in
      let here : map (seen new) numbered ≡ map (seen mid) numbered = seen_stay mid new whole numbered h.within in
      let still = all_within_stay mid new whole numbered h.within in
      let inside = ap (all_within (length new)) is_made ∙ moves.within in
      let grown : map (seen new) more ≡ map (seen new) numbered ++ map (seen new) joined.more = ap (map (seen new)) joined.grown ∙ map-append (seen new) numbered joined.more in
      let mine : map (seen new) added ≡ map (λ m. in_choice qs k m.0 m.1) (map (seen now) found) =
      ap (map (seen new)) is_made ∙ (moves.same ∙ (λ i. map (λ m. in_choice (trees_are i) k m.0 m.1) (map (seen now) (alike i)))) in
      record {
        moves = h.moves ++ map (λ m. in_choice qs k m.0 m.1) each.moves;
        rest = h.rest ∙
            left_next (of_operand p qs) (λ ms. ms) refl (λ xs ys. refl) h.moves (h.moves ++ map (λ m. in_choice qs k m.0 m.1) each.moves) qs k k (tree_at old id) (omega (arith, lt, length-map ids (tree_at old))) at_place
            (ap (λ (o : Outcome (List Move)). and_then (and_then o (λ ms. Ok (map (λ m. in_choice qs k m.0 m.1) ms))) (λ ys. Ok (h.moves ++ ys)))
            (ap (steps_of p) (sym (tree_stays old mid f id id_within)) ∙ each.has));
        within = added_within (length new) numbered added more joined still inside;
        firsts = subst (λ ms. AreFirsts (h.moves ++ map (λ m. in_choice qs k m.0 m.1) each.moves) ms) (sym grown)
            (firsts_append h.moves (map (λ m. in_choice qs k m.0 m.1) each.moves) [] (map (seen new) numbered) (map (seen new) joined.more)
            (subst (λ ms. AreFirsts h.moves ms) (sym here) h.firsts)
            (map_firsts (λ m. in_choice qs k m.0 m.1) each.moves (map (seen now) found) (map (seen new) numbered) (map (seen new) joined.more) each.firsts
            (subst (λ ms. AreFirstsAfter ms (map (seen new) numbered) (map (seen new) joined.more)) mine (seen_firsts new different added numbered joined.more inside still joined.firsts))));
      }

  -- an operand is no deeper than the deepest
  pub operand_less : proc_depth (tree_at mid id) ≤ greatest (map proc_depth qs)
  operand_less =
      let e = ap proc_depth (tree_stays old mid f id id_within) in
      let h = deepest ids k id is lt in
      omega (arith, e, h)
    where
      deepest : (js : List ProcId) (j : ℕ) (q : ProcId) → q ≡ get_or js j q → j < length js → proc_depth (tree_at old q) ≤ greatest (map proc_depth (map (tree_at old) js))
      deepest [] j q here more = absurd (omega (arith, more))
      deepest (r ∷ js) zero q here more = let e = ap (λ (s : ProcId). proc_depth (tree_at old s)) here in omega (arith, e)
      deepest (r ∷ js) (suc j) q here more = let h = deepest js j q here (omega (arith, more)) in omega (arith, h)
