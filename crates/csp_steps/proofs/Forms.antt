-- The steps of each form of a process, as a look at it finds them, and how deep the processes below it are.
use Rattle.csp_steps.proofs.Prelude.{◌≡◌, ℕ, suc, ◌<◌, Bool, true, false, if◌then◌else◌, Ok, Err, List, [], ◌∷◌, map, length, slice_get, refl, ap, sym, ◌∙◌, subst, arith, ltb-true, lt-ltb, and_from, first_so, second_so, Result, nat_lt, proc_depth, Outcome, and_then, given_by, proc_with, EventPart, Expr, Gen, ValueKind, EmptyChoice, Field, Proc, Proc-F, Content, Atom, Value, arguments_in, called, set_in, truth_in, Among, event_among, of_head, sets_among, ways_to_fill, each_put, silent_to, some_silent_to, steps_of, steps_of_choice, Label, Silent, Visible, Tick, all_below, places, places_below, tree_at, tree_of, Node, ProcId, EvalFault, IsStart, filled, ways_by_number, all_within, AreAround, AreAt, AreOfChoice, AreThoseAt, GivesLook, IsListing, IsPlaceOf, seen, Look, StepTo, greatest, Head, depth_of, layer_depth, put_depths, steps_of_form, Start, all_below_more}
use Rattle.csp_program.specs.declared.processes.Proc.TheVariants as proc
use Rattle.csp_steps.proofs.Effects.{around_hide, around_rename, around_sequence}
use Rattle.csp_steps.proofs.Numbered.{moves_by_number}

module _ (p : Content) where
  -- a guard
  pub guard_steps : (c : Expr) (q : Proc) {o : Outcome Bool} → truth_in p c ≡ o → steps_of p (proc.Guard c q) ≡ and_then o (λ b. if b then steps_of p q else Ok [])
  guard_steps c q h = steps_of_form p (Proc-F.Guard c q) (proc.rolls-Guard c q) ∙ ap (λ o. and_then o (λ b. if b then steps_of p q else Ok [])) h

  pub guard_true : (trees : List Proc) (c : Expr) (id : ProcId) → id.0 < length trees → truth_in p c ≡ Ok true → AreThoseAt p trees id (proc.Guard c (tree_at trees id))
  unfolding layer_depth
  guard_true trees c id within h = record {
    same = guard_steps c (tree_at trees id) h;
    within = within;
    less = let e = depth_of (Proc-F.Guard c (tree_at trees id)) (proc.rolls-Guard c (tree_at trees id)) in omega (arith, e);
  }

  pub guard_false : (trees : List Proc) (c : Expr) (q : Proc) → truth_in p c ≡ Ok false → IsListing trees [] (steps_of p (proc.Guard c q))
  guard_false trees c q h = record { same = guard_steps c q h; within = refl }

  -- one of two processes
  pub if_steps : (c : Expr) (q r : Proc) {o : Outcome Bool} → truth_in p c ≡ o → steps_of p (proc.If c q r) ≡ and_then o (λ b. if b then steps_of p q else steps_of p r)
  if_steps c q r h = steps_of_form p (Proc-F.If c q r) (proc.rolls-If c q r) ∙ ap (λ o. and_then o (λ b. if b then steps_of p q else steps_of p r)) h

  pub if_true : (trees : List Proc) (c : Expr) (id other : ProcId) → id.0 < length trees → truth_in p c ≡ Ok true → AreThoseAt p trees id (proc.If c (tree_at trees id) (tree_at trees other))
  unfolding layer_depth
  if_true trees c id other within h = record {
    same = if_steps c (tree_at trees id) (tree_at trees other) h;
    within = within;
    less = let e = depth_of (Proc-F.If c (tree_at trees id) (tree_at trees other)) (proc.rolls-If c (tree_at trees id) (tree_at trees other)) in omega (arith, e);
  }

  pub if_false : (trees : List Proc) (c : Expr) (other id : ProcId) → id.0 < length trees → truth_in p c ≡ Ok false → AreThoseAt p trees id (proc.If c (tree_at trees other) (tree_at trees id))
  unfolding layer_depth
  if_false trees c other id within h = record {
    same = if_steps c (tree_at trees other) (tree_at trees id) h;
    within = within;
    less = let e = depth_of (Proc-F.If c (tree_at trees other) (tree_at trees id)) (proc.rolls-If c (tree_at trees other) (tree_at trees id)) in omega (arith, e);
  }

  -- choices
  pub external : (trees : List Proc) (ids : List ProcId) → all_below (length trees) ids ≡ true → AreOfChoice p trees ids (proc.External (map (tree_at trees) ids))
  unfolding layer_depth
  external trees ids below = record { same = steps_of_form p (Proc-F.External (map (tree_at trees) ids)) (proc.rolls-External (map (tree_at trees) ids)); within = below; less = let e = depth_of (Proc-F.External (map (tree_at trees) ids)) (proc.rolls-External (map (tree_at trees) ids)) in omega (arith, e) }

  pub each_external_steps : (x : ℕ) (s : Expr) (q : Proc) {o : Outcome (List Atom)} → set_in p s ≡ o
      → steps_of p (proc.EachExternal x s q) ≡ and_then o (λ found. steps_of_choice p (steps_of p) (each_put x found q))
  each_external_steps x s q h = steps_of_form p (Proc-F.EachExternal x s q) (proc.rolls-EachExternal x s q) ∙ ap (λ o. and_then o (λ found. steps_of_choice p (steps_of p) (each_put x found q))) h

  pub each_external : (trees : List Proc) (ids : List ProcId) (x : ℕ) (s : Expr) (q : Proc) (atoms : List Atom) → set_in p s ≡ Ok atoms → AreAt trees ids (each_put x atoms q)
      → AreOfChoice p trees ids (proc.EachExternal x s q)
  unfolding layer_depth
  each_external trees ids x s q atoms h at = record {
    same = each_external_steps x s q h ∙ ap (steps_of_choice p (steps_of p)) (sym at.same);
    within = at.within;
    less = let e = ap (λ ts. greatest (map proc_depth ts)) at.same in let f = depth_of (Proc-F.EachExternal x s q) (proc.rolls-EachExternal x s q) in let g = put_depths x q atoms in omega (arith, e, f, g);
  }

  -- silent steps to places
  to_each_seen : (trees : List Proc) (ids : List ProcId) → map (seen trees) (map (λ id. record { label = Silent; to = id }) ids) ≡ silent_to (map (tree_at trees) ids)
  to_each_seen trees [] = refl
  to_each_seen trees (id ∷ ids) = ap (λ ms. (Silent, tree_at trees id) ∷ ms) (to_each_seen trees ids)

  to_each_within : (count : ℕ) (ids : List ProcId) → all_below count ids ≡ true → all_within count (map (λ id. record { label = Silent; to = id }) ids) ≡ true
  to_each_within count [] h = refl
  to_each_within count (id ∷ ids) h =
      and_from (nat_lt id.0 count) (all_within count (map (λ id. record { label = Silent; to = id }) ids)) (first_so (nat_lt id.0 count) (all_below count ids) h)
      (to_each_within count ids (second_so (nat_lt id.0 count) (all_below count ids) h))

  pub internal : (trees : List Proc) (ids : List ProcId) (steps : List StepTo) → steps ≡ map (λ id. record { label = Silent; to = id }) ids → all_below (length trees) ids ≡ true
      → IsListing trees steps (steps_of p (proc.Internal (map (tree_at trees) ids)))
  internal trees ids steps e below = record {
    same = steps_of_form p (Proc-F.Internal (map (tree_at trees) ids)) (proc.rolls-Internal (map (tree_at trees) ids)) ∙ ap (λ ms. Ok ms) (sym (ap (map (seen trees)) e ∙ to_each_seen trees ids));
    within = ap (all_within (length trees)) e ∙ to_each_within (length trees) ids below;
  }

  some_of : (qs : List Proc) → 0 < length qs → some_silent_to qs ≡ Ok (silent_to qs)
  some_of [] more = absurd (omega (arith, more))
  some_of (q ∷ qs) more = refl

  length_put : (x : ℕ) (atoms : List Atom) (q : Proc) → length (each_put x atoms q) ≡ length atoms
  length_put x [] q = refl
  length_put x (a ∷ atoms) q = ap suc (length_put x atoms q)

  pub each_internal_steps : (x : ℕ) (s : Expr) (q : Proc) {o : Outcome (List Atom)} → set_in p s ≡ o → steps_of p (proc.EachInternal x s q) ≡ and_then o (λ found. some_silent_to (each_put x found q))
  each_internal_steps x s q h = steps_of_form p (Proc-F.EachInternal x s q) (proc.rolls-EachInternal x s q) ∙ ap (λ o. and_then o (λ found. some_silent_to (each_put x found q))) h

  pub each_internal : (trees : List Proc) (ids : List ProcId) (steps : List StepTo) (x : ℕ) (s : Expr) (q : Proc) (atoms : List Atom) → set_in p s ≡ Ok atoms → 0 < length atoms
      → AreAt trees ids (each_put x atoms q) → steps ≡ map (λ id. record { label = Silent; to = id }) ids → IsListing trees steps (steps_of p (proc.EachInternal x s q))
  each_internal trees ids steps x s q atoms h more at e = record {
    same = each_internal_steps x s q h ∙
        (some_of (each_put x atoms q) (let l = length_put x atoms q in omega (arith, l, more)) ∙
        ap (λ ms. Ok ms) (ap silent_to (sym at.same) ∙ sym (ap (map (seen trees)) e ∙ to_each_seen trees ids)));
    within = ap (all_within (length trees)) e ∙ to_each_within (length trees) ids at.within;
  }

  pub each_internal_none : (x : ℕ) (s : Expr) (q : Proc) (atoms : List Atom) → set_in p s ≡ Ok atoms → atoms ≡ [] → steps_of p (proc.EachInternal x s q) ≡ Err EmptyChoice
  each_internal_none x s q atoms h e = each_internal_steps x s q h ∙ ap (λ found. some_silent_to (each_put x found q)) e

  -- a call
  pub call_steps : (d : ℕ) (args : List Expr) {o : Outcome (List Value)} → arguments_in p args ≡ o
      → steps_of p (proc.Call d args) ≡ and_then o (λ ws. and_then (called (slice_get p.defs d) ws) (λ q. Ok ((Silent, q) ∷ [])))
  call_steps d args h =
      steps_of_form p (Proc-F.Call d args) (proc.rolls-Call d args) ∙ ap (λ o. and_then o (λ ws. and_then (called (slice_get p.defs d) ws) (λ q. Ok ((Silent, q) ∷ [])))) h

  one_within : (trees : List Proc) (l : Label) (id : ProcId) → id.0 < length trees → all_within (length trees) (record { label = l; to = id } ∷ []) ≡ true
  one_within trees l id within = and_from (nat_lt id.0 (length trees)) true (lt-ltb id.0 (length trees) within) refl

  pub call : (trees : List Proc) (d : ℕ) (args : List Expr) (vs : List Value) (id : ProcId) → arguments_in p args ≡ Ok vs → IsPlaceOf trees id (called (slice_get p.defs d) vs)
      → IsListing trees (record { label = Silent; to = id } ∷ []) (steps_of p (proc.Call d args))
  call trees d args vs id h at = record {
    same = call_steps d args h ∙ ap (λ o. and_then o (λ q. Ok ((Silent, q) ∷ []))) at.same;
    within = one_within trees Silent id at.within;
  }

  pub call_fault : (d : ℕ) (args : List Expr) (vs : List Value) (k : ValueKind) → arguments_in p args ≡ Ok vs → called (slice_get p.defs d) vs ≡ Err k → steps_of p (proc.Call d args) ≡ Err k
  call_fault d args vs k h e = call_steps d args h ∙ ap (λ o. and_then o (λ q. Ok ((Silent, q) ∷ []))) e

  -- a process that ends
  pub skip : (trees : List Proc) (id : ProcId) → IsPlaceOf trees id (Ok proc.Ended) → IsListing trees (record { label = Tick; to = id } ∷ []) (steps_of p proc.Skip)
  skip trees id at = record {
    same = steps_of_form p Proc-F.Skip proc.rolls-Skip ∙ ap (λ o. and_then o (λ q. Ok ((Tick, q) ∷ []))) at.same;
    within = one_within trees Tick id at.within;
  }

  pub stop : (trees : List Proc) → IsListing trees [] (steps_of p proc.Stop)
  stop trees = record { same = steps_of_form p Proc-F.Stop proc.rolls-Stop; within = refl }

  pub ended : (trees : List Proc) → IsListing trees [] (steps_of p proc.Ended)
  ended trees = record { same = steps_of_form p Proc-F.Ended proc.rolls-Ended; within = refl }

  -- a prefix
  prefix_steps : (h : Head) (fields : List Field) (q : Proc) (start : Start) (among : Among) → of_head p h ≡ Ok among → IsStart p start among
      → steps_of p (proc.Prefix h fields q) ≡ filled [] start.first q (ways_by_number p start.sets.now fields [] 0)
  prefix_steps h fields q start among e is =
      steps_of_form p (Proc-F.Prefix h fields q) (proc.rolls-Prefix h fields q) ∙
      ap (λ o. and_then o (λ found. and_then (ways_to_fill p (sets_among found) fields [] []) (λ ways. Ok (map (λ w. (Visible (event_among p found w.1), proc_with (given_by w.0) q)) ways)))) e ∙
      ap (λ sets. and_then (ways_to_fill p sets fields [] []) (λ ways. Ok (map (λ w. (Visible (event_among p among w.1), proc_with (given_by w.0) q)) ways))) is.sets ∙
      moves_by_number p (event_among p among) start.first q start.sets.now fields is.event is.few

  pub prefix : (trees : List Proc) (steps : List StepTo) (h : Head) (fields : List Field) (q : Proc) (start : Start) (among : Among) → of_head p h ≡ Ok among → IsStart p start among
      → IsListing trees steps (filled [] start.first q (ways_by_number p start.sets.now fields [] 0)) → IsListing trees steps (steps_of p (proc.Prefix h fields q))
  prefix trees steps h fields q start among e from is = record { same = prefix_steps h fields q start among e from ∙ is.same; within = is.within }

  pub prefix_fault : (h : Head) (fields : List Field) (q : Proc) (start : Start) (among : Among) (k : ValueKind) → of_head p h ≡ Ok among → IsStart p start among
      → filled [] start.first q (ways_by_number p start.sets.now fields [] 0) ≡ Err k → steps_of p (proc.Prefix h fields q) ≡ Err k
  prefix_fault h fields q start among k e from is = prefix_steps h fields q start among e from ∙ is

  pub head_fault : (h : Head) (fields : List Field) (q : Proc) (k : ValueKind) → of_head p h ≡ Err k → steps_of p (proc.Prefix h fields q) ≡ Err k
  head_fault h fields q k e =
      steps_of_form p (Proc-F.Prefix h fields q) (proc.rolls-Prefix h fields q) ∙
      ap (λ o. and_then o (λ found. and_then (ways_to_fill p (sets_among found) fields [] []) (λ ways. Ok (map (λ w. (Visible (event_among p found w.1), proc_with (given_by w.0) q)) ways)))) e

  -- operators round one process
  pub hide : (trees : List Proc) (id : ProcId) (s : Expr) → id.0 < length trees → AreAround p trees id (proc.Hide (tree_at trees id) s)
  unfolding layer_depth
  hide trees id s within = record {
    same = steps_of_form p (Proc-F.Hide (tree_at trees id) s) (proc.rolls-Hide (tree_at trees id) s) ∙ (λ i. and_then (steps_of p (tree_at trees id)) (λ moves. around_hide p (tree_at trees id) moves s i));
    within = within;
    less = let e = depth_of (Proc-F.Hide (tree_at trees id) s) (proc.rolls-Hide (tree_at trees id) s) in omega (arith, e);
  }

  pub rename : (trees : List Proc) (id : ProcId) (pairs : List (EventPart × EventPart)) (gens : List Gen) → id.0 < length trees → AreAround p trees id (proc.Rename (tree_at trees id) pairs gens)
  unfolding layer_depth
  rename trees id pairs gens within = record {
    same = steps_of_form p (Proc-F.Rename (tree_at trees id) pairs gens) (proc.rolls-Rename (tree_at trees id) pairs gens) ∙ (λ i. and_then (steps_of p (tree_at trees id)) (λ moves. around_rename p (tree_at trees id) moves pairs gens i));
    within = within;
    less = let e = depth_of (Proc-F.Rename (tree_at trees id) pairs gens) (proc.rolls-Rename (tree_at trees id) pairs gens) in omega (arith, e);
  }

  pub sequence : (trees : List Proc) (id : ProcId) (r : Proc) → id.0 < length trees → AreAround p trees id (proc.Seq (tree_at trees id) r)
  unfolding layer_depth
  sequence trees id r within = record {
    same = steps_of_form p (Proc-F.Seq (tree_at trees id) r) (proc.rolls-Seq (tree_at trees id) r) ∙ (λ i. and_then (steps_of p (tree_at trees id)) (λ moves. around_sequence p (tree_at trees id) moves r i));
    within = within;
    less = let e = depth_of (Proc-F.Seq (tree_at trees id) r) (proc.rolls-Seq (tree_at trees id) r) in omega (arith, e);
  }

  -- a look at a node is one at the process there
  pub look_at : (trees new : List Proc) (r : Result Look EvalFault) (n m : Node) (t : Proc) → tree_of trees n ≡ t → n ≡ m → GivesLook p new r (tree_of trees m) → GivesLook p new r t
  look_at trees new r n m t e is h = subst (GivesLook p new r) (ap (tree_of trees) (sym is) ∙ e) h

-- the places of a node
pub first_place : (count size : ℕ) (n m : Node) (q : ProcId) (rest : List ProcId) → places_below count n ≡ true → count < size → n ≡ m → places m ≡ q ∷ rest → q.0 < size
first_place count size n m q rest h lt is e =
    let below : all_below count (q ∷ rest) ≡ true = ap (all_below count) (sym e) ∙ (ap (places_below count) (sym is) ∙ h) in
    let less : q.0 < count = ltb-true q.0 count (first_so (nat_lt q.0 count) (all_below count rest) below) in
    omega (arith, less, lt)

pub second_place : (count size : ℕ) (n m : Node) (q r : ProcId) → places_below count n ≡ true → count < size → n ≡ m → places m ≡ q ∷ r ∷ [] → r.0 < size
second_place count size n m q r h lt is e =
    let below : all_below count (q ∷ r ∷ []) ≡ true = ap (all_below count) (sym e) ∙ (ap (places_below count) (sym is) ∙ h) in
    let rest : all_below count (r ∷ []) ≡ true = second_so (nat_lt q.0 count) (all_below count (r ∷ [])) below in
    let less : r.0 < count = ltb-true r.0 count (first_so (nat_lt r.0 count) (all_below count []) rest) in
    omega (arith, less, lt)

pub every_place : (count size : ℕ) (n m : Node) (qs : List ProcId) → places_below count n ≡ true → count < size → n ≡ m → places m ≡ qs → all_below size qs ≡ true
every_place count size n m qs h lt is e = all_below_more count size (omega (arith, lt)) qs (ap (all_below count) (sym e) ∙ (ap (places_below count) (sym is) ∙ h))
