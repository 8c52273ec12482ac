-- Where a process has a list of steps, each of them is one by the relation, and the process lacks no value.
use Rattle.process_steps.proofs.Prelude.{◌≡◌, ℕ, zero, suc, ◌+◌, ◌<◌, ◌≤◌, IfOk, Bool, true, false, if◌then◌else◌, Option, Some, None, Ok, Err, List, [], ◌∷◌, map, slice_get, refl, sym, subst, inl, inr, arith, greatest, has, proc_depth, Outcome, and_then, given_by, proc_with, sets_of, EventPart, Expr, Gen, Field, Head, Proc, Proc-F, out-Proc, roll-Proc, roll-out-Proc, Content, arguments_in, called, events_in, set_in, truth_in, event_of, Renamed, images, renaming_in, Step, each_put, Move, in_choice, in_hiding, in_renaming, in_sequence, silent_to, some_silent_to, steps_of, steps_of_choice, steps_of_layer, steps_within, event_among, of_channel, sets_among, ways_to_fill, Silent, Visible, Tick, Atom, One}
use Rattle.process_steps.specs.LacksNone as lacking
use Rattle.process_steps.specs.Step as step
use Rattle.process_steps.proofs.Chains.{and_of, from_each, if_any, if_of, there_each, through, where_ok}
use Rattle.process_steps.proofs.Depths.{depth_at, depth_of_out, layer_depth, no_depth, put_depths}
use Rattle.process_steps.proofs.Fillings.{fields_lack_none, fills_sound, nothing_put}
use Rattle.process_steps.proofs.Members.{Among, from_joined, from_map, placed}
use Rattle.csp_atoms.specs.declared.atom.Atom.TheVariants as atom
use Rattle.csp_program.specs.declared.processes.Head.TheVariants as head
use Rattle.csp_program.specs.declared.processes.Proc.TheVariants as proc

-- the process does this step
abbrev pub Does : Content → Proc → Move → Type 0
Does p t m = Step p t m.0 m.1

-- the process lacks no value, and each step of the list is one of its own
pub record Reads (p : Content) (t : Proc) (moves : List Move) : Type 0 where
  pub lacks : lacking.LacksNone p t
  pub steps : (m : Move) → Among moves m → Does p t m

-- ---- what a step of a part makes of the whole

module _ (p : Content) where
  sequence_step : (q r : Proc) (m : Move) → Does p q m → Does p (proc.Seq q r) (in_sequence r m.0 m.1)
  sequence_step q r (Silent, s) h = step.sequence_silent q r s h
  sequence_step q r (Visible e, s) h = step.sequence_event q r s e h
  sequence_step q r (Tick, s) h = step.sequence_tick q r s h

  choice_step : (qs : List Proc) (k : ℕ) (q : Proc) → slice_get qs k ≡ Some q → (m : Move) → Does p q m → Does p (proc.External qs) (in_choice qs k m.0 m.1)
  choice_step qs k q at (Silent, r) h = step.external_silent qs k q r at h
  choice_step qs k q at (Visible e, r) h = step.external_event qs k q r e at h
  choice_step qs k q at (Tick, r) h = step.external_tick qs k q r at h

  hiding_step : (q : Proc) (s : Expr) (hidden : List ℕ) → events_in p s ≡ Ok hidden → (m : Move) → Does p q m → Does p (proc.Hide q s) (in_hiding s hidden m.0 m.1)
  hiding_step q s hidden is (Silent, r) h = step.hide_silent q r s h
  hiding_step q s hidden is (Visible e, r) h = hidden_or_seen (has hidden e) refl
    where
      hidden_or_seen : (b : Bool) → has hidden e ≡ b → Step p (proc.Hide q s) (if b then Silent else Visible e) (proc.Hide r s)
      hidden_or_seen true g = step.hide_hidden q r s e hidden is g h
      hidden_or_seen false g = step.hide_seen q r s e hidden is g h
  hiding_step q s hidden is (Tick, r) h = step.hide_tick q r s h

  renaming_step : (q : Proc) (pairs : List (EventPart × EventPart)) (gens : List Gen) (renamed : List Renamed) → renaming_in p pairs gens ≡ Ok renamed
      → (m : Move) → Does p q m → (n : Move) → Among (in_renaming pairs gens renamed m.0 m.1) n → Does p (proc.Rename q pairs gens) n
  renaming_step q pairs gens renamed is (Silent, r) h n (inl e) = subst (Does p (proc.Rename q pairs gens)) e (step.rename_silent q r pairs gens h)
  renaming_step q pairs gens renamed is (Silent, r) h n (inr g) = absurd g
  renaming_step q pairs gens renamed is (Visible e, r) h n g =
      let from = from_map (λ d. (Visible d, proc.Rename r pairs gens)) (images renamed e) n g in
      let at = placed (images renamed e) from.source from.among in
      subst (Does p (proc.Rename q pairs gens)) from.made (step.rename_event q r pairs gens e from.source at.0 renamed is at.1 h)
  renaming_step q pairs gens renamed is (Tick, r) h n (inl e) = subst (Does p (proc.Rename q pairs gens)) e (step.rename_tick q r pairs gens h)
  renaming_step q pairs gens renamed is (Tick, r) h n (inr g) = absurd g

-- ---- what is known of a part is known of the whole

module _ (p : Content) (q t : Proc) (lacks : lacking.LacksNone p q → lacking.LacksNone p t) where
  whole_reads : ((m : Move) → Does p q m → Does p t m) → (o : Outcome (List Move)) → IfOk o (Reads p q) → IfOk o (Reads p t)
  whole_reads does (Ok moves) h = record { lacks = lacks h.lacks; steps = λ m g. does m (h.steps m g) }
  whole_reads does (Err k) h = tt

  mapped_reads : (f : Move → Move) → ((m : Move) → Does p q m → Does p t (f m)) → (moves : List Move) → Reads p q moves → Reads p t (map f moves)
  mapped_reads f does moves h = record {
    lacks = lacks h.lacks;
    steps = λ m g. let from = from_map f moves m g in subst (Does p t) from.made (does from.source (h.steps from.source from.among));
  }

-- ---- form by form

module _ (p : Content) (n : ℕ) (below : Proc → Outcome (List Move)) (inner : (q : Proc) → proc_depth q < n → IfOk (below q) (Reads p q)) where
  -- what is known of a process below that has a list
  part : (q : Proc) → proc_depth q < n → (moves : List Move) → below q ≡ Ok moves → Reads p q moves
  part q deep moves is = if_of _ (below q) moves is (inner q deep)

  only_step : (t : Proc) (m : Move) → lacking.LacksNone p t → Does p t m → Reads p t (m ∷ [])
  only_step t m lacks does = record { lacks = lacks; steps = λ n h. elim h [ inl e ↦ subst (Does p t) e does | inr g ↦ absurd g ] }

  choice_reads : (qs : List Proc) → 1 + greatest (map proc_depth qs) ≤ n → IfOk (steps_of_choice p below qs) (Reads p (proc.External qs))
  choice_reads qs deep = if_any _ (steps_of_choice p below qs) (λ all is. record {
    lacks = lacking.external qs (λ k q at.
        let d = depth_at qs k q at in
        let moves = through _ _ (below q) (there_each _ 0 qs (and_of _ (steps_of_choice p below qs) all is tt) k q at) in
        (part q (omega (arith, d, deep)) moves.0 moves.1).lacks);
    steps = λ m h.
        let from = from_each _ m 0 qs (and_of _ (steps_of_choice p below qs) all is h) in
        let q = from.source in
        let d = depth_at qs from.place q from.at in
        let moves = through _ _ (below q) from.has in
        let made = from_map (λ n. in_choice qs (0 + from.place) n.0 n.1) moves.0 m moves.2 in
        let same : from.place ≡ 0 + from.place = omega arith in
        let at = subst (λ j. slice_get qs j ≡ Some q) same from.at in
        subst (Does p (proc.External qs)) made.made
        (choice_step p qs (0 + from.place) q at made.source ((part q (omega (arith, d, deep)) moves.0 moves.1).steps made.source made.among));
  })

  internal_steps : (qs : List Proc) (m : Move) → Among (silent_to qs) m → Does p (proc.Internal qs) m
  internal_steps qs m h =
      let from = from_map (λ q. (Silent, q)) qs m h in
      let at = placed qs from.source from.among in
      subst (Does p (proc.Internal qs)) from.made (step.internal qs at.0 from.source at.1)

  channel_reads : (c : ℕ) (fields : List Field) (q : Proc) (sets : Option (List (List Atom))) → sets_of (slice_get p.channels c) ≡ sets
      → IfOk (and_then (of_channel c sets) (λ among. and_then (ways_to_fill p (sets_among among) fields [] []) (λ ways.
      Ok (map (λ w. (Visible (event_among p among w.1), proc_with (given_by w.0) q)) ways)))) (Reads p (proc.Prefix (head.Channel c) fields q))
  channel_reads c fields q None is = tt
  channel_reads c fields q (Some sets) is = where_ok _ _ (ways_to_fill p sets fields [] []) (λ ways filled. record {
    lacks = lacking.prefix c fields q sets is (fields_lack_none p sets fields [] [] (and_of _ _ ways filled tt));
    steps = λ m h.
        let from = from_map (λ w. (Visible (event_of p c w.1), proc_with (given_by w.0) q)) ways m h in
        let w = from.source in
        subst (Does p (proc.Prefix (head.Channel c) fields q)) from.made
        (step.prefix c fields q sets w.0 w.1 is (fills_sound p sets fields [] [] w (and_of _ _ ways filled from.among)));
  })

  prefix_reads : (k : Head) (fields : List Field) (q : Proc) → IfOk (steps_of_layer p below (Proc-F.Prefix k fields q)) (Reads p (proc.Prefix k fields q))
  prefix_reads (head.Channel c) fields q = channel_reads c fields q (sets_of (slice_get p.channels c)) refl
  prefix_reads (head.Put (One (atom.Event e))) [] q =
      let t = proc.Prefix (head.Put (One (atom.Event e))) [] q in
      only_step t (Visible e, proc_with (given_by []) q) (lacking.event e q) (subst (λ r. Does p t (Visible e, r)) (sym (nothing_put q)) (step.event e q))
  prefix_reads _ fields q = tt

  guard_reads : (c : Expr) (q : Proc) → proc_depth q < n → (b : Bool) → truth_in p c ≡ Ok b → IfOk (if b then below q else Ok []) (Reads p (proc.Guard c q))
  guard_reads c q deep true is = whole_reads p q (proc.Guard c q) (lacking.guard_true c q is) (λ m. step.guard c q m.1 m.0 is) (below q) (inner q deep)
  guard_reads c q deep false is = record { lacks = lacking.guard_false c q is; steps = λ m h. absurd h }

  if_reads : (c : Expr) (q r : Proc) → proc_depth q < n → proc_depth r < n → (b : Bool) → truth_in p c ≡ Ok b
      → IfOk (if b then below q else below r) (Reads p (proc.If c q r))
  if_reads c q r deep other true is = whole_reads p q (proc.If c q r) (lacking.if_true c q r is) (λ m. step.if_true c q r m.1 m.0 is) (below q) (inner q deep)
  if_reads c q r deep other false is = whole_reads p r (proc.If c q r) (lacking.if_false c q r is) (λ m. step.if_false c q r m.1 m.0 is) (below r) (inner r other)

  each_internal_reads : (x : ℕ) (s : Expr) (q : Proc) (atoms : List Atom) → set_in p s ≡ Ok atoms
      → IfOk (some_silent_to (each_put x atoms q)) (Reads p (proc.EachInternal x s q))
  each_internal_reads x s q [] is = tt
  each_internal_reads x s q (a ∷ atoms) is = record {
    lacks = lacking.each_internal x s q a atoms is;
    steps = λ m h. step.each_internal x s q m.1 m.0 (a ∷ atoms) is (internal_steps (each_put x (a ∷ atoms) q) m h);
  }

  layer_reads : (d : Proc-F Proc) → layer_depth d ≤ n → IfOk (steps_of_layer p below d) (Reads p (roll-Proc d))
  unfolding layer_depth
  layer_reads Proc-F.Stop deep = rw proc.rolls-Stop (record { lacks = lacking.stop; steps = λ m h. absurd h })
  layer_reads (Proc-F.Prefix k fields q) deep = rw (proc.rolls-Prefix k fields q) (prefix_reads k fields q)
  layer_reads (Proc-F.Guard c q) deep = rw (proc.rolls-Guard c q) (where_ok _ _ (truth_in p c) (λ b is. guard_reads c q (omega arith) b is))
  layer_reads (Proc-F.If c q r) deep = rw (proc.rolls-If c q r) (where_ok _ _ (truth_in p c) (λ b is. if_reads c q r (omega arith) (omega arith) b is))
  layer_reads (Proc-F.External qs) deep = rw (proc.rolls-External qs) (choice_reads qs deep)
  layer_reads (Proc-F.Internal qs) deep = rw (proc.rolls-Internal qs) (record { lacks = lacking.internal qs; steps = internal_steps qs })
  layer_reads (Proc-F.EachExternal x s q) deep = rw (proc.rolls-EachExternal x s q) (where_ok _ _ (set_in p s) (λ atoms is.
      let e = put_depths x q atoms in
      whole_reads p (proc.External (each_put x atoms q)) (proc.EachExternal x s q) (lacking.each_external x s q atoms is) (λ m. step.each_external x s q m.1 m.0 atoms is)
      (steps_of_choice p below (each_put x atoms q)) (choice_reads (each_put x atoms q) (omega (arith, e)))))
  layer_reads (Proc-F.EachInternal x s q) deep = rw (proc.rolls-EachInternal x s q) (where_ok _ _ (set_in p s) (each_internal_reads x s q))
  layer_reads (Proc-F.Hide q s) deep = rw (proc.rolls-Hide q s) (where_ok _ _ (below q) (λ moves at. where_ok _ _ (events_in p s) (λ hidden is.
      mapped_reads p q (proc.Hide q s) (λ lacks. lacking.hide q s hidden lacks is) (λ m. in_hiding s hidden m.0 m.1) (hiding_step p q s hidden is) moves (part q (omega arith) moves at))))
  layer_reads (Proc-F.Rename q pairs gens) deep = rw (proc.rolls-Rename q pairs gens) (where_ok _ _ (below q) (λ moves at. where_ok _ _ (renaming_in p pairs gens) (λ renamed is.
      let known = part q (omega arith) moves at in record {
        lacks = lacking.rename q pairs gens renamed known.lacks is;
        steps = λ m h.
            let from = from_joined (λ n. in_renaming pairs gens renamed n.0 n.1) moves m h in
            renaming_step p q pairs gens renamed is from.source (known.steps from.source from.among) m from.made;
      })))
  layer_reads (Proc-F.Call d args) deep = rw (proc.rolls-Call d args) (where_ok _ _ (arguments_in p args) (λ vs worth. where_ok _ _ (called (slice_get p.defs d) vs) (λ q is.
      only_step (proc.Call d args) (Silent, q) (lacking.call d args vs q worth is) (step.call d args vs q worth is))))
  layer_reads Proc-F.Skip deep = rw proc.rolls-Skip (only_step proc.Skip (Tick, proc.Ended) lacking.skip step.skip)
  layer_reads (Proc-F.Seq q r) deep = rw (proc.rolls-Seq q r) (where_ok _ _ (below q) (λ moves at.
      mapped_reads p q (proc.Seq q r) (lacking.sequence q r) (λ m. in_sequence r m.0 m.1) (sequence_step p q r) moves (part q (omega arith) moves at)))
  layer_reads Proc-F.Ended deep = rw proc.rolls-Ended (record { lacks = lacking.ended; steps = λ m h. absurd h })

within_reads : (p : Content) (n : ℕ) (t : Proc) → proc_depth t ≤ n → IfOk (steps_within p n t) (Reads p t)
unfolding steps_within
within_reads p zero t deep = absurd (no_depth t deep)
within_reads p (suc n) t deep =
    let e = depth_of_out t in
    subst (λ z. IfOk (steps_of_layer p (steps_within p n) (out-Proc t)) (Reads p z)) (roll-out-Proc t)
    (layer_reads p (layer_depth (out-Proc t)) (steps_within p n) (λ q lt. within_reads p n q (omega arith)) (out-Proc t) (omega arith))

-- where the process t has the list
pub reads : (p : Content) (t : Proc) → IfOk (steps_of p t) (Reads p t)
unfolding steps_of
reads p t = within_reads p (proc_depth t) t (omega arith)
