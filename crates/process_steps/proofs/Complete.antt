-- Each step by the relation stands in the list of a process, where it has one; a process that lacks no value has one.
use Rattle.process_steps.proofs.Prelude.{◌≡◌, ℕ, ◌+◌, Bool, true, false, if◌then◌else◌, Some, Ok, List, [], ◌∷◌, map, slice_get, refl, ap, sym, subst, inl, arith, has, given_by, proc_with, sets_of, EventPart, Expr, Gen, Proc, Proc-F, Content, arguments_in, called, events_in, set_in, truth_in, event_of, Renamed, images, renaming_in, Step, each_put, call, each_external, each_internal, event, external_event, external_silent, external_tick, guard, hide_hidden, hide_seen, hide_silent, hide_tick, if_false, if_true, internal, prefix, rename_event, rename_silent, rename_tick, sequence_event, sequence_silent, sequence_tick, skip, Move, in_choice, in_hiding, in_renaming, in_sequence, silent_to, some_silent_to, steps_of, channel, of_channel, ways_to_fill, Silent, Visible, Tick, One, Label}
use Rattle.process_steps.specs.LacksNone as lacking
use Rattle.process_steps.proofs.Chains.{IsThere, Lists, each_there, if_of, lists_each, onward, then_there, where_is, where_ok}
use Rattle.process_steps.proofs.Depths.{steps_of_form}
use Rattle.process_steps.proofs.Fillings.{fields_there, fills_complete, nothing_put}
use Rattle.process_steps.proofs.Members.{Among, at_place, in_joined, in_map}
use Rattle.csp_atoms.specs.declared.atom.Atom.TheVariants as atom
use Rattle.csp_program.specs.declared.processes.Head.TheVariants as head
use Rattle.csp_program.specs.declared.processes.Proc.TheVariants as proc

some_lists : (qs : List Proc) (m : Move) → Among (silent_to qs) m → Lists (some_silent_to qs) m
some_lists [] m h = tt
some_lists (q ∷ qs) m h = h

module _ (p : Content) where
  -- a step of t is in its list, where there is one
  abbrev Listed : Proc → Move → Type 0
  Listed t m = Lists (steps_of p t) m

  choice_lists : (qs : List Proc) (k : ℕ) (q : Proc) → slice_get qs k ≡ Some q → (m : Move) → Listed q m → Listed (proc.External qs) (in_choice qs k m.0 m.1)
  choice_lists qs k q at m inner =
      let z : k ≡ 0 + k = omega arith in
      rw (steps_of_form p (Proc-F.External qs) (proc.rolls-External qs)) (
      lists_each _ (in_choice qs k m.0 m.1) 0 qs k q at (where_ok _ _ (steps_of p q) (λ moves is.
      subst (λ j. Among (map (λ n. in_choice qs j n.0 n.1) moves) (in_choice qs k m.0 m.1)) z
      (in_map (λ n. in_choice qs k n.0 n.1) moves m (if_of _ (steps_of p q) moves is inner)))))

  sequence_lists : (q r : Proc) (m : Move) → Listed q m → Listed (proc.Seq q r) (in_sequence r m.0 m.1)
  sequence_lists q r m inner =
      rw (steps_of_form p (Proc-F.Seq q r) (proc.rolls-Seq q r)) (where_ok _ _ (steps_of p q) (λ moves is.
      in_map (λ n. in_sequence r n.0 n.1) moves m (if_of _ (steps_of p q) moves is inner)))

  hiding_lists : (q : Proc) (s : Expr) (m : Move) → Listed q m → (n : Move) → ((hidden : List ℕ) → events_in p s ≡ Ok hidden → in_hiding s hidden m.0 m.1 ≡ n)
      → Listed (proc.Hide q s) n
  hiding_lists q s m inner n same =
      rw (steps_of_form p (Proc-F.Hide q s) (proc.rolls-Hide q s)) (where_ok _ _ (steps_of p q) (λ moves is. where_ok _ _ (events_in p s) (λ hidden e.
      subst (Among (map (λ n. in_hiding s hidden n.0 n.1) moves)) (same hidden e) (in_map (λ n. in_hiding s hidden n.0 n.1) moves m (if_of _ (steps_of p q) moves is inner)))))

  event_in_hiding : (q : Proc) (s : Expr) (r : Proc) (e : ℕ) (hidden : List ℕ) → events_in p s ≡ Ok hidden → (b : Bool) → has hidden e ≡ b → Listed q (Visible e, r)
      → Listed (proc.Hide q s) (if b then Silent else Visible e, proc.Hide r s)
  event_in_hiding q s r e hidden is b g inner = hiding_lists q s (Visible e, r) inner (if b then Silent else Visible e, proc.Hide r s) (λ other h.
      let same : hidden ≡ other = cc in
      ap (λ c. (if c then Silent else Visible e, proc.Hide r s)) (subst (λ z. has z e ≡ b) same g))

  renaming_lists : (q : Proc) (pairs : List (EventPart × EventPart)) (gens : List Gen) (m : Move) → Listed q m → (n : Move)
      → ((renamed : List Renamed) → renaming_in p pairs gens ≡ Ok renamed → Among (in_renaming pairs gens renamed m.0 m.1) n) → Listed (proc.Rename q pairs gens) n
  renaming_lists q pairs gens m inner n made =
      rw (steps_of_form p (Proc-F.Rename q pairs gens) (proc.rolls-Rename q pairs gens)) (where_ok _ _ (steps_of p q) (λ moves is. where_ok _ _ (renaming_in p pairs gens) (λ renamed e.
      in_joined (λ n. in_renaming pairs gens renamed n.0 n.1) moves m n (if_of _ (steps_of p q) moves is inner) (made renamed e))))

  pub lists : {t : Proc} {l : Label} {u : Proc} → Step p t l u → Listed t (l, u)
  lists skip = rw (steps_of_form p Proc-F.Skip proc.rolls-Skip) (inl refl)
  lists (prefix c fields q sets env row is fills) =
      let m : Move = (Visible (event_of p c row), proc_with (given_by env) q) in
      rw (steps_of_form p (Proc-F.Prefix (head.Channel c) fields q) (proc.rolls-Prefix (head.Channel c) fields q)) (
      where_is _ _ (of_channel c (sets_of (slice_get p.channels c))) (channel c sets) (ap (of_channel c) is) (
      where_ok _ _ (ways_to_fill p sets fields [] []) (λ ways e.
      in_map (λ w. (Visible (event_of p c w.1), proc_with (given_by w.0) q)) ways (env, row) (if_of _ (ways_to_fill p sets fields [] []) ways e (fills_complete p fills)))))
  lists (event e q) =
      subst (λ o. Lists o (Visible e, q)) (sym (steps_of_form p (Proc-F.Prefix (head.Put (One (atom.Event e))) [] q) (proc.rolls-Prefix (head.Put (One (atom.Event e))) [] q))) (inl (ap (λ r. (Visible e, r)) (nothing_put q)))
  lists (call d args vs q worth is) =
      rw (steps_of_form p (Proc-F.Call d args) (proc.rolls-Call d args)) (
      where_is _ _ (arguments_in p args) vs worth (where_is _ _ (called (slice_get p.defs d) vs) q is (inl refl)))
  lists (if_true c q r s l is inner) =
      rw (steps_of_form p (Proc-F.If c q r) (proc.rolls-If c q r)) (where_is _ _ (truth_in p c) true is (lists inner))
  lists (if_false c q r s l is inner) =
      rw (steps_of_form p (Proc-F.If c q r) (proc.rolls-If c q r)) (where_is _ _ (truth_in p c) false is (lists inner))
  lists (guard c q r l is inner) =
      rw (steps_of_form p (Proc-F.Guard c q) (proc.rolls-Guard c q)) (where_is _ _ (truth_in p c) true is (lists inner))
  lists (sequence_silent q r s inner) = sequence_lists q r (Silent, s) (lists inner)
  lists (sequence_event q r s e inner) = sequence_lists q r (Visible e, s) (lists inner)
  lists (sequence_tick q r s inner) = sequence_lists q r (Tick, s) (lists inner)
  lists (external_silent qs k q r at inner) = choice_lists qs k q at (Silent, r) (lists inner)
  lists (external_event qs k q r e at inner) = choice_lists qs k q at (Visible e, r) (lists inner)
  lists (external_tick qs k q r at inner) = choice_lists qs k q at (Tick, r) (lists inner)
  lists (internal qs k q at) =
      rw (steps_of_form p (Proc-F.Internal qs) (proc.rolls-Internal qs)) (in_map (λ q. (Silent, q)) qs q (at_place qs k q at))
  lists (each_external x s q r l atoms is inner) =
      rw (steps_of_form p (Proc-F.EachExternal x s q) (proc.rolls-EachExternal x s q)) (where_is _ _ (set_in p s) atoms is
      (subst (λ o. Lists o (l, r)) (steps_of_form p (Proc-F.External (each_put x atoms q)) (proc.rolls-External (each_put x atoms q))) (lists inner)))
  lists (each_internal x s q r l atoms is inner) =
      rw (steps_of_form p (Proc-F.EachInternal x s q) (proc.rolls-EachInternal x s q)) (where_is _ _ (set_in p s) atoms is
      (some_lists (each_put x atoms q) (l, r) (subst (λ o. Lists o (l, r)) (steps_of_form p (Proc-F.Internal (each_put x atoms q)) (proc.rolls-Internal (each_put x atoms q))) (lists inner))))
  lists (hide_silent q r s inner) = hiding_lists q s (Silent, r) (lists inner) (Silent, proc.Hide r s) (λ hidden is. refl)
  lists (hide_hidden q r s e hidden is g inner) = event_in_hiding q s r e hidden is true g (lists inner)
  lists (hide_seen q r s e hidden is g inner) = event_in_hiding q s r e hidden is false g (lists inner)
  lists (hide_tick q r s inner) = hiding_lists q s (Tick, r) (lists inner) (Tick, proc.Ended) (λ hidden is. refl)
  lists (rename_silent q r pairs gens inner) = renaming_lists q pairs gens (Silent, r) (lists inner) (Silent, proc.Rename r pairs gens) (λ renamed is. inl refl)
  lists (rename_event q r pairs gens e d k renamed is at inner) =
      renaming_lists q pairs gens (Visible e, r) (lists inner) (Visible d, proc.Rename r pairs gens) (λ other h.
      let same : renamed ≡ other = cc in
      in_map (λ d. (Visible d, proc.Rename r pairs gens)) (images other e) d (at_place (images other e) k d (subst (λ z. slice_get (images z e) k ≡ Some d) same at)))
  lists (rename_tick q r pairs gens inner) = renaming_lists q pairs gens (Tick, r) (lists inner) (Tick, proc.Ended) (λ renamed is. inl refl)

  -- where no value is lacking there is a list
  pub there : {t : Proc} → lacking.LacksNone p t → IsThere (steps_of p t)
  there lacking.stop = rw (steps_of_form p Proc-F.Stop proc.rolls-Stop) tt
  there lacking.skip = rw (steps_of_form p Proc-F.Skip proc.rolls-Skip) tt
  there lacking.ended = rw (steps_of_form p Proc-F.Ended proc.rolls-Ended) tt
  there (lacking.prefix c fields q sets is lacks) = rw (steps_of_form p (Proc-F.Prefix (head.Channel c) fields q) (proc.rolls-Prefix (head.Channel c) fields q)) (
      onward _ _ (of_channel c (sets_of (slice_get p.channels c))) (channel c sets) (ap (of_channel c) is) (
      then_there _ (ways_to_fill p sets fields [] []) (fields_there p lacks []) (λ ways. tt)))
  there (lacking.event e q) = subst IsThere (sym (steps_of_form p (Proc-F.Prefix (head.Put (One (atom.Event e))) [] q) (proc.rolls-Prefix (head.Put (One (atom.Event e))) [] q))) tt
  there (lacking.guard_true c q is h) = rw (steps_of_form p (Proc-F.Guard c q) (proc.rolls-Guard c q)) (onward _ _ (truth_in p c) true is (there h))
  there (lacking.guard_false c q is) = rw (steps_of_form p (Proc-F.Guard c q) (proc.rolls-Guard c q)) (onward _ _ (truth_in p c) false is tt)
  there (lacking.if_true c q r is h) = rw (steps_of_form p (Proc-F.If c q r) (proc.rolls-If c q r)) (onward _ _ (truth_in p c) true is (there h))
  there (lacking.if_false c q r is h) = rw (steps_of_form p (Proc-F.If c q r) (proc.rolls-If c q r)) (onward _ _ (truth_in p c) false is (there h))
  there (lacking.external qs each) = rw (steps_of_form p (Proc-F.External qs) (proc.rolls-External qs)) (
      each_there _ 0 qs (λ k q at. then_there _ (steps_of p q) (there (each k q at)) (λ moves. tt)))
  there (lacking.internal qs) = rw (steps_of_form p (Proc-F.Internal qs) (proc.rolls-Internal qs)) tt
  there (lacking.each_external x s q atoms is h) = rw (steps_of_form p (Proc-F.EachExternal x s q) (proc.rolls-EachExternal x s q)) (
      onward _ _ (set_in p s) atoms is (subst IsThere (steps_of_form p (Proc-F.External (each_put x atoms q)) (proc.rolls-External (each_put x atoms q))) (there h)))
  there (lacking.each_internal x s q a atoms is) = rw (steps_of_form p (Proc-F.EachInternal x s q) (proc.rolls-EachInternal x s q)) (onward _ _ (set_in p s) (a ∷ atoms) is tt)
  there (lacking.hide q s hidden h is) = rw (steps_of_form p (Proc-F.Hide q s) (proc.rolls-Hide q s)) (
      then_there _ (steps_of p q) (there h) (λ moves. onward _ _ (events_in p s) hidden is tt))
  there (lacking.rename q pairs gens renamed h is) = rw (steps_of_form p (Proc-F.Rename q pairs gens) (proc.rolls-Rename q pairs gens)) (
      then_there _ (steps_of p q) (there h) (λ moves. onward _ _ (renaming_in p pairs gens) renamed is tt))
  there (lacking.call d args vs q worth is) = rw (steps_of_form p (Proc-F.Call d args) (proc.rolls-Call d args)) (
      onward _ _ (arguments_in p args) vs worth (onward _ _ (called (slice_get p.defs d) vs) q is tt))
  there (lacking.sequence q r h) = rw (steps_of_form p (Proc-F.Seq q r) (proc.rolls-Seq q r)) (then_there _ (steps_of p q) (there h) (λ moves. tt))
