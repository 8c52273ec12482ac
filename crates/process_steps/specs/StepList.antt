-- The steps of a process as a list, or the first fault that is met where their values are needed: fields and operands from the left, values in
-- rising order, the set of a hiding and the pairs of a renaming after the steps of the process below, and also where that has none.
use Rattle.std.specs.Prelude.{◌≡◌, ℕ, zero, suc, if◌then◌else◌, Some, Ok, Err, List, [], ◌∷◌, map, slice_get, slice_set}
use Rattle.csp_base.specs.Members.{has}
use Rattle.csp_program.specs.Prelude.{proc_depth, joined, Outcome, and_then, given_by, proc_with}
use Rattle.csp_program.specs.declared.expressions.EventPart.{EventPart}
use Rattle.csp_program.specs.declared.expressions.Expr.{Expr}
use Rattle.csp_program.specs.declared.expressions.Gen.{Gen}
use Rattle.csp_program.specs.declared.kinds.ValueKind.TheVariants.{EmptyChoice}
use Rattle.csp_program.specs.declared.processes.Proc.{Proc}
use Rattle.csp_program.specs.declared.processes.Proc.TheOpen.{Proc-F}
use Rattle.csp_program.specs.declared.processes.Proc.TheViews.{out-Proc}
use Rattle.csp_program.specs.declared.programs.Content.{Content}
use Rattle.process_steps.specs.Needed.{arguments_in, called, events_in, set_in, truth_in}
use Rattle.process_steps.specs.Ways.{each_joined, event_among, of_head, sets_among, ways_to_fill}
use Rattle.process_steps.specs.Renaming.{Renamed, images, renaming_in}
use Rattle.process_steps.specs.Step.{each_put}
use Rattle.csp_program.specs.declared.processes.Proc.TheVariants as proc
use Rattle.process_steps.specs.declared.label.Label.{Label}
use Rattle.process_steps.specs.declared.label.Label.TheVariants.{Silent, Visible, Tick}

-- a label, and the process after the step
abbrev pub Move : Type 0
Move = Label × Proc

-- the step stands in the list
abbrev pub ListsMove : List Move → Label → Proc → Type 0
ListsMove moves l u = (k : ℕ) × (slice_get moves k ≡ Some (l, u))

-- What a step of a part makes of the whole: of a sequence with r as its second part,
abbrev pub in_sequence : Proc → Label → Proc → Move
in_sequence r Silent s = (Silent, proc.Seq s r)
in_sequence r (Visible e) s = (Visible e, proc.Seq s r)
in_sequence r Tick s = (Silent, r)

-- of an external choice, in which the part is the operand at the place k,
abbrev pub in_choice : List Proc → ℕ → Label → Proc → Move
in_choice qs k Silent r = (Silent, proc.External (slice_set qs k r))
in_choice qs k (Visible e) r = (Visible e, r)
in_choice qs k Tick r = (Tick, r)

-- of a hiding,
abbrev pub in_hiding : Expr → List ℕ → Label → Proc → Move
in_hiding s hidden Silent r = (Silent, proc.Hide r s)
in_hiding s hidden (Visible e) r = (if has hidden e then Silent else Visible e, proc.Hide r s)
in_hiding s hidden Tick r = (Tick, proc.Ended)

-- and of a renaming, in which an event may become several.
abbrev pub in_renaming : List (EventPart × EventPart) → List Gen → List Renamed → Label → Proc → List Move
in_renaming pairs gens renamed Silent r = (Silent, proc.Rename r pairs gens) ∷ []
in_renaming pairs gens renamed (Visible e) r = map (λ d. (Visible d, proc.Rename r pairs gens)) (images renamed e)
in_renaming pairs gens renamed Tick r = (Tick, proc.Ended) ∷ []

-- a silent step to each of the processes
abbrev pub silent_to : List Proc → List Move
silent_to qs = map (λ q. (Silent, q)) qs

-- a choice of one of no processes is none
abbrev pub some_silent_to : List Proc → Outcome (List Move)
some_silent_to [] = Err EmptyChoice
some_silent_to (q ∷ qs) = Ok (silent_to (q ∷ qs))

-- the steps of one layer of a process, where those of the processes below are known
module _ (p : Content) (below : Proc → Outcome (List Move)) where
  -- the operands from the left
  abbrev pub steps_of_choice : List Proc → Outcome (List Move)
  steps_of_choice qs = each_joined (λ k q. and_then (below q) (λ moves. Ok (map (λ m. in_choice qs k m.0 m.1) moves))) 0 qs

  abbrev pub steps_of_layer : Proc-F Proc → Outcome (List Move)
  steps_of_layer Proc-F.Stop = Ok []
  steps_of_layer (Proc-F.Prefix h fields q) =
      and_then (of_head p h) (λ among. and_then (ways_to_fill p (sets_among among) fields [] []) (λ ways.
      Ok (map (λ w. (Visible (event_among p among w.1), proc_with (given_by w.0) q)) ways)))
  steps_of_layer (Proc-F.Guard c q) = and_then (truth_in p c) (λ b. if b then below q else Ok [])
  steps_of_layer (Proc-F.If c q r) = and_then (truth_in p c) (λ b. if b then below q else below r)
  steps_of_layer (Proc-F.External qs) = steps_of_choice qs
  steps_of_layer (Proc-F.Internal qs) = Ok (silent_to qs)
  steps_of_layer (Proc-F.EachExternal x s q) = and_then (set_in p s) (λ atoms. steps_of_choice (each_put x atoms q))
  steps_of_layer (Proc-F.EachInternal x s q) = and_then (set_in p s) (λ atoms. some_silent_to (each_put x atoms q))
  steps_of_layer (Proc-F.Hide q s) =
      and_then (below q) (λ moves. and_then (events_in p s) (λ hidden. Ok (map (λ m. in_hiding s hidden m.0 m.1) moves)))
  steps_of_layer (Proc-F.Rename q pairs gens) =
      and_then (below q) (λ moves. and_then (renaming_in p pairs gens) (λ renamed. Ok (joined (map (λ m. in_renaming pairs gens renamed m.0 m.1) moves))))
  steps_of_layer (Proc-F.Call d args) =
      and_then (arguments_in p args) (λ vs. and_then (called (slice_get p.defs d) vs) (λ q. Ok ((Silent, q) ∷ [])))
  steps_of_layer Proc-F.Skip = Ok ((Tick, proc.Ended) ∷ [])
  steps_of_layer (Proc-F.Seq q r) = and_then (below q) (λ moves. Ok (map (λ m. in_sequence r m.0 m.1) moves))
  steps_of_layer Proc-F.Ended = Ok []

-- the steps of a process no deeper than n
unfoldable pub steps_within : Content → ℕ → Proc → Outcome (List Move)
steps_within p zero t = Ok []
steps_within p (suc n) t = steps_of_layer p (steps_within p n) (out-Proc t)

-- The steps of a process. A call is not entered, and a value in place of a name leaves a process as deep as it is.
unfoldable pub steps_of : Content → Proc → Outcome (List Move)
steps_of p t = steps_within p (proc_depth t) t
