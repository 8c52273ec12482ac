-- What a renaming makes of an event. Each pair of it names, under each binding of its generators, all events that begin with the old side; such an
-- event becomes the one that begins with the new side and has the same fields after it. One event may become several, and several one. An event
-- that no pair names stays itself.
use Rattle.std.specs.Prelude.{ℕ, nat_eq, Option, Some, None, Ok, List, [], ◌∷◌, ◌++◌, map, length, drop, slice_get}
use Rattle.std.specs.List.{filter}
use Rattle.csp_program.specs.Prelude.{Outcome, and_then, Env, Meaning, front_events, joined, meaning, one_event, turn, under_each, uses_within, values_of}
use Rattle.csp_program.specs.declared.expressions.EventPart.{EventPart, out-EventPart}
use Rattle.csp_program.specs.declared.expressions.Expr.{Expr}
use Rattle.csp_program.specs.declared.expressions.Gen.{Gen}
use Rattle.csp_program.specs.declared.programs.Channel.{Channel}
use Rattle.csp_program.specs.declared.programs.Content.{Content}
use Rattle.csp_program.specs.declared.programs.EventInfo.{EventInfo}
use Rattle.process_steps.specs.Needed.{all_outcomes}
use Rattle.csp_atoms.specs.declared.value.Value.{Value}
use Rattle.csp_atoms.specs.declared.value.Value.TheVariants.{One}

-- an old event with a new one
abbrev pub Renamed : Type 0
Renamed = ℕ × ℕ

-- the event of a channel that has these values
abbrev pub event_with : List Channel → ℕ → List Value → Outcome ℕ
event_with channels c vs = and_then (front_events channels c (map (λ v env. Ok v) vs) []) one_event

-- the values of an event but for the first ones, so many as are given
abbrev pub values_after : ℕ → Option EventInfo → List Value
values_after given None = []
values_after given (Some event) = map (λ a. One a) (drop given event.fields)

-- what expressions mean under names
abbrev pub meanings : Content → List Expr → List Meaning
meanings p es = map (meaning (uses_within p (length p.defs)) p.channels) es

module _ (p : Content) where
  -- the events of the old side under a binding, each with its new one: the old side first, then the values of the new side, then each new event
  abbrev pub pair_renamed : Env → EventPart × EventPart → Outcome (List Renamed)
  pair_renamed env pair =
      let old = out-EventPart pair.0 in
      let new = out-EventPart pair.1 in
      and_then (front_events p.channels old.channel (meanings p old.fields) env) (λ es.
      and_then (values_of (meanings p new.fields) env) (λ vs.
      all_outcomes (λ e. and_then (event_with p.channels new.channel (vs ++ values_after (length old.fields) (slice_get p.events e))) (λ d. Ok (e, d))) es))

  -- what all pairs rename under each binding, or the first fault
  abbrev pub renaming_in : List (EventPart × EventPart) → List Gen → Outcome (List Renamed)
  renaming_in pairs gens =
      let turns = map (turn (uses_within p (length p.defs)) p.channels) gens in
      and_then (all_outcomes (λ o. o) (under_each turns [] (λ env. map (pair_renamed env) pairs))) (λ lists. Ok (joined lists))

-- the event itself, unless there are others in its place
abbrev pub or_itself : ℕ → List ℕ → List ℕ
or_itself e [] = e ∷ []
or_itself e (d ∷ ds) = d ∷ ds

-- what an event becomes
abbrev pub images : List Renamed → ℕ → List ℕ
images renamed e = or_itself e (map (λ r. r.1) (filter (λ r. nat_eq r.0 e) renamed))
