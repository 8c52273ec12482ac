-- What a renaming comes to as it is evaluated, for the contracts of the functions that do so.
use Rattle.std.specs.Prelude.{◌≡◌, ◌++◌, ◌+◌, ℕ, nat_lt, if◌then◌else◌, Result, Ok, Err, List, [], ◌∷◌, map, drop, length, slice_get, take}
use Rattle.dl_limits.specs.declared.TheConstants.{MOST_BINDINGS}
use Rattle.csp_program.specs.Prelude.{Outcome, and_then, Env, sets_of, turn, uses_within, walked}
use Rattle.csp_program.specs.declared.expressions.EventPart.{EventPart, out-EventPart}
use Rattle.csp_program.specs.declared.expressions.Expr.{Expr}
use Rattle.csp_program.specs.declared.expressions.Gen.{Gen}
use Rattle.csp_program.specs.declared.kinds.ValueKind.TheVariants.{Kind, SetLimit}
use Rattle.csp_program.specs.declared.programs.Content.{Content}
use Rattle.csp_program.specs.declared.programs.EventInfo.{EventInfo}
use Rattle.csp_values.specs.Worth.{front_worth, worths}
use Rattle.process_steps.specs.Prelude.{each_joined, Renamed, event_with, pair_renamed}
use Rattle.csp_atoms.specs.declared.atom.Atom.{Atom}
use Rattle.csp_atoms.specs.declared.value.Value.{Value}
use Rattle.csp_atoms.specs.declared.value.Value.TheVariants.{One}
use Rattle.csp_atoms.specs.declared.atom.Atom.TheVariants as atom
use Rattle.csp_program.specs.declared.expressions.Expr.TheVariants as expr
use Rattle.step_values.specs.declared.renaming.Tally.{Tally}
use Rattle.value_operators.specs.Prelude.{count_with, EvalFault, IsFault}

-- how many bindings a renaming has had, and what it has renamed so far
pub record Gathering : Type 0 where
  pub bindings : ℕ
  pub renamed : List Renamed

-- the pairs from the left
abbrev pub pairs_renamed : Content → Env → List (EventPart × EventPart) → Outcome (List Renamed)
pairs_renamed p env pairs = each_joined (λ k pair. pair_renamed p env pair) 0 pairs

-- one more binding, of at most 1,048,576
abbrev pub binding_renamed : Content → List (EventPart × EventPart) → Env → Gathering → Outcome Gathering
binding_renamed p pairs env state =
    if nat_lt state.bindings MOST_BINDINGS
    then and_then (pairs_renamed p env pairs) (λ more. Ok (record { bindings = state.bindings + 1; renamed = state.renamed ++ more }))
    else Err SetLimit

abbrev pub gathering_of : Tally → Gathering
gathering_of tally = record { bindings = tally.bindings; renamed = tally.renamed }

-- what a call that walks generators answers
abbrev pub GivesTally : Result Tally EvalFault → Outcome Gathering → Type 0
GivesTally (Ok tally) outcome = outcome ≡ Ok (gathering_of tally)
GivesTally (Err fault) outcome = IsFault fault outcome

-- the bindings of generators
unfoldable pub renamed_walk : Content → List (EventPart × EventPart) → List Gen → Env → Gathering → Outcome Gathering
renamed_walk p pairs gens env state = walked (map (turn (uses_within p (length p.defs)) p.channels) gens) (binding_renamed p pairs) env state

-- an event is needed
abbrev pub as_event : Value → Outcome ℕ
as_event (One (atom.Event e)) = Ok e
as_event _ = Err Kind

-- the event of a channel that has these values as its first fields and these atoms after them
abbrev pub new_event : Content → ℕ → List Value → List Atom → Outcome ℕ
new_event p c vs atoms = event_with p.channels c (vs ++ map (λ a. One a) atoms)

-- the values as expressions
abbrev pub literals : List Value → List Expr
literals vs = map (λ v. expr.Lit v) vs

-- an event with its new one, which comes from the values of its fields but for the first ones, so many as are given
abbrev pub renamed_as : (List Atom → Outcome ℕ) → ℕ → ℕ → EventInfo → Outcome (List Renamed)
renamed_as new given e info = and_then (new (drop given info.fields)) (λ d. Ok ((e, d) ∷ []))

-- what is renamed, with what a pair renames, as it is walked: the front of the old side, the values of the new side, then each event of the old side
unfoldable pub pair_walked : Content → Env → EventPart × EventPart → List Renamed → Outcome (List Renamed)
pair_walked p env pair renamed =
    let old = out-EventPart pair.0 in
    let new = out-EventPart pair.1 in
    let given = length old.fields in
    let count = count_with (sets_of (slice_get p.channels old.channel)) given in
    and_then (front_worth p (length p.defs) env old.channel old.fields) (λ first.
    and_then (worths p (length p.defs) env new.fields) (λ vs.
    and_then (each_joined (renamed_as (new_event p new.channel vs) given) first (take count (drop first p.events))) (λ more.
    Ok (renamed ++ more))))
