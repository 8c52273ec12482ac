-- The field sets of channels while a program is put together: those of a declaration are kept once for all of its channels. Contracts of the crate
-- that resolves scripts cite it.
use Rattle.std.specs.Prelude.{◌≡◌, ℕ, ◌+◌, Result, Ok, Err, List, [], ◌∷◌, ◌++◌, map, drop, length, replicate}
use Rattle.std.specs.Borrow.{Bor}
use Rattle.csp_atoms.specs.declared.atom.Atom.{Atom}
use Rattle.csp_program.specs.Prelude.{joined, Outcome}
use Rattle.csp_program.specs.declared.programs.Channel.{Channel}
use Rattle.script_names.specs.Resolved.{all_events}
use Rattle.value_operators.specs.Gives.{EvalFault, IsFault}
use Rattle.event_tables.specs.declared.sets.SharedSets.{SharedSets}

-- the field sets of each channel, one after another
abbrev pub spread : List SharedSets → List (List (List Atom))
spread [] = []
spread (one ∷ shared) = replicate one.channels one.sets ++ spread shared

-- field sets that are lent
abbrev pub lent : List (Bor (List (List Atom))) → List (List (List Atom))
lent all = map (λ sets. sets.now) all

-- the number of the first event after all, where the next channel's first one is first and the channels that are left have these sets
abbrev pub events_left : ℕ → List Channel → List (List (List Atom)) → ℕ
events_left first made all = first + all_events (drop (length made) all)

-- each list with each value of the set at its end
abbrev pub extended : List (List Atom) → List Atom → List (List Atom)
extended rows set = joined (map (λ row. map (λ a. row ++ a ∷ []) set) rows)

-- the list has grown by this set
abbrev pub GivesSet : List (List Atom) → List (List Atom) → Outcome (List Atom) → Type 0
GivesSet old new outcome = (set : List Atom) × (outcome ≡ Ok set) × (new ≡ old ++ set ∷ [])

-- what a call answers that puts one more set at the end
abbrev pub GivesOneMore : Result (Unit {0}) EvalFault → List (List Atom) → List (List Atom) → Outcome (List Atom) → Type 0
GivesOneMore (Ok _) old new outcome = GivesSet old new outcome
GivesOneMore (Err fault) old new outcome = IsFault fault outcome
