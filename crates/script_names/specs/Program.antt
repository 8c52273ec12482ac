-- The program of a script.
use Rattle.std.specs.Prelude.{◌≡◌, ◌+◌, ◌≤◌, ◌∷◌}
use Rattle.script_names.specs.Sources.{ℕ, Some, Ok, List, [], sum, map, MOST_EVENTS, Atom, StandsIn, row_count, event_table, Channel, Content, Decl, Script, Tree, Kind}
use Rattle.script_names.specs.Declaring.{Declares}
use Rattle.script_names.specs.FieldSets.{field_sets}
use Rattle.script_names.specs.Kinds.{AreKinds}
use Rattle.script_names.specs.Names.{meanings_of, none_yet}
use Rattle.script_names.specs.Once.{AreOnce}

-- the channels with their field sets, where there are so many events before them
abbrev pub with_sets : ℕ → List Channel → List (List (List Atom)) → List Channel
with_sets first [] all = []
with_sets first (channel ∷ channels) [] = []
with_sets first (channel ∷ channels) (sets ∷ all) =
    record channel { fields = Some sets; first = first } ∷ with_sets (first + row_count sets) channels all

-- how many events the channels with these field sets have
abbrev pub all_events : List (List (List Atom)) → ℕ
all_events all = sum (map row_count all)

-- with the event table of these channels
abbrev pub with_events : Content → List Channel → Content
with_events p channels = record p { channels = channels; events = event_table channels }

-- An assertion is in the script; its names are declared once; its declarations, by the kinds of its definitions, put `plain` into the program; and the
-- program is that with the field sets of its channels and their event table, of at most 16,384 events.
pub record IsProgram (script : Script) (p : Content) : Type 0 where
  pub kinds : List Kind
  pub are : AreKinds script.decls kinds
  pub asserted : (t : Tree) × StandsIn script.decls (Decl.Assert t)
  pub once : AreOnce script.decls
  pub plain : Content
  pub sets : List (List (List Atom))
  pub declared : Declares (meanings_of script.decls) kinds plain (λ types sets. field_sets plain types ≡ Ok sets) none_yet script.decls plain sets
  pub few : all_events sets ≤ MOST_EVENTS
  pub is : p ≡ with_events plain (with_sets 0 plain.channels sets)
