-- How lists, sets and traces are printed.
use Rattle.std.specs.Prelude.{ℕ, List, [], ◌∷◌, ◌++◌, codes}
use Rattle.csp_base.specs.Standard.{flat_map, decimal}
use Rattle.csp_program.specs.declared.programs.Content.{Content}
use Rattle.report.specs.EventText.{event_text}

module _ (p : Content) where
  -- events with a comma and a blank before each
  abbrev pub more_events_text : List ℕ → List ℕ
  more_events_text es = flat_map (λ e. codes ", " ++ event_text p e) es

  -- events with a comma and a blank between them
  abbrev pub events_text : List ℕ → List ℕ
  events_text [] = []
  events_text (e ∷ es) = event_text p e ++ more_events_text es

  -- a trace: events in their order
  abbrev pub trace_text : List ℕ → List ℕ
  trace_text es = codes "<" ++ events_text es ++ codes ">"

  -- a set of events
  abbrev pub set_text : List ℕ → List ℕ
  set_text es = codes "{" ++ events_text es ++ codes "}"

-- numbers, with a blank before each
abbrev pub numbers_text : List ℕ → List ℕ
numbers_text ns = flat_map (λ n. codes " " ++ decimal n) ns
