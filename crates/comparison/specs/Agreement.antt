-- Whether two networks speak of the same events, and whether their components have the same alphabets.
use Rattle.std.specs.Prelude.{◌≡◌, ◌<◌, ℕ, List, Some, map, slice_get}
use Rattle.csp_program.specs.declared.processes.Proc.{Proc}
use Rattle.csp_program.specs.declared.programs.Content.{Content}
use Rattle.csp_tables.specs.Network.{Component}
use Rattle.network_layout.specs.Triple.{alphabets}
use Rattle.report.specs.Prelude.{channel_name, info_text}
use Rattle.report.specs.declared.answer.Refusal.{Refusal}
use Rattle.report.specs.declared.answer.Refusal.TheVariants as refusal

-- the printed texts of a program's events, in the order of their numbers
abbrev pub printed_events : Content → List (List ℕ)
printed_events p = map (λ info. info_text p (Some info)) p.events

-- The least place at which two lists differ: one of them may end there.
pub record DifferFirstAt (xs ys : List (List ℕ)) (n : ℕ) : Type 0 where
  pub differ : slice_get xs n ≡ slice_get ys n → ⊥
  pub before : (k : ℕ) → k < n → slice_get xs k ≡ slice_get ys k

-- the lists of printed events differ here first
abbrev pub EventsDifferAt : Content → Content → ℕ → Type 0
EventsDifferAt p q = DifferFirstAt (printed_events p) (printed_events q)

-- the lists of printed events differ
abbrev pub HaveOtherEvents : Content → Content → Refusal → Type 0
HaveOtherEvents p q r = (n : ℕ) × EventsDifferAt p q n × (r ≡ refusal.DifferentEvents n)

-- a component is in one network only, or the alphabets differ
abbrev pub HaveOtherAlphabets : List (Component Proc) → List (Component Proc) → Refusal → Type 0
HaveOtherAlphabets cs ds r = (i : ℕ) × DifferFirstAt (alphabets cs) (alphabets ds) i × (r ≡ refusal.DifferentComponents i)

-- The rest is for private contracts.

-- both have this event and print it alike, or neither has it
abbrev pub AgreeAt : Content → Content → ℕ → Type 0
AgreeAt p q n = slice_get (printed_events p) n ≡ slice_get (printed_events q) n

-- channels with the same number have the same name, and so have constants
pub record HaveSameNames (p q : Content) : Type 0 where
  pub channels : (k : ℕ) → channel_name (slice_get p.channels k) ≡ channel_name (slice_get q.channels k)
  pub constants : p.consts ≡ q.consts
