-- A network whose components conform to those of another one inherits its freedom from deadlock.
--
-- Take a reached state without a silent step. Each component stands at it after its own part of the run, stable, and offers an acceptance whole,
-- which contains an acceptance of its specification. So the specification can stand, after the same events, where it offers nothing else. Such
-- states of all specifications are reached together: by the same events, with silent steps between. That state of the specified network is stable, so
-- it has an event. Each component that has this event in its alphabet offers it too. That silent steps are bounded is the network's own.
use Rattle.std.specs.Prelude.{ℕ, List}
use Rattle.csp_tables.specs.Prelude.{Label, Live, NetworkStep, Tree, leaves, Part, ArePartsOf, IsSilentBound, WellNested}
use Rattle.conformance.specs.Conforms.{AllConform}

-- (The components have normal tables: so each stable state offers an acceptance whole.)
abbrev pub ConformingNetworksAreLive : {T U : Type 0} → (T → Label → T → Type 0) → (U → Label → U → Type 0) → Type 0
ConformingNetworksAreLive {T} {U} Step Specified = (tree : Tree T) (other : Tree U) (parts : List Part) (bound some : ℕ) → WellNested tree → WellNested other → ArePartsOf Step (leaves tree) parts → AllConform Step Specified (leaves tree) (leaves other) → IsSilentBound Step (leaves tree) bound → Live (NetworkStep Specified) other some → Live (NetworkStep Step) tree bound
