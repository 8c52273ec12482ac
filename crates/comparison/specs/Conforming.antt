-- The first component of a network that does not conform to the one in its place in the specification, as it is told.
use Rattle.std.specs.Prelude.{◌≡◌, ◌<◌, ◌⊎◌, ℕ, List, Some, length, slice_get}
use Rattle.csp_program.specs.declared.processes.Proc.{Proc}
use Rattle.csp_tables.specs.Prelude.{Component, leaves, Part, part_at}
use Rattle.conformance.specs.Conforming.{TableConforms}
use Rattle.conformance.specs.Failing.{GoesOutside, RefusesTooMuch}
use Rattle.conformance.specs.declared.fault.ConformFault.{ConformFault}
use Rattle.conformance.specs.declared.fault.ConformFault.TheVariants as fault
use Rattle.network_stages.specs.Networks.{Network}
use Rattle.process_steps.specs.ComponentStep.{ProcessStep}
use Rattle.conformance.specs.Conforms.{AllConform, Conforms}
use Rattle.report.specs.declared.answer.Shortfall.{Shortfall}
use Rattle.report.specs.declared.answer.Shortfall.TheVariants as shortfall
use Rattle.csp_base.specs.declared.stop.Stop.{Stop}
use Rattle.csp_base.specs.declared.stop.Stop.TheVariants as stop

module _ (network specified : Network) where
  -- c and d are the components with the number i, and each earlier one conforms
  pub record StandsFirst (i : ℕ) (c d : Component Proc) : Type 0 where
    pub here : slice_get (leaves network.tree) i ≡ Some c
    pub there : slice_get (leaves specified.tree) i ≡ Some d
    pub earlier : (j : ℕ) (a b : Component Proc) → j < i → slice_get (leaves network.tree) j ≡ Some a → slice_get (leaves specified.tree) j ≡ Some b
        → Conforms (ProcessStep network.program) (ProcessStep specified.program) a b

  -- after these events the component with the number i does what its specification does not, or refuses too much
  abbrev pub IsFault : ℕ → Component Proc → Component Proc → List ℕ → Shortfall → Type 0
  IsFault i c d trace s =
      (GoesOutside (ProcessStep network.program) (ProcessStep specified.program) c d trace × (s ≡ shortfall.Outside i trace))
      ⊎ (RefusesTooMuch (ProcessStep network.program) (ProcessStep specified.program) c d trace × (s ≡ shortfall.Refuses i trace))

  -- a component does not conform: the first such one is told
  abbrev pub FailsToConform : Shortfall → Type 0
  FailsToConform s = (i : ℕ) × (c : Component Proc) × (d : Component Proc) × (trace : List ℕ) × StandsFirst i c d × IsFault i c d trace s

  -- each component conforms to the one in its place
  abbrev pub ComponentsConform : Type 0
  ComponentsConform = AllConform (ProcessStep network.program) (ProcessStep specified.program) (leaves network.tree) (leaves specified.tree)

-- The rest is for private contracts.

-- each part before the place n conforms to the one in its place
abbrev pub ConformBefore : List Part → List Part → ℕ → Type 0
ConformBefore ps qs n = (i : ℕ) → i < n → TableConforms (part_at ps i).table (part_at qs i).table

-- each part has the alphabet of the one in its place
abbrev pub HaveSameEvents : List Part → List Part → Type 0
HaveSameEvents ps qs = (i : ℕ) → i < length ps → (part_at ps i).alphabet ≡ (part_at qs i).alphabet

-- how the fault of the component with the number i is told
abbrev pub failure : ℕ → Stop ConformFault → Stop Shortfall
failure i stop.NoMemory = stop.NoMemory
failure i (stop.Told (fault.Outside trace)) = stop.Told (shortfall.Outside i trace)
failure i (stop.Told (fault.Refuses trace)) = stop.Told (shortfall.Refuses i trace)
