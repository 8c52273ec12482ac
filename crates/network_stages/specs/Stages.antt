-- What a network has at each stage of a walk, and what is told where it has it not: the fault that is there.
use Rattle.std.specs.Prelude.{◌≡◌, ◌⊎◌, ℕ, ◌+◌, Err, List, [], ◌∷◌}
use Rattle.csp_program.specs.declared.processes.Proc.{Proc}
use Rattle.csp_program.specs.declared.programs.Content.{Content}
use Rattle.csp_tables.specs.Prelude.{Component, leaves, Part, AreBusy}
use Rattle.csp_text.specs.declared.script.Script.{Script}
use Rattle.network_layout.specs.Triple.{SharesEvent, alphabets}
use Rattle.network_layout.specs.declared.triple.TripleFault.{TripleFault}
use Rattle.network_stages.specs.Faults.{HasFault, IsFirst}
use Rattle.network_stages.specs.Tables.{AreTablesOf}
use Rattle.network_stages.specs.declared.component_tables.ComponentTable.{ComponentTable}
use Rattle.network_trees.specs.NetworkOf.{network_of}
use Rattle.network_trees.specs.declared.fault.LayoutFault.{LayoutFault}
use Rattle.process_steps.specs.Prelude.{ProcessStep}
use Rattle.process_steps.specs.declared.component_fault.ComponentFault.{ComponentFault}
use Rattle.process_steps.specs.declared.component_fault.ComponentFault.TheVariants as fault
use Rattle.report.specs.declared.answer.Answer.{Answer}
use Rattle.report.specs.declared.answer.Refusal.{Refusal}
use Rattle.report.specs.declared.answer.Shortfall.{Shortfall}
use Rattle.report.specs.declared.answer.Side.{Side}
use Rattle.report.specs.declared.answer.Answer.TheVariants as answer
use Rattle.report.specs.declared.answer.Refusal.TheVariants as refusal
use Rattle.report.specs.declared.answer.Shortfall.TheVariants as shortfall
use Rattle.report.specs.declared.answer.TextFault.TheVariants as text
use Rattle.report.specs.declared.answer.Verdict.TheVariants as verdict
use Rattle.script_names.specs.Prelude.{IsProgram, IsRefused}
use Rattle.script_names.specs.declared.fault.ResolveFault.{ResolveFault}
use Rattle.network_stages.specs.Busy.{StopsFirstIn}
use Rattle.network_stages.specs.Networks.{Network}
use Rattle.network_stages.specs.Sets.{ArePartsBy, IsFirstWithManySets}

-- the program, of the text of this side, spells no network
abbrev pub SpellsNone : Side → Content → Answer → Type 0
SpellsNone side p a = (f : LayoutFault) × (network_of p ≡ Err f) × (a ≡ answer.Decided p (verdict.Refused side (refusal.Network f)))

-- the script, that of the text of this side, has no program, or its program spells no network
abbrev pub HasNoNetwork : Side → Script → Answer → Type 0
HasNoNetwork side script a =
    ((f : ResolveFault) × IsRefused script f × (a ≡ answer.NoProgram side (text.Unresolved f)))
    ⊎ ((p : Content) × IsProgram script p × SpellsNone side p a)

-- ---- components of a program, of which the first has the number n in its network

-- one of them has no table
abbrev pub HaveNoTables : Content → ℕ → List (Component Proc) → Refusal → Type 0
HaveNoTables p n cs r = (i : ℕ) × (f : ComponentFault) × IsFirst p cs i (HasFault p f) × (r ≡ refusal.Component (n + i) f)

-- traces of one of them lead to too many sets of terms
abbrev pub HaveNoParts : Content → ℕ → List (Component Proc) → Refusal → Type 0
HaveNoParts p n cs r = (i : ℕ) × IsFirstWithManySets p cs i × (r ≡ refusal.Component (n + i) fault.SubsetLimit)

-- a component alone, with the whole room for it, has no table, or its traces lead to too many sets of terms
abbrev pub HasNoPart : Content → ℕ → Component Proc → Refusal → Type 0
HasNoPart p n c r =
    HaveNoTables p n (c ∷ []) r
    ⊎ ((tables : List ComponentTable) × AreTablesOf p (c ∷ []) tables × HaveNoParts p n (c ∷ []) r)

-- ---- a network

module _ (network : Network) where
  -- each component has a table, within the room that those before it leave
  abbrev pub HasTables : List ComponentTable → Type 0
  HasTables tables = AreTablesOf network.program (leaves network.tree) tables

  -- one has none
  abbrev pub HasNoTables : Refusal → Type 0
  HasNoTables r = HaveNoTables network.program 0 (leaves network.tree) r

  -- each component has a normal table
  abbrev pub HasParts : List Part → Type 0
  HasParts parts = ArePartsBy network.program (leaves network.tree) parts

  -- one has none
  abbrev pub HasNoParts : Refusal → Type 0
  HasNoParts r = HaveNoParts network.program 0 (leaves network.tree) r

  -- an event is in the alphabets of three components
  abbrev pub ShareEvent : Shortfall → Type 0
  ShareEvent s = (f : TripleFault) × SharesEvent (alphabets (leaves network.tree)) f × (s ≡ shortfall.NotTripleDisjoint f.event f.parts)

  -- no component is ever empty-handed
  abbrev pub StaysBusy : Type 0
  StaysBusy = AreBusy (ProcessStep network.program) (leaves network.tree)

  -- one can stop
  abbrev pub CanStop : Shortfall → Type 0
  CanStop s = (i : ℕ) × (trace : List ℕ) × StopsFirstIn (ProcessStep network.program) (leaves network.tree) i trace × (s ≡ shortfall.Stops i trace)
