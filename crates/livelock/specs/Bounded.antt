-- The verdict on a network of which a bound on the hidden events is asked, where those of a set are hidden: the points at which it is refused or has no bound,
-- in their order, and then the bound.
use Rattle.std.specs.Prelude.{◌≡◌, ◌<◌, ◌^◌, ℕ, Some, None, Ok, Err, List, length}
use Rattle.csp_program.specs.declared.expressions.Expr.{Expr}
use Rattle.csp_program.specs.declared.kinds.ValueKind.{ValueKind}
use Rattle.csp_program.specs.declared.programs.Content.{Content}
use Rattle.csp_tables.specs.Network.{leaves}
use Rattle.hidden_bounds.specs.Found.{PassesAt}
use Rattle.hidden_steps.specs.Order.{HasNoOrder, IsOrder, Taken, hidden_bound}
use Rattle.network_stages.specs.Prelude.{Network, HasNoTables, HasTables}
use Rattle.process_steps.specs.Prelude.{ProcessStep, events_in}
use Rattle.report.specs.Prelude.{RefusedOr, UnprovedOr}
use Rattle.report.specs.declared.answer.Refusal.{Refusal}
use Rattle.report.specs.declared.answer.Shortfall.{Shortfall}
use Rattle.report.specs.declared.answer.Verdict.{Verdict}
use Rattle.report.specs.declared.answer.Done.TheVariants as done
use Rattle.report.specs.declared.answer.Refusal.TheVariants as refusal
use Rattle.report.specs.declared.answer.Shortfall.TheVariants as shortfall
use Rattle.report.specs.declared.answer.Side.TheVariants as side
use Rattle.report.specs.declared.answer.Site.TheVariants as site
use Rattle.report.specs.declared.answer.Verdict.TheVariants as verdict
use Rattle.livelock.specs.Named.{data_named}

-- no definition of data without parameters has the name
abbrev pub NamesNoSet : Content → List ℕ → Refusal → Type 0
NamesNoSet p name r = (data_named p name ≡ None) × (r ≡ refusal.NoSet)

-- the expression is worth no set of events
abbrev pub LacksValue : Content → Expr → Refusal → Type 0
LacksValue p expr r = (kind : ValueKind) × (events_in p expr ≡ Err kind) × (r ≡ refusal.Value kind site.HiddenSet)

-- A network, with these events hidden.
module _ (network : Network) (events : List ℕ) where
  -- all components are taken in this order
  abbrev pub HasOrder : List Taken → Type 0
  HasOrder order = IsOrder (ProcessStep network.program) events (leaves network.tree) order

  -- some can not be taken
  abbrev pub LacksOrder : Shortfall → Type 0
  LacksOrder s = (parts : List ℕ) × HasNoOrder (ProcessStep network.program) events (leaves network.tree) parts × (s ≡ shortfall.NoOrder parts)

-- the bounds of the components add up to this
abbrev pub IsBoundOf : List ℕ → List Taken → ℕ → Type 0
IsBoundOf events order bound = (bound ≡ hidden_bound events order) × (bound < 2 ^ 64)

-- they add up to more than 64 bits hold, first at this component
abbrev pub HasTooGreatBound : List ℕ → List Taken → Refusal → Type 0
HasTooGreatBound events order r = (part : ℕ) × PassesAt events order part × (r ≡ refusal.BoundLimit part)

abbrev pub IsToldBound : Network → ℕ → Verdict → Type 0
IsToldBound network bound v = v ≡ verdict.Done (done.LivelockFree (length (leaves network.tree)) bound)

-- there is no order; the bound is too great
unfoldable pub OrderDecides : Network → List ℕ → Verdict → Type 0
OrderDecides network events =
    UnprovedOr (LacksOrder network events) (HasOrder network events) (λ order.
    RefusedOr side.Script (HasTooGreatBound events order) (IsBoundOf events order) (λ bound.
    IsToldBound network bound))

-- the name stands for no set; its expression has no value; a component has no table
unfoldable pub IsBounded : Network → List ℕ → Verdict → Type 0
IsBounded network name =
    RefusedOr side.Script (NamesNoSet network.program name) (λ expr. data_named network.program name ≡ Some expr) (λ expr.
    RefusedOr side.Script (LacksValue network.program expr) (λ events. events_in network.program expr ≡ Ok events) (λ events.
    RefusedOr side.Script (HasNoTables network) (HasTables network) (λ tables.
    OrderDecides network events)))
