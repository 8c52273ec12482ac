-- The verdict on a network and its specification: the points at which one of them is refused or the network does not conform, in their order, and then that
-- it conforms.
use Rattle.std.specs.Prelude.{◌≡◌, ℕ, length}
use Rattle.csp_tables.specs.Network.{leaves}
use Rattle.network_layout.specs.Triple.{alphabets}
use Rattle.network_stages.specs.Prelude.{HasSilentBound, IsLive, Network, HasNoParts, HasNoTables, HasParts, HasTables}
use Rattle.report.specs.Prelude.{RefusedOr, RefusedUnless, UnprovedUnless}
use Rattle.report.specs.declared.answer.Side.{Side}
use Rattle.report.specs.declared.answer.Verdict.{Verdict}
use Rattle.report.specs.declared.answer.Done.TheVariants as done
use Rattle.report.specs.declared.answer.Side.TheVariants as side
use Rattle.report.specs.declared.answer.Verdict.TheVariants as verdict
use Rattle.comparison.specs.Agreement.{HaveOtherAlphabets, HaveOtherEvents, printed_events}
use Rattle.comparison.specs.Conforming.{ComponentsConform, FailsToConform}

-- The verdict tells exactly the network's silent bound. If the specification is live with some number, the network is live with this bound.
pub record IsConforming (network specified : Network) (v : Verdict) : Type 0 where
  pub bound : ℕ
  pub exact : HasSilentBound network bound
  pub inherits : (some : ℕ) → IsLive specified some → IsLive network bound
  pub is : v ≡ verdict.Done (done.Conforms (length (leaves network.tree)) bound)

-- a component of the network has no table; it has too many sets of terms
unfoldable pub PartsOr : Side → Network → (Verdict → Type 0) → Verdict → Type 0
PartsOr side network Then =
    RefusedOr side (HasNoTables network) (HasTables network) (λ tables.
    RefusedOr side (HasNoParts network) (HasParts network) (λ parts.
    Then))

-- a component does not conform
unfoldable pub ConformanceDecides : Network → Network → Verdict → Type 0
ConformanceDecides network specified =
    UnprovedUnless (FailsToConform network specified) (ComponentsConform network specified) (IsConforming network specified)

-- the events differ; the components differ; one of the networks has no parts; a component does not conform
unfoldable pub IsCompared : Network → Network → Verdict → Type 0
IsCompared network specified =
    RefusedUnless side.Script (HaveOtherEvents network.program specified.program)
    (printed_events network.program ≡ printed_events specified.program) (
    RefusedUnless side.Script (HaveOtherAlphabets (leaves network.tree) (leaves specified.tree))
    (alphabets (leaves network.tree) ≡ alphabets (leaves specified.tree)) (
    PartsOr side.Script network (
    PartsOr side.Specification specified (
    ConformanceDecides network specified))))
