-- The verdict on a network of which the normal table of one component is asked: the points at which it is refused, in their order, and then the table.
use Rattle.std.specs.Prelude.{◌≡◌, ◌≤◌, ℕ, Some, [], ◌∷◌, length, slice_get}
use Rattle.csp_tables.specs.Prelude.{leaves, Part}
use Rattle.network_stages.specs.Prelude.{Network, ArePartsBy, HasNoPart}
use Rattle.report.specs.Prelude.{RefusedOr}
use Rattle.report.specs.declared.answer.Refusal.{Refusal}
use Rattle.report.specs.declared.answer.Verdict.{Verdict}
use Rattle.report.specs.declared.answer.Done.TheVariants as done
use Rattle.report.specs.declared.answer.Refusal.TheVariants as refusal
use Rattle.report.specs.declared.answer.Side.TheVariants as side
use Rattle.report.specs.declared.answer.Verdict.TheVariants as verdict

-- no component has the number
abbrev pub HasNoComponent : Network → ℕ → Refusal → Type 0
HasNoComponent network i r = (length (leaves network.tree) ≤ i) × (r ≡ refusal.NoComponent (length (leaves network.tree)))

-- the verdict tells this part, of the component with the number i
abbrev pub IsTable : Network → ℕ → Part → Verdict → Type 0
IsTable network i part v = v ≡ verdict.Done (done.Table i (length (leaves network.tree)) part)

-- no component has the number; the one that has it gets no part, with the whole room for itself
unfoldable pub IsTabulated : Network → ℕ → Verdict → Type 0
IsTabulated network i =
    RefusedOr side.Script (HasNoComponent network i) (λ c. slice_get (leaves network.tree) i ≡ Some c) (λ c.
    RefusedOr side.Script (HasNoPart network.program i c) (λ part. ArePartsBy network.program (c ∷ []) (part ∷ [])) (λ part.
    IsTable network i part))
