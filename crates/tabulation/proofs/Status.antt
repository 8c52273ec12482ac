-- A tabulation is refused, or the table is shown; and it is shown where nothing speaks against it.
use Rattle.tabulation.proofs.Prelude.{◌≡◌, ℕ, Some, slice_get, sym, subst, ◌∙◌, arith, same_Some, slice_get_within, Proc, Component, leaves, Part, IsPartOf, Network, HasNoPart, ProcessStep, refused_or, passed, told, Refusal, Verdict, IsTable, IsTabulated}
use Rattle.report.specs.declared.answer.Side.TheVariants as side
use Rattle.report.specs.declared.answer.Verdict.TheVariants as verdict

-- A component has the number, and the verdict tells its normal table, with the number of components.
pub record IsTabulatedWhole (network : Network) (i : ℕ) (v : Verdict) : Type 0 where
  pub component : Component Proc
  pub at : slice_get (leaves network.tree) i ≡ Some component
  pub part : Part
  pub normal : IsPartOf (ProcessStep network.program) component part
  pub is : IsTable network i part v

module _ (network : Network) (i : ℕ) where
  -- What holds of each refusal, and of the table that is shown, holds of the verdict.
  pub tabulated_cases : (Q : Verdict → Type 0) → ((r : Refusal) → Q (verdict.Refused side.Script r)) → ((v : Verdict) → IsTabulatedWhole network i v → Q v)
      → (v : Verdict) → IsTabulated network i v → Q v
  unfolding IsTabulated
  tabulated_cases Q refused whole =
      refused_or _ _ _ _ Q refused (λ c a at.
      refused_or _ _ _ _ Q refused (λ part b parts is.
      whole b (record { component = c; at = at; part = part; normal = parts.are.0; is = is })) a)

  -- A component that has the number and gets its part is shown.
  pub tabulated_is_complete : (c : Component Proc) → slice_get (leaves network.tree) i ≡ Some c → ((r : Refusal) → HasNoPart network.program i c r → ⊥)
      → (v : Verdict) → IsTabulated network i v → IsTabulatedWhole network i v
  unfolding IsTabulated
  tabulated_is_complete c at never v (told r fails same) =
      absurd (let within = slice_get_within (leaves network.tree) i c at in let without = fails.0 in omega (arith, within, without))
  tabulated_is_complete c at never v (passed d there (told r fails same)) =
      absurd (never r (subst (λ (x : Component Proc). HasNoPart network.program i x r) (same_Some d c (sym there ∙ at)) fails))
  tabulated_is_complete c at never v (passed d there (passed part parts is)) = record { component = d; at = there; part = part; normal = parts.are.0; is = is }
