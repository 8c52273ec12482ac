-- What is searched for, and found or not. (No rule's decider cites this.)
use Rattle.std.specs.Prelude.{◌≡◌, ◌<◌, ◌≤◌, ℕ, List, Option, Some, None}
use Rattle.csp_tables.specs.Prelude.{RunsTo, Shape}
use Rattle.design_rules.specs.Prelude.{IsFirstBroken, by_tables}
use Rattle.design_rules.specs.declared.condition.Condition.{Condition}
use Rattle.design_rules.specs.declared.rule_fault.RuleFault.{RuleFault}
use Rattle.design_rules.specs.declared.rule_fault.RuleFault.TheVariants as fault

-- n is the first number below the count of which P does not hold, or the count where there is none
pub record IsFirstWithout (P : ℕ → Type 0) (count n : ℕ) : Type 0 where
  pub most : n ≤ count
  pub before : (j : ℕ) → j < n → P j
  pub broken : n < count → P n → ⊥

-- a run of the part i after which P does not hold, or P holds after each
abbrev pub FindsRun : Shape → ℕ → (List ℕ → Type 0) → Option (List ℕ) → Type 0
FindsRun shape i P None = (s : List ℕ) → P s
FindsRun shape i P (Some s) = RunsTo shape i s × (P s → ⊥)

-- the fault tells the first component that does not keep the condition, with a run after which it does not
abbrev pub IsFirstFault : Shape → (ℕ → List ℕ → Type 0) → Condition → RuleFault → Type 0
IsFirstFault shape Keeps condition (fault.Broken broken i s) = (broken ≡ condition) × IsFirstBroken (by_tables shape) Keeps i s
IsFirstFault shape Keeps condition _ = ⊥
