-- A network is well nested where each operand's alphabet has the same members as the alphabets of the operand's
-- components together. Then nesting does not matter (associativity of alphabetised parallel: Roscoe 1997, chapter 2).
use Rattle.std.specs.Prelude.{◌≡◌, ℕ}
use Rattle.csp_base.specs.Members.{has}
use Rattle.csp_tables.specs.Network.{Tree, Operands, leaves}
use Rattle.csp_tables.specs.Network.Tree.{leaf, parallel}
use Rattle.csp_tables.specs.Network.Operands.{none, operand}
use Rattle.csp_tables.specs.Flat.{in_some_component}

abbrev mutual
  pub WellNested : {T : Type 0} → Tree T → Type 0
  WellNested (leaf c) = Unit {0}
  WellNested (parallel os) = OperandsWellNested os

  pub OperandsWellNested : {T : Type 0} → Operands T → Type 0
  OperandsWellNested none = Unit {0}
  OperandsWellNested (operand a t os) = ((e : ℕ) → has a e ≡ in_some_component (leaves t) e) × WellNested t × OperandsWellNested os
