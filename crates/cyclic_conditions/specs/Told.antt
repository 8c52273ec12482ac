-- What is told of a part without an order, and of a link without a whole end. (No rule's decider cites this.)
use Rattle.std.specs.Prelude.{◌≡◌, ◌≤◌, ℕ, List}
use Rattle.csp_tables.specs.Prelude.{end_of, link_at, part_at, Shape}
use Rattle.design_rules.specs.Cyclic.{FallsShort}
use Rattle.design_rules.specs.Prelude.{BreaksOrder, ends_of}
use Rattle.design_rules.specs.declared.rule_fault.RuleFault.{RuleFault}
use Rattle.design_rules.specs.declared.rule_fault.RuleFault.TheVariants.{NoOrder, NoWholeEnd}

-- the part has no order of its links
abbrev pub IsBrokenOrder : Shape → ℕ → RuleFault → Type 0
IsBrokenOrder shape i (NoOrder part trace event) = (part ≡ i) × BreaksOrder shape i trace event
IsBrokenOrder shape i _ = ⊥

-- The trace s leads to the first node, in the order of the table, after which the part falls short of the link.
pub record FallsFirst (shape : Shape) (l i : ℕ) (s : List ℕ) : Type 0 where
  pub falls : FallsShort shape l i s
  pub first : (t : List ℕ) → FallsShort shape l i t → end_of (part_at shape.parts i).table 0 s ≤ end_of (part_at shape.parts i).table 0 t

-- both traces of a link that is told lead to such nodes
abbrev pub TellsFirst : Shape → RuleFault → Type 0
TellsFirst shape (NoWholeEnd i j s t) = (l : ℕ) × (ends_of shape l ≡ (i, j)) × FallsFirst shape l (link_at shape l).left s × FallsFirst shape l (link_at shape l).right t
TellsFirst shape _ = ⊥
