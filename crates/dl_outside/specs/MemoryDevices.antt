-- What contracts see of the shelves and sinks in memory.
use Rattle.std.specs.Prelude.{ℕ, List}
use Rattle.dl_outside.specs.declared.texts.NamedText.{NamedText}
use Rattle.dl_outside.specs.FaultPlan.{FaultPlan}

-- A shelf: its texts, and which of its loads fail.
pub record MemoryShelfState : Type 0 where
  pub texts : List NamedText
  pub plan : FaultPlan

-- A sink: what was sent, the greatest number of bytes that one write takes, and which of its writes fail.
pub record MemorySinkState : Type 0 where
  pub sent : List ℕ
  pub most : ℕ
  pub plan : FaultPlan

-- A sink whose writes never fail.
pub record SureSinkState : Type 0 where
  pub sent : List ℕ
  pub most : ℕ
