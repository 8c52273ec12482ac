-- Where one part of a shape stands after a run of its own table: what is possible, and what it accepts.
use Rattle.std.specs.Prelude.{◌<◌, ℕ, List, [], length, get_or, IsTrue}
use Rattle.csp_base.specs.Members.{has}
use Rattle.csp_tables.specs.Table.{node_at, is_possible, IsRun, end_of, acceptances_after}
use Rattle.csp_tables.specs.Part.{part_at, IsNonEmpty}
use Rattle.csp_tables.specs.Trace.{IsWithin}
use Rattle.csp_tables.specs.Shape.{Shape, is_end, link_at}

-- s is a run of the part in place i
pub record RunsTo (shape : Shape) (i : ℕ) (s : List ℕ) : Type 0 where
  pub part : i < length shape.parts
  pub follows : IsRun (part_at shape.parts i).table s

-- after the run s the event e is possible in the part
pub record IsPossible (shape : Shape) (i : ℕ) (s : List ℕ) (e : ℕ) : Type 0 where
  pub runs : RunsTo shape i s
  pub next : IsTrue (is_possible (node_at (part_at shape.parts i).table (end_of (part_at shape.parts i).table 0 s)).next e)

-- after the run s, at the acceptance in place k, the part accepts exactly M, and M lies in the vocabulary
abbrev pub accepted : Shape → ℕ → List ℕ → ℕ → List ℕ
accepted shape i s k = get_or (acceptances_after (part_at shape.parts i).table s) k []

pub record Accepts (shape : Shape) (i : ℕ) (s : List ℕ) (k : ℕ) : Type 0 where
  pub runs : RunsTo shape i s
  pub listed : k < length (acceptances_after (part_at shape.parts i).table s)
  pub shared : IsWithin (accepted shape i s k) shape.vocabulary

-- the link in place l has the part in place i as an end, and the event e
pub record IsOn (shape : Shape) (i l e : ℕ) : Type 0 where
  pub within : l < length shape.links
  pub end : IsTrue (is_end shape i l)
  pub event : IsTrue (has (link_at shape l).shared e)

-- no part has an empty acceptance after a run
abbrev pub IsBusyShape : Shape → Type 0
IsBusyShape shape = (i : ℕ) (s : List ℕ) (k : ℕ) → RunsTo shape i s → k < length (acceptances_after (part_at shape.parts i).table s) → IsNonEmpty (accepted shape i s k)
