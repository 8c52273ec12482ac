-- What a set of events feeds a hasher: its blocks.
use Rattle.std.specs.Prelude.{ℕ, List, ◌++◌}
use Rattle.std.specs.Hash as fed
use Rattle.csp_base.specs.Blocks.{blocks_of}

-- the writes of a rising list of events
abbrev pub set_writes : List ℕ → List (List ℕ)
set_writes xs = fed.slice (λ (p : ℕ × ℕ). fed.u32 p.0 ++ fed.u64 p.1) (blocks_of xs)
