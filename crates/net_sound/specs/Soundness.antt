-- What a network has of itself when a ranking is to tell that it is live.
use Rattle.std.specs.Prelude.{◌<◌, ℕ, map, length}
use Rattle.csp_tables.specs.Prelude.{Label, Tree, leaves, WellNested, IsSilentBound, TripleDisjoint}

-- at least one component, well nested, no event in three alphabets, and this greatest number of silent steps in a row
pub record IsSound {T : Type 0} (Step : T → Label → T → Type 0) (tree : Tree T) (bound : ℕ) : Type 0 where
  pub some : 0 < length (leaves tree)
  pub nested : WellNested tree
  pub triple : TripleDisjoint (map (λ c. c.alphabet) (leaves tree))
  pub silence : IsSilentBound Step (leaves tree) bound
