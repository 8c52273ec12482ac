-- The order in which a search finds vertices.
use Rattle.std.specs.Prelude.{ℕ, List, [], ◌++◌, fold, nat_eq}
use Rattle.std.specs.List.{flat_map}
use Rattle.containers.specs.Members.{with_new}
use Rattle.digraph.specs.Digraph.{Digraph, targets_of}

-- what is found when the numbers of xs come after those found before: each is added where it first comes
abbrev pub found_after : List ℕ → List ℕ → List ℕ
found_after before xs = fold (with_new nat_eq) before xs

-- what a search finds that goes over its sources, and then over the targets of these vertices in turn
abbrev pub found_over : Digraph → List ℕ → List ℕ → List ℕ
found_over g sources vs = found_after [] (sources ++ flat_map (targets_of g) vs)
