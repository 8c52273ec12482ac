-- What is cited above of the tree that a program spells: it is well nested, and has 1 to MOST_COMPONENTS components.
use Rattle.network_trees.proofs.Prelude.{◌≤◌, ◌+◌, ℕ, length, arith, Proc, Content, Tree, leaves, WellNested, MOST_COMPONENTS, IsSpelledBy}

-- what is true of a tree that k components come before
pub record IsTree (k : ℕ) (tree : Tree Proc) : Type 0 where
  pub nesting : WellNested tree
  pub few : k + length (leaves tree) ≤ MOST_COMPONENTS

pub network_is_tree : (p : Content) (tree : Tree Proc) → IsSpelledBy p tree → IsTree 0 tree × (1 ≤ length (leaves tree))
network_is_tree p tree is =
    let few : length (leaves tree) ≤ MOST_COMPONENTS = is.few in
    (record { nesting = is.nested; few = omega arith }, is.some)
