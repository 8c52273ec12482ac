-- The depth of a tree: 1 without parts, else one more than the greatest depth among all trees that it holds, those in events, parts and
-- generators included.
use Rattle.std.specs.Prelude.{ℕ, ◌+◌, ◌-◌, ◌^◌, max, min, List}
use Rattle.csp_text.specs.declared.tree.FieldTree.TheFolds.{fold-GenTree, fold-Tree, fold-EventTree, fold-PartTree}
use Rattle.csp_text.specs.declared.tree.FieldTree.TheOpen.{FieldTree-F, GenTree-F, Tree-F, EventTree-F, PartTree-F}
use Rattle.csp_text.specs.declared.tree.FieldTree.{FieldTree, fold-FieldTree}
use Rattle.csp_text.specs.declared.tree.GenTree.{GenTree}
use Rattle.csp_text.specs.declared.tree.Tree.{Tree}
use Rattle.csp_text.specs.declared.tree.EventTree.{EventTree}
use Rattle.csp_text.specs.declared.tree.PartTree.{PartTree}
use Rattle.csp_base.specs.Lists.{greatest}
use Rattle.csp_text.specs.Parts.{of_event, of_field, of_gen, of_pairs, of_part, of_tree}

-- the greatest number of a list of pairs
abbrev pub greatest_of_pairs : List (ℕ × ℕ) → ℕ
greatest_of_pairs = of_pairs max greatest

-- one layer of a tree, with the depths of its parts in their places; what else holds trees is as deep as its deepest
abbrev pub tree_layer_depth : Tree-F ℕ ℕ ℕ ℕ ℕ → ℕ
tree_layer_depth d = 1 + of_tree max greatest d

abbrev pub field_layer_depth : FieldTree-F ℕ ℕ ℕ ℕ ℕ → ℕ
field_layer_depth = of_field max greatest

abbrev pub gen_layer_depth : GenTree-F ℕ ℕ ℕ ℕ ℕ → ℕ
gen_layer_depth = of_gen max greatest

abbrev pub event_layer_depth : EventTree-F ℕ ℕ ℕ ℕ ℕ → ℕ
event_layer_depth = of_event max greatest

abbrev pub part_layer_depth : PartTree-F ℕ ℕ ℕ ℕ ℕ → ℕ
part_layer_depth = of_part max greatest

abbrev pub tree_depth : Tree → ℕ
tree_depth = fold-Tree ℕ ℕ ℕ ℕ ℕ field_layer_depth gen_layer_depth tree_layer_depth event_layer_depth part_layer_depth

abbrev pub field_depth : FieldTree → ℕ
field_depth = fold-FieldTree ℕ ℕ ℕ ℕ ℕ field_layer_depth gen_layer_depth tree_layer_depth event_layer_depth part_layer_depth

abbrev pub gen_depth : GenTree → ℕ
gen_depth = fold-GenTree ℕ ℕ ℕ ℕ ℕ field_layer_depth gen_layer_depth tree_layer_depth event_layer_depth part_layer_depth

abbrev pub event_depth : EventTree → ℕ
event_depth = fold-EventTree ℕ ℕ ℕ ℕ ℕ field_layer_depth gen_layer_depth tree_layer_depth event_layer_depth part_layer_depth

abbrev pub part_depth : PartTree → ℕ
part_depth = fold-PartTree ℕ ℕ ℕ ℕ ℕ field_layer_depth gen_layer_depth tree_layer_depth event_layer_depth part_layer_depth

-- a count that goes no further than its type
abbrev pub capped : ℕ → ℕ
capped n = min n (2 ^ 32 - 1)
