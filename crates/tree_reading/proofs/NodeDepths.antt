-- The depth of each form by those of its parts: `of_tree _ (tree.rolls-V ..)` is that of a tree V ..
use Rattle.tree_reading.proofs.Prelude.{◌≡◌, ℕ, ◌<◌, false, nat_le, List, map, sym, ap, ◌∙◌, arith, event_depth, event_layer_depth, field_depth, field_layer_depth, gen_depth, gen_layer_depth, part_depth, part_layer_depth, tree_depth, tree_layer_depth, FieldTree, Tree-F, FieldTree-F, GenTree-F, roll-FieldTree, roll-GenTree, roll-Tree, out-Tree, GenTree, PartTree, Tree, event_tree, part_tree, greatest, EventTree, map-Tree, map-FieldTree, map-GenTree, fold-roll-Tree, fold-roll-FieldTree, fold-roll-GenTree, fold-roll-EventTree, fold-roll-PartTree, fold_out-Tree}

-- the depth of a tree whose layer is d
abbrev pub layer_depth : Tree-F FieldTree GenTree Tree EventTree PartTree → ℕ
layer_depth d = tree_layer_depth (map-Tree FieldTree GenTree Tree EventTree PartTree ℕ ℕ ℕ ℕ ℕ field_depth gen_depth tree_depth event_depth part_depth d)

pub of_tree : (d : Tree-F FieldTree GenTree Tree EventTree PartTree) {t : Tree} → roll-Tree d ≡ t → tree_depth t ≡ layer_depth d
of_tree d e = ap tree_depth (sym e) ∙ fold-roll-Tree ℕ ℕ ℕ ℕ ℕ field_layer_depth gen_layer_depth tree_layer_depth event_layer_depth part_layer_depth d

-- the same of a field and of a generator
pub of_field : (d : FieldTree-F FieldTree GenTree Tree EventTree PartTree) {a : FieldTree} → roll-FieldTree d ≡ a →
    field_depth a ≡ field_layer_depth (map-FieldTree FieldTree GenTree Tree EventTree PartTree ℕ ℕ ℕ ℕ ℕ field_depth gen_depth tree_depth event_depth part_depth d)
of_field d e = ap field_depth (sym e) ∙ fold-roll-FieldTree ℕ ℕ ℕ ℕ ℕ field_layer_depth gen_layer_depth tree_layer_depth event_layer_depth part_layer_depth d

pub of_generator : (d : GenTree-F FieldTree GenTree Tree EventTree PartTree) {a : GenTree} → roll-GenTree d ≡ a →
    gen_depth a ≡ gen_layer_depth (map-GenTree FieldTree GenTree Tree EventTree PartTree ℕ ℕ ℕ ℕ ℕ field_depth gen_depth tree_depth event_depth part_depth d)
of_generator d e = ap gen_depth (sym e) ∙ fold-roll-GenTree ℕ ℕ ℕ ℕ ℕ field_layer_depth gen_layer_depth tree_layer_depth event_layer_depth part_layer_depth d

pub depth-part : (c : List ℕ) (fields : List Tree) → part_depth (part_tree c fields) ≡ greatest (map tree_depth fields)
depth-part c fields = fold-roll-PartTree ℕ ℕ ℕ ℕ ℕ field_layer_depth gen_layer_depth tree_layer_depth event_layer_depth part_layer_depth (record { name = c; fields = fields })

pub depth-event : (c : List ℕ) (fields : List FieldTree) → event_depth (event_tree c fields) ≡ greatest (map field_depth fields)
depth-event c fields = fold-roll-EventTree ℕ ℕ ℕ ℕ ℕ field_layer_depth gen_layer_depth tree_layer_depth event_layer_depth part_layer_depth (record { name = c; fields = fields })

-- no tree has depth 0
pub deep : (d : Tree-F FieldTree GenTree Tree EventTree PartTree) → 0 < layer_depth d
deep d = omega arith

not_below : (n : ℕ) → 0 < n → nat_le n 0 ≡ false
not_below n h = grind (arith)

pub positive : (t : Tree) → nat_le (tree_depth t) 0 ≡ false
positive t =
    ap (λ n. nat_le n 0) (fold_out-Tree ℕ ℕ ℕ ℕ ℕ field_layer_depth gen_layer_depth tree_layer_depth event_layer_depth part_layer_depth t) ∙ not_below (layer_depth (out-Tree t)) (deep (out-Tree t))
