-- Typed trees layer by layer.
use Rattle.typed_trees.proofs.Prelude.{◌≡◌, List, EventTree, FieldTree, fold-EventTree, fold-roll-FieldTree, fold-roll-GenTree, fold-roll-Tree, fold-roll-EventTree, fold-roll-PartTree, map-FieldTree, map-GenTree, map-Tree, map-EventTree, map-PartTree, FieldTree-F, GenTree-F, Tree-F, EventTree-F, PartTree-F, roll-FieldTree, roll-GenTree, roll-Tree, roll-EventTree, roll-PartTree, GenTree, PartTree, Tree, Gen, Field, Entities, first_of, Binding, Front, Reading, reading, field_of_layer, gen_of_layer, reading_of_layer, event_of_layer, part_of_layer, Kind, field_read, gen_read, part_read}

module _ (es : Entities) (ks : List Kind) where
  abbrev pub tree_read : Tree → Reading
  tree_read t = reading (first_of es) ks t

  abbrev pub event_read : EventTree → Front (Binding Field)
  event_read = fold-EventTree (Binding Field) (Binding Gen) Reading (Front (Binding Field)) (Front Reading)
      (field_of_layer (first_of es) ks) (gen_of_layer (first_of es) ks) (reading_of_layer (first_of es) ks) (event_of_layer (first_of es) ks) (part_of_layer (first_of es) ks)

  -- a layer with its parts typed
  abbrev pub layer_read : Tree-F FieldTree GenTree Tree EventTree PartTree → Tree-F (Binding Field) (Binding Gen) Reading (Front (Binding Field)) (Front Reading)
  layer_read d = map-Tree FieldTree GenTree Tree EventTree PartTree (Binding Field) (Binding Gen) Reading (Front (Binding Field)) (Front Reading) (field_read es ks) (gen_read es ks) tree_read event_read (part_read es ks) d

  pub tree_rolls : (d : Tree-F FieldTree GenTree Tree EventTree PartTree) → tree_read (roll-Tree d) ≡ reading_of_layer (first_of es) ks (layer_read d)
  tree_rolls d = fold-roll-Tree (Binding Field) (Binding Gen) Reading (Front (Binding Field)) (Front Reading)
      (field_of_layer (first_of es) ks) (gen_of_layer (first_of es) ks) (reading_of_layer (first_of es) ks) (event_of_layer (first_of es) ks) (part_of_layer (first_of es) ks) d

  pub field_rolls : (d : FieldTree-F FieldTree GenTree Tree EventTree PartTree) → field_read es ks (roll-FieldTree d)
      ≡ field_of_layer (first_of es) ks (map-FieldTree FieldTree GenTree Tree EventTree PartTree (Binding Field) (Binding Gen) Reading (Front (Binding Field)) (Front Reading) (field_read es ks) (gen_read es ks) tree_read event_read (part_read es ks) d)
  field_rolls d = fold-roll-FieldTree (Binding Field) (Binding Gen) Reading (Front (Binding Field)) (Front Reading)
      (field_of_layer (first_of es) ks) (gen_of_layer (first_of es) ks) (reading_of_layer (first_of es) ks) (event_of_layer (first_of es) ks) (part_of_layer (first_of es) ks) d

  pub gen_rolls : (d : GenTree-F FieldTree GenTree Tree EventTree PartTree) → gen_read es ks (roll-GenTree d)
      ≡ gen_of_layer (first_of es) ks (map-GenTree FieldTree GenTree Tree EventTree PartTree (Binding Field) (Binding Gen) Reading (Front (Binding Field)) (Front Reading) (field_read es ks) (gen_read es ks) tree_read event_read (part_read es ks) d)
  gen_rolls d = fold-roll-GenTree (Binding Field) (Binding Gen) Reading (Front (Binding Field)) (Front Reading)
      (field_of_layer (first_of es) ks) (gen_of_layer (first_of es) ks) (reading_of_layer (first_of es) ks) (event_of_layer (first_of es) ks) (part_of_layer (first_of es) ks) d

  pub event_rolls : (d : EventTree-F FieldTree GenTree Tree EventTree PartTree) → event_read (roll-EventTree d)
      ≡ event_of_layer (first_of es) ks (map-EventTree FieldTree GenTree Tree EventTree PartTree (Binding Field) (Binding Gen) Reading (Front (Binding Field)) (Front Reading) (field_read es ks) (gen_read es ks) tree_read event_read (part_read es ks) d)
  event_rolls d = fold-roll-EventTree (Binding Field) (Binding Gen) Reading (Front (Binding Field)) (Front Reading)
      (field_of_layer (first_of es) ks) (gen_of_layer (first_of es) ks) (reading_of_layer (first_of es) ks) (event_of_layer (first_of es) ks) (part_of_layer (first_of es) ks) d

  pub part_rolls : (d : PartTree-F FieldTree GenTree Tree EventTree PartTree) → part_read es ks (roll-PartTree d)
      ≡ part_of_layer (first_of es) ks (map-PartTree FieldTree GenTree Tree EventTree PartTree (Binding Field) (Binding Gen) Reading (Front (Binding Field)) (Front Reading) (field_read es ks) (gen_read es ks) tree_read event_read (part_read es ks) d)
  part_rolls d = fold-roll-PartTree (Binding Field) (Binding Gen) Reading (Front (Binding Field)) (Front Reading)
      (field_of_layer (first_of es) ks) (gen_of_layer (first_of es) ks) (reading_of_layer (first_of es) ks) (event_of_layer (first_of es) ks) (part_of_layer (first_of es) ks) d
