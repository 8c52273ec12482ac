-- What trees say and what they are read as are folds over the five kinds of trees: `of_..` is a fold on a kind, `.._layer` what it gives for one layer
-- above trees, and `.._is` says that both agree.
use Rattle.typed_laws.proofs.Sources.{◌≡◌, List, map, sym, subst, ends_of_layer, Meanings, Name, Binder, Fields, Said, event_says_of_layer, field_says_of_layer, gen_says_of_layer, part_says_of_layer, tree_says, tree_says_of_layer, Binding, Front, Reading, event_of_layer, field_of_layer, gen_of_layer, part_of_layer, reading, reading_of_layer, event_tree, part_tree, End, EventTree, EventTree-F, Field, FieldTree, FieldTree-F, Gen, GenTree, GenTree-F, Kind, PartTree, PartTree-F, Tree, Tree-F, fold-EventTree, fold-FieldTree, fold-GenTree, fold-PartTree, fold-Tree, fold-roll-EventTree, fold-roll-FieldTree, fold-roll-GenTree, fold-roll-PartTree, fold-roll-Tree, map-FieldTree, map-GenTree, map-Tree, roll-FieldTree, roll-GenTree, roll-Tree}

-- what a fold gives for each layer
pub record Fold (F G T E P : Type 0) : Type 0 where
  pub field : FieldTree-F F G T E P → F
  pub gen : GenTree-F F G T E P → G
  pub tree : Tree-F F G T E P → T
  pub event : EventTree-F F G T E P → E
  pub part : PartTree-F F G T E P → P

abbrev pub FieldLayer : Type 0
FieldLayer = FieldTree-F FieldTree GenTree Tree EventTree PartTree

abbrev pub GenLayer : Type 0
GenLayer = GenTree-F FieldTree GenTree Tree EventTree PartTree

abbrev pub TreeLayer : Type 0
TreeLayer = Tree-F FieldTree GenTree Tree EventTree PartTree

module _ {F G T E P : Type 0} (a : Fold F G T E P) where
  abbrev pub of_field : FieldTree → F
  of_field = fold-FieldTree F G T E P a.field a.gen a.tree a.event a.part

  abbrev pub of_gen : GenTree → G
  of_gen = fold-GenTree F G T E P a.field a.gen a.tree a.event a.part

  abbrev pub of_tree : Tree → T
  of_tree = fold-Tree F G T E P a.field a.gen a.tree a.event a.part

  abbrev pub of_event : EventTree → E
  of_event = fold-EventTree F G T E P a.field a.gen a.tree a.event a.part

  abbrev pub of_part : PartTree → P
  of_part = fold-PartTree F G T E P a.field a.gen a.tree a.event a.part

  abbrev pub field_layer : FieldLayer → F
  field_layer d = a.field (map-FieldTree FieldTree GenTree Tree EventTree PartTree F G T E P of_field of_gen of_tree of_event of_part d)

  abbrev pub gen_layer : GenLayer → G
  gen_layer d = a.gen (map-GenTree FieldTree GenTree Tree EventTree PartTree F G T E P of_field of_gen of_tree of_event of_part d)

  abbrev pub tree_parts : TreeLayer → Tree-F F G T E P
  tree_parts d = map-Tree FieldTree GenTree Tree EventTree PartTree F G T E P of_field of_gen of_tree of_event of_part d

  abbrev pub tree_layer : TreeLayer → T
  tree_layer d = a.tree (tree_parts d)

  pub field_is : (d : FieldLayer) → of_field (roll-FieldTree d) ≡ field_layer d
  field_is d = fold-roll-FieldTree F G T E P a.field a.gen a.tree a.event a.part d

  pub gen_is : (d : GenLayer) → of_gen (roll-GenTree d) ≡ gen_layer d
  gen_is d = fold-roll-GenTree F G T E P a.field a.gen a.tree a.event a.part d

  pub tree_is : (d : TreeLayer) → of_tree (roll-Tree d) ≡ tree_layer d
  tree_is d = fold-roll-Tree F G T E P a.field a.gen a.tree a.event a.part d

  pub event_is : (x : Name) (ts : List FieldTree) → of_event (event_tree x ts) ≡ a.event (record { name = x; fields = map of_field ts })
  event_is x ts = fold-roll-EventTree F G T E P a.field a.gen a.tree a.event a.part (record { name = x; fields = ts })

  pub part_is : (x : Name) (ts : List Tree) → of_part (part_tree x ts) ≡ a.part (record { name = x; fields = map of_tree ts })
  part_is x ts = fold-roll-PartTree F G T E P a.field a.gen a.tree a.event a.part (record { name = x; fields = ts })

-- what holds of two values holds of their equals
pub both : {A B : Type 0} (R : A → B → Type 0) {a a' : A} {b b' : B} → a ≡ a' → b ≡ b' → R a' b' → R a b
both R {a} {a'} {b} {b'} e g h = subst (λ z. R z b) (sym e) (subst (R a') (sym g) h)

abbrev pub ending : Meanings → List Name → Fold (Unit {0}) (Unit {0}) (List End) (Unit {0}) (Unit {0})
ending m names = record { field = λ d. tt; gen = λ d. tt; tree = ends_of_layer m names; event = λ d. tt; part = λ d. tt }

module _ (m : Meanings) (ks : List Kind) where
  abbrev pub saying : Fold Binder Binder Said (Fields Binder) (Fields Said)
  saying = record {
    field = field_says_of_layer m;
    gen = gen_says_of_layer m;
    tree = tree_says_of_layer m;
    event = event_says_of_layer m;
    part = part_says_of_layer m;
  }

  abbrev pub reads : Fold (Binding Field) (Binding Gen) Reading (Front (Binding Field)) (Front Reading)
  reads = record {
    field = field_of_layer m ks;
    gen = gen_of_layer m ks;
    tree = reading_of_layer m ks;
    event = event_of_layer m ks;
    part = part_of_layer m ks;
  }

  -- what holds of a layer holds of the tree that is rolled of it
  module _ (R : FieldTree → Binder → Binding Field → Type 0) where
    pub field_rolled : (d : FieldLayer) {t : FieldTree} → roll-FieldTree d ≡ t → R t (field_layer saying d) (field_layer reads d)
        → R (roll-FieldTree d) (of_field saying (roll-FieldTree d)) (of_field reads (roll-FieldTree d))
    field_rolled d is h =
        both (R (roll-FieldTree d)) (field_is saying d) (field_is reads d) (subst (λ t. R t (field_layer saying d) (field_layer reads d)) (sym is) h)

    pub at_field : (d : FieldLayer) {t : FieldTree} → roll-FieldTree d ≡ t → R t (field_layer saying d) (field_layer reads d)
        → R t (of_field saying t) (of_field reads t)
    at_field d is h = subst (λ t. R t (of_field saying t) (of_field reads t)) is (field_rolled d is h)

  module _ (R : GenTree → Binder → Binding Gen → Type 0) where
    pub gen_rolled : (d : GenLayer) {t : GenTree} → roll-GenTree d ≡ t → R t (gen_layer saying d) (gen_layer reads d)
        → R (roll-GenTree d) (of_gen saying (roll-GenTree d)) (of_gen reads (roll-GenTree d))
    gen_rolled d is h =
        both (R (roll-GenTree d)) (gen_is saying d) (gen_is reads d) (subst (λ t. R t (gen_layer saying d) (gen_layer reads d)) (sym is) h)

    pub at_gen : (d : GenLayer) {t : GenTree} → roll-GenTree d ≡ t → R t (gen_layer saying d) (gen_layer reads d)
        → R t (of_gen saying t) (of_gen reads t)
    at_gen d is h = subst (λ t. R t (of_gen saying t) (of_gen reads t)) is (gen_rolled d is h)

  module _ (R : Tree → Said → Reading → Type 0) where
    pub tree_rolled : (d : TreeLayer) {t : Tree} → roll-Tree d ≡ t → R t (tree_layer saying d) (tree_layer reads d)
        → R (roll-Tree d) (tree_says m (roll-Tree d)) (reading m ks (roll-Tree d))
    tree_rolled d is h =
        both (R (roll-Tree d)) (tree_is saying d) (tree_is reads d) (subst (λ t. R t (tree_layer saying d) (tree_layer reads d)) (sym is) h)

    pub at_tree : (d : TreeLayer) {t : Tree} → roll-Tree d ≡ t → R t (tree_layer saying d) (tree_layer reads d)
        → R t (tree_says m t) (reading m ks t)
    at_tree d is h = subst (λ t. R t (tree_says m t) (reading m ks t)) is (tree_rolled d is h)

  pub at_event : (R : Fields Binder → Front (Binding Field) → Type 0) (x : Name) (ts : List FieldTree)
      → R (record { name = x; fields = map (of_field saying) ts }) (record { name = x; fields = map (of_field reads) ts })
      → R (of_event saying (event_tree x ts)) (of_event reads (event_tree x ts))
  at_event R x ts h = both R (event_is saying x ts) (event_is reads x ts) h

  pub at_part : (R : Fields Said → Front Reading → Type 0) (x : Name) (ts : List Tree)
      → R (record { name = x; fields = map (tree_says m) ts }) (record { name = x; fields = map (reading m ks) ts })
      → R (of_part saying (part_tree x ts)) (of_part reads (part_tree x ts))
  at_part R x ts h = both R (part_is saying x ts) (part_is reads x ts) h
