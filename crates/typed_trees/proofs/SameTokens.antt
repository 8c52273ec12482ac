-- The binding tokens of a tree are as many whatever its names mean.
use Rattle.typed_trees.proofs.Prelude.{◌≡◌, ℕ, ◌+◌, Some, None, List, [], ◌∷◌, map, refl, ap, sym, ◌∙◌, subst, arith, EventTree, FieldTree, map-FieldTree, map-GenTree, map-Tree, map-EventTree, map-PartTree, ind-FieldTree, ind-GenTree, ind-Tree, ind-PartTree, FieldTree-F, GenTree-F, Tree-F, EventTree-F, PartTree-F, roll-FieldTree, roll-GenTree, roll-Tree, roll-EventTree, roll-PartTree, GenTree, PartTree, Tree, Gen, Field, Entities, first_of, Binding, Front, Reading, all_bind, bindings_bind, parts_bind, pairs_bind, binds_of_layer, field_of_layer, gen_of_layer, Kind, total_of_pairs, tokens, field_tokens, gen_tokens, event_tokens, part_tokens, tokens_of_layer, field_tokens_of_layer, gen_tokens_of_layer, field_read, gen_read, part_read, tree_counts, field_counts, gen_counts, event_counts, part_counts, total}
use Rattle.typed_trees.proofs.Rolls.{event_read, tree_read, layer_read, tree_rolls, field_rolls, gen_rolls, event_rolls, part_rolls}

module _ (es : Entities) (ks : List Kind) where
  abbrev SameTree : Tree → Type 0
  SameTree t = (tree_read es ks t).binds ≡ tokens t

  abbrev SameField : FieldTree → Type 0
  SameField f = (field_read es ks f).binds ≡ field_tokens f

  abbrev SameGen : GenTree → Type 0
  SameGen g = (gen_read es ks g).binds ≡ gen_tokens g

  abbrev SameEvent : EventTree → Type 0
  SameEvent e = bindings_bind (event_read es ks e).fields ≡ event_tokens e

  abbrev SamePart : PartTree → Type 0
  SamePart p = all_bind (part_read es ks p).fields ≡ part_tokens p

  abbrev KnownTree : Type 0
  KnownTree = (t : Tree) × SameTree t

  abbrev KnownField : Type 0
  KnownField = (f : FieldTree) × SameField f

  abbrev KnownGen : Type 0
  KnownGen = (g : GenTree) × SameGen g

  abbrev KnownEvent : Type 0
  KnownEvent = (e : EventTree) × SameEvent e

  abbrev KnownPart : Type 0
  KnownPart = (p : PartTree) × SamePart p

  trees_same : (ts : List KnownTree) → all_bind (map (tree_read es ks) (map (λ t. t.0) ts)) ≡ total (map tokens (map (λ t. t.0) ts))
  trees_same [] = refl
  trees_same (t ∷ ts) = λ i. t.1 i + trees_same ts i

  fields_same : (fs : List KnownField) → bindings_bind (map (field_read es ks) (map (λ f. f.0) fs)) ≡ total (map field_tokens (map (λ f. f.0) fs))
  fields_same [] = refl
  fields_same (f ∷ fs) = λ i. f.1 i + fields_same fs i

  gens_same : (gs : List KnownGen) → bindings_bind (map (gen_read es ks) (map (λ g. g.0) gs)) ≡ total (map gen_tokens (map (λ g. g.0) gs))
  gens_same [] = refl
  gens_same (g ∷ gs) = λ i. g.1 i + gens_same gs i

  parts_same : (ps : List KnownPart) → parts_bind (map (part_read es ks) (map (λ p. p.0) ps)) ≡ total (map part_tokens (map (λ p. p.0) ps))
  parts_same [] = refl
  parts_same (p ∷ ps) = λ i. p.1 i + parts_same ps i

  pairs_same : (ps : List (KnownPart × KnownPart))
      → pairs_bind (map (λ (p : PartTree × PartTree). (part_read es ks p.0, part_read es ks p.1)) (map (λ (p : KnownPart × KnownPart). (p.0.0, p.1.0)) ps)) ≡ total_of_pairs (map (λ (p : PartTree × PartTree). (part_tokens p.0, part_tokens p.1)) (map (λ (p : KnownPart × KnownPart). (p.0.0, p.1.0)) ps))
  pairs_same [] = refl
  pairs_same (p ∷ ps) = λ i. p.0.1 i + p.1.1 i + pairs_same ps i

  abbrev bare : Tree-F KnownField KnownGen KnownTree KnownEvent KnownPart → Tree-F FieldTree GenTree Tree EventTree PartTree
  bare y = map-Tree KnownField KnownGen KnownTree KnownEvent KnownPart FieldTree GenTree Tree EventTree PartTree (λ f. f.0) (λ g. g.0) (λ t. t.0) (λ e. e.0) (λ p. p.0) y

  abbrev Layers : Tree-F FieldTree GenTree Tree EventTree PartTree → Type 0
  Layers d =
      binds_of_layer (first_of es) ks (layer_read es ks d)
      ≡ tokens_of_layer (map-Tree FieldTree GenTree Tree EventTree PartTree ℕ ℕ ℕ ℕ ℕ field_tokens gen_tokens tokens event_tokens part_tokens d)

  layer : (y : Tree-F KnownField KnownGen KnownTree KnownEvent KnownPart) → Layers (bare y)
  layer (Tree-F.Call f args) = λ i. trees_same args i
  layer (Tree-F.«Tree::Dot» c fields) = λ i. trees_same fields i
  layer (Tree-F.Neg a) = λ i. a.1 i
  layer (Tree-F.Not a) = λ i. a.1 i
  layer (Tree-F.Binary op a b) = λ i. a.1 i + b.1 i
  layer (Tree-F.If c a b) = omega (arith, c.1, a.1, b.1)
  layer (Tree-F.Display items) = λ i. trees_same items i
  layer (Tree-F.Range a b) = λ i. a.1 i + b.1 i
  layer (Tree-F.Comp items gens) = λ i. trees_same items i + gens_same gens i
  layer (Tree-F.Product fronts gens) = λ i. parts_same fronts i + gens_same gens i
  layer (Tree-F.SetOp op a b) = λ i. a.1 i + b.1 i
  layer (Tree-F.Prefix event p) = λ i. event.1 i + p.1 i
  layer (Tree-F.Guard c p) = λ i. c.1 i + p.1 i
  layer (Tree-F.External ps) = λ i. trees_same ps i
  layer (Tree-F.Internal ps) = λ i. trees_same ps i
  layer (Tree-F.EachExternal x s p) = λ i. 1 + s.1 i + p.1 i
  layer (Tree-F.EachInternal x s p) = λ i. 1 + s.1 i + p.1 i
  layer (Tree-F.Parallel p a b q) = omega (arith, p.1, a.1, b.1, q.1)
  layer (Tree-F.EachParallel x s a p) = λ i. 1 + s.1 i + a.1 i + p.1 i
  layer (Tree-F.Seq p q) = λ i. p.1 i + q.1 i
  layer (Tree-F.Hide p s) = λ i. p.1 i + s.1 i
  layer (Tree-F.Rename p fronts gens) = omega (arith, p.1, pairs_same fronts, gens_same gens)
  layer _ = refl

  tree_step : (z : Tree-F FieldTree GenTree Tree EventTree PartTree) (y : Tree-F KnownField KnownGen KnownTree KnownEvent KnownPart) → bare y ≡ z
      → SameTree (roll-Tree z)
  tree_step z y e =
      ap (λ r. r.binds) (tree_rolls es ks z)
      ∙ subst Layers e (layer y)
      ∙ sym (tree_counts z)

  abbrev FieldLayers : FieldTree-F FieldTree GenTree Tree EventTree PartTree → Type 0
  FieldLayers d =
      (field_of_layer (first_of es) ks (map-FieldTree FieldTree GenTree Tree EventTree PartTree (Binding Field) (Binding Gen) Reading (Front (Binding Field)) (Front Reading) (field_read es ks) (gen_read es ks) (tree_read es ks) (event_read es ks) (part_read es ks) d)).binds
      ≡ field_tokens_of_layer (map-FieldTree FieldTree GenTree Tree EventTree PartTree ℕ ℕ ℕ ℕ ℕ field_tokens gen_tokens tokens event_tokens part_tokens d)

  field_layer : (y : FieldTree-F KnownField KnownGen KnownTree KnownEvent KnownPart)
      → FieldLayers (map-FieldTree KnownField KnownGen KnownTree KnownEvent KnownPart FieldTree GenTree Tree EventTree PartTree (λ f. f.0) (λ g. g.0) (λ t. t.0) (λ e. e.0) (λ p. p.0) y)
  field_layer (FieldTree-F.«FieldTree::Dot» a) = a.1
  field_layer (FieldTree-F.Output a) = a.1
  field_layer (FieldTree-F.Input x None) = refl
  field_layer (FieldTree-F.Input x (Some s)) = λ i. 1 + s.1 i

  field_step : (z : FieldTree-F FieldTree GenTree Tree EventTree PartTree) (y : FieldTree-F KnownField KnownGen KnownTree KnownEvent KnownPart) → map-FieldTree KnownField KnownGen KnownTree KnownEvent KnownPart FieldTree GenTree Tree EventTree PartTree (λ f. f.0) (λ g. g.0) (λ t. t.0) (λ e. e.0) (λ p. p.0) y ≡ z
      → SameField (roll-FieldTree z)
  field_step z y e =
      ap (λ b. b.binds) (field_rolls es ks z)
      ∙ subst FieldLayers e (field_layer y)
      ∙ sym (field_counts z)

  abbrev GenLayers : GenTree-F FieldTree GenTree Tree EventTree PartTree → Type 0
  GenLayers d =
      (gen_of_layer (first_of es) ks (map-GenTree FieldTree GenTree Tree EventTree PartTree (Binding Field) (Binding Gen) Reading (Front (Binding Field)) (Front Reading) (field_read es ks) (gen_read es ks) (tree_read es ks) (event_read es ks) (part_read es ks) d)).binds
      ≡ gen_tokens_of_layer (map-GenTree FieldTree GenTree Tree EventTree PartTree ℕ ℕ ℕ ℕ ℕ field_tokens gen_tokens tokens event_tokens part_tokens d)

  gen_layer : (y : GenTree-F KnownField KnownGen KnownTree KnownEvent KnownPart)
      → GenLayers (map-GenTree KnownField KnownGen KnownTree KnownEvent KnownPart FieldTree GenTree Tree EventTree PartTree (λ f. f.0) (λ g. g.0) (λ t. t.0) (λ e. e.0) (λ p. p.0) y)
  gen_layer (GenTree-F.From x s) = λ i. 1 + s.1 i
  gen_layer (GenTree-F.Cond c) = c.1

  gen_step : (z : GenTree-F FieldTree GenTree Tree EventTree PartTree) (y : GenTree-F KnownField KnownGen KnownTree KnownEvent KnownPart) → map-GenTree KnownField KnownGen KnownTree KnownEvent KnownPart FieldTree GenTree Tree EventTree PartTree (λ f. f.0) (λ g. g.0) (λ t. t.0) (λ e. e.0) (λ p. p.0) y ≡ z
      → SameGen (roll-GenTree z)
  gen_step z y e =
      ap (λ b. b.binds) (gen_rolls es ks z)
      ∙ subst GenLayers e (gen_layer y)
      ∙ sym (gen_counts z)

  event_step : (z : EventTree-F FieldTree GenTree Tree EventTree PartTree) (y : EventTree-F KnownField KnownGen KnownTree KnownEvent KnownPart) → map-EventTree KnownField KnownGen KnownTree KnownEvent KnownPart FieldTree GenTree Tree EventTree PartTree (λ f. f.0) (λ g. g.0) (λ t. t.0) (λ e. e.0) (λ p. p.0) y ≡ z
      → SameEvent (roll-EventTree z)
  event_step z y e =
      subst (λ w. SameEvent (roll-EventTree w)) e
      (ap (λ f. bindings_bind f.fields) (event_rolls es ks (record { name = y.name; fields = map (λ f. f.0) y.fields }))
      ∙ fields_same y.fields
      ∙ sym (event_counts (record { name = y.name; fields = map (λ f. f.0) y.fields })))

  part_step : (z : PartTree-F FieldTree GenTree Tree EventTree PartTree) (y : PartTree-F KnownField KnownGen KnownTree KnownEvent KnownPart) → map-PartTree KnownField KnownGen KnownTree KnownEvent KnownPart FieldTree GenTree Tree EventTree PartTree (λ f. f.0) (λ g. g.0) (λ t. t.0) (λ e. e.0) (λ p. p.0) y ≡ z
      → SamePart (roll-PartTree z)
  part_step z y e =
      subst (λ w. SamePart (roll-PartTree w)) e
      (ap (λ f. all_bind f.fields) (part_rolls es ks (record { name = y.name; fields = map (λ t. t.0) y.fields }))
      ∙ trees_same y.fields
      ∙ sym (part_counts (record { name = y.name; fields = map (λ t. t.0) y.fields })))

  pub same_tree : (t : Tree) → SameTree t
  same_tree = ind-Tree SameField SameGen SameTree SameEvent SamePart field_step gen_step tree_step event_step part_step

  pub same_field : (f : FieldTree) → SameField f
  same_field = ind-FieldTree SameField SameGen SameTree SameEvent SamePart field_step gen_step tree_step event_step part_step

  pub same_gen : (g : GenTree) → SameGen g
  same_gen = ind-GenTree SameField SameGen SameTree SameEvent SamePart field_step gen_step tree_step event_step part_step

  pub same_part : (p : PartTree) → SamePart p
  same_part = ind-PartTree SameField SameGen SameTree SameEvent SamePart field_step gen_step tree_step event_step part_step
