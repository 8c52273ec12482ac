-- The depths of lists, of pairs and of fields.
use Rattle.tree_parser.proofs.Prelude.{◌≡◌, ℕ, ◌+◌, max, Option, Some, None, List, [], ◌∷◌, ◌++◌, map, refl, sym, ap, subst, ◌∙◌, arith, greatest, capped, event_depth, event_layer_depth, field_depth, field_layer_depth, gen_depth, gen_layer_depth, greatest_of_pairs, part_depth, part_layer_depth, tree_depth, tree_layer_depth, EventTree, FieldTree, map-FieldTree, fold_out-FieldTree, FieldTree-F, out-FieldTree, GenTree, PartTree, Tree, event_tree, and_then, with_first, depth-event, of_field, of_tree, dot_field, dot_fields, layer_dot}
use Rattle.csp_text.specs.declared.tree.FieldTree.TheVariants as field
use Rattle.csp_text.specs.declared.tree.Tree.TheVariants as tree

-- the greatest depth of pairs is that of their parts
pub of_pairs : (pairs : List (PartTree × PartTree)) → greatest (map (λ pair. max (part_depth pair.0) (part_depth pair.1)) pairs) ≡ greatest_of_pairs (map (λ pair. (part_depth pair.0, part_depth pair.1)) pairs)
of_pairs [] = refl
of_pairs (pair ∷ pairs) = ap (max (max (part_depth pair.0) (part_depth pair.1))) (of_pairs pairs)

-- one more than the deepest of three
pub one_more_than_three : (p q g p' q' g' rest all r whole : ℕ) → p' ≡ capped p → q' ≡ capped q → g' ≡ capped g → rest ≡ max q' g' → all ≡ max p' rest
    → r ≡ capped (all + 1) → whole ≡ 1 + max p (max q g) → r ≡ capped whole
one_more_than_three p q g p' q' g' rest all r whole p_is q_is g_is rest_is all_is r_is whole_is = omega arith

-- a renaming
pub of_renaming : (p : Tree) (pairs : List (PartTree × PartTree)) (gens : List GenTree) →
    tree_depth (tree.Rename p pairs gens) ≡ 1 + max (tree_depth p) (max (greatest (map (λ pair. max (part_depth pair.0) (part_depth pair.1)) pairs)) (greatest (map gen_depth gens)))
of_renaming p pairs gens = of_tree _ (tree.rolls-Rename p pairs gens) ∙ ap (λ n. 1 + max (tree_depth p) (max n (greatest (map gen_depth gens)))) (sym (of_pairs pairs))

-- a prefix
pub of_prefix : (c : List ℕ) (fields : List FieldTree) (p : Tree) → tree_depth (tree.Prefix (event_tree c fields) p) ≡ 1 + max (greatest (map field_depth fields)) (tree_depth p)
of_prefix c fields p = of_tree _ (tree.rolls-Prefix (event_tree c fields) p) ∙ ap (λ n. 1 + max n (tree_depth p)) (depth-event c fields)

-- an input with its set
pub of_input : (x : List ℕ) (s : Tree) → field_depth (field.Input x (Some s)) ≡ tree_depth s
of_input x s = of_field _ (field.rolls-Input x (Some s))

same : {A : Type 0} {a b : A} → Some a ≡ Some b → a ≡ b
same e = cc

-- a field with a dot is as deep as its tree
of_layer : (d : FieldTree-F FieldTree GenTree Tree EventTree PartTree) (a : Tree) → layer_dot d ≡ Some a →
    field_layer_depth (map-FieldTree FieldTree GenTree Tree EventTree PartTree ℕ ℕ ℕ ℕ ℕ field_depth gen_depth tree_depth event_depth part_depth d) ≡ tree_depth a
of_layer (FieldTree-F.«FieldTree::Dot» b) a e = ap tree_depth (same e)
of_layer (FieldTree-F.Output b) a e = absurd cc
of_layer (FieldTree-F.Input x s) a e = absurd cc

of_dot : (f : FieldTree) (a : Tree) → dot_field f ≡ Some a → field_depth f ≡ tree_depth a
of_dot f a e =
    fold_out-FieldTree ℕ ℕ ℕ ℕ ℕ field_layer_depth gen_layer_depth tree_layer_depth event_layer_depth part_layer_depth f ∙ of_layer (out-FieldTree f) a e

of_first : (f : FieldTree) (fs : List FieldTree) (ts : List Tree) (one : Option Tree) (more : Option (List Tree)) → dot_field f ≡ one → dot_fields fs ≡ more →
    ((us : List Tree) → more ≡ Some us → greatest (map tree_depth us) ≡ greatest (map field_depth fs)) → and_then one (λ a. with_first a more) ≡ Some ts →
    greatest (map tree_depth ts) ≡ greatest (map field_depth (f ∷ fs))
of_first f fs ts None more is rest so_far e = absurd cc
of_first f fs ts (Some a) None is rest so_far e = absurd cc
of_first f fs ts (Some a) (Some us) is rest so_far e =
    ap (λ xs. greatest (map tree_depth xs)) (sym (same e)) ∙ ap (λ n. max n (greatest (map tree_depth us))) (sym (of_dot f a is)) ∙ ap (max (field_depth f)) (so_far us refl)

-- fields that all have a dot are as deep as their trees
pub of_dots : (fs : List FieldTree) (ts : List Tree) → dot_fields fs ≡ Some ts → greatest (map tree_depth ts) ≡ greatest (map field_depth fs)
of_dots [] ts e = ap (λ xs. greatest (map tree_depth xs)) (sym (same e))
of_dots (f ∷ fs) ts e = of_first f fs ts (dot_field f) (dot_fields fs) refl refl (of_dots fs) e
