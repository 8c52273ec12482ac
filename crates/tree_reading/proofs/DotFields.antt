-- The trees of fields that all have a dot, one field after another.
use Rattle.tree_reading.proofs.Prelude.{◌≡◌, Option, Some, None, List, ◌∷◌, ◌++◌, sym, ap, ◌∙◌, ℕ, FieldTree, FieldTree-F, out-roll-FieldTree, Tree, and_then, with_first, dot_fields, dot_field, layer_dot}
use Rattle.csp_text.specs.declared.tree.FieldTree.TheVariants as field

-- these trees, and those of the fields that are left
abbrev pub dots_with : List Tree → List FieldTree → Option (List Tree)
dots_with trees fs = and_then (dot_fields fs) λ ts. Some (trees ++ ts)

pub dot_is : (a : Tree) → dot_field (field.Dot a) ≡ Some a
dot_is a = ap dot_field (sym (field.rolls-Dot a)) ∙ ap layer_dot (out-roll-FieldTree (FieldTree-F.«FieldTree::Dot» a))

pub output_is : (a : Tree) → dot_field (field.Output a) ≡ None
output_is a = ap dot_field (sym (field.rolls-Output a)) ∙ ap layer_dot (out-roll-FieldTree (FieldTree-F.Output a))

pub input_is : (x : List ℕ) (s : Option Tree) → dot_field (field.Input x s) ≡ None
input_is x s = ap dot_field (sym (field.rolls-Input x s)) ∙ ap layer_dot (out-roll-FieldTree (FieldTree-F.Input x s))

pub dots_more : (a : Tree) (fs : List FieldTree) → dot_fields (field.Dot a ∷ fs) ≡ with_first a (dot_fields fs)
dots_more a fs = ap (λ o. and_then o (λ x. with_first x (dot_fields fs))) (dot_is a)

pub no_dots : (f : FieldTree) (fs : List FieldTree) → dot_field f ≡ None → dot_fields (f ∷ fs) ≡ None
no_dots f fs e = ap (λ o. and_then o (λ x. with_first x (dot_fields fs))) e
