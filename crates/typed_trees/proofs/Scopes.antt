-- Names that are bound behind others leave these as they are.
use Rattle.typed_trees.proofs.Prelude.{◌≡◌, ◌+◌, ◌≤◌, min, List, [], ◌∷◌, ◌++◌, length, take, sym, ap, ◌∙◌, subst, arith, EventTree, FieldTree, FieldTree-F, GenTree-F, out-FieldTree, out-GenTree, roll-FieldTree, roll-GenTree, roll-out-FieldTree, roll-out-GenTree, GenTree, PartTree, Tree, Scope, Walked, after_field, after_gen, field_scope, fields_scope, gen_scope, gens_scope, take-append_seam, take-length, length-take, take-take}
use Rattle.csp_text.specs.declared.tree.FieldTree.TheVariants as fieldtree
use Rattle.csp_text.specs.declared.tree.GenTree.TheVariants as gentree
use Rattle.typed_trees.proofs.ExprForms.{gen_scope-From, gen_scope-Cond}
use Rattle.typed_trees.proofs.ProcForms.{field_scope-Dot, field_scope-Output, field_scope-Input}

-- the new scope begins with the old one
abbrev Keeps : Scope → Scope → Type 0
Keeps old new = take (length old) new ≡ old

kept_within : (old new : Scope) → Keeps old new → length old ≤ length new
kept_within old new kept =
    let cut : min (length old) (length new) ≡ length old = sym (length-take (length old) new) ∙ ap length kept in
    omega arith

keeps_on : (a b c : Scope) → Keeps a b → Keeps b c → Keeps a c
keeps_on a b c first second =
    sym (take-take (length a) (length b) c (kept_within a b first)) ∙ ap (take (length a)) second ∙ first

pub left_one : (s t : Scope) → take (length s) (s ++ t) ≡ s
left_one s t = take-append_seam s t

gen_layer : (w : Walked) (d : GenTree-F FieldTree GenTree Tree EventTree PartTree) → Keeps w.scope (gen_scope w (roll-GenTree d))
gen_layer w (GenTree-F.From x t) = rw (gentree.rolls-From x t, gen_scope-From) (left_one w.scope ((x, w.next) ∷ []))
gen_layer w (GenTree-F.Cond t) = rw (gentree.rolls-Cond t, gen_scope-Cond) (take-length w.scope)

left_gen : (w : Walked) (g : GenTree) → Keeps w.scope (gen_scope w g)
left_gen w g = subst (λ u. Keeps w.scope (gen_scope w u)) (roll-out-GenTree g) (gen_layer w (out-GenTree g))

field_layer : (w : Walked) (d : FieldTree-F FieldTree GenTree Tree EventTree PartTree) → Keeps w.scope (field_scope w (roll-FieldTree d))
field_layer w (FieldTree-F.«FieldTree::Dot» t) = rw (fieldtree.rolls-Dot t, field_scope-Dot) (take-length w.scope)
field_layer w (FieldTree-F.Output t) = rw (fieldtree.rolls-Output t, field_scope-Output) (take-length w.scope)
field_layer w (FieldTree-F.Input x o) = rw (fieldtree.rolls-Input x o, field_scope-Input) (left_one w.scope ((x, w.next) ∷ []))

left_field : (w : Walked) (f : FieldTree) → Keeps w.scope (field_scope w f)
left_field w f = subst (λ u. Keeps w.scope (field_scope w u)) (roll-out-FieldTree f) (field_layer w (out-FieldTree f))

pub left_gens : (w : Walked) (gs : List GenTree) → take (length w.scope) (gens_scope w gs) ≡ w.scope
left_gens w [] = take-length w.scope
left_gens w (g ∷ gs) = keeps_on w.scope (gen_scope w g) (gens_scope (after_gen w g) gs) (left_gen w g) (left_gens (after_gen w g) gs)

pub left_fields : (w : Walked) (fs : List FieldTree) → take (length w.scope) (fields_scope w fs) ≡ w.scope
left_fields w [] = take-length w.scope
left_fields w (f ∷ fs) = keeps_on w.scope (field_scope w f) (fields_scope (after_field w f) fs) (left_field w f) (left_fields (after_field w f) fs)

pub ruleset scope_laws = (left_one, left_gens, left_fields)
