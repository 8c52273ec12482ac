-- What each form of a tree is as a process, by the equations that are made of the folds.
use Rattle.typed_trees.proofs.Prelude.{◌≡◌, ◌+◌, Option, Some, None, List, [], ◌∷◌, map, refl, rules, EventTree, FieldTree, out-EventTree, GenTree, PartTree, Tree, Name, first_of, bindings, bindings_bind, pairs_bind, procs, under, with, head_of, number_of, definition_number, tokens, fields_tokens, pairs_tokens, Walked, past, read_at, after_fields, bound, exprs_at, field_read, fields_at, fields_scope, gens_at, pairs_at, part_read, procs_at, set_at, under_gens, Field, the_lemmas, expr_at, field_at, field_scope, part_at, proc_at}
use Rattle.csp_text.specs.declared.tree.EventTree.{the_lemmas as event_lemmas}
use Rattle.csp_text.specs.declared.tree.FieldTree.TheVariants as fieldtree
use Rattle.csp_text.specs.declared.tree.Tree.TheVariants as tree
use Rattle.csp_program.specs.declared.processes.Proc.TheVariants as proc
use Rattle.script_names.specs.Typed as typed
use Rattle.typed_trees.proofs.SameTokens.{same_tree, same_field, same_part}
use Rattle.typed_trees.proofs.ExprForms.{exprs_are, gens_are, gens_under}

pub fields_bind : (w : Walked) (fs : List FieldTree) → bindings_bind (map (field_read w.names w.kinds) fs) ≡ fields_tokens fs
fields_bind w [] = refl
fields_bind w (f ∷ fs) = λ i. same_field w.names w.kinds f i + fields_bind w fs i

pub sides_bind : (w : Walked) (ps : List (PartTree × PartTree))
    → pairs_bind (map (λ p. (part_read w.names w.kinds p.0, part_read w.names w.kinds p.1)) ps) ≡ pairs_tokens ps
sides_bind w [] = refl
sides_bind w (p ∷ ps) = λ i. same_part w.names w.kinds p.0 i + same_part w.names w.kinds p.1 i + sides_bind w ps i

pub procs_are : (w : Walked) (ts : List Tree) → procs (map (read_at w) ts) w.scope w.next ≡ procs_at w ts
unfolding proc_at
procs_are w [] = refl
procs_are w (t ∷ ts) = λ i. proc_at w t ∷ procs_are (past w (same_tree w.names w.kinds t i)) ts i

pub fields_are : (w : Walked) (fs : List FieldTree) → bindings (map (field_read w.names w.kinds) fs) w.scope w.next ≡ fields_at w fs
unfolding field_at field_scope
fields_are w [] = refl
fields_are w (f ∷ fs) =
    λ i. field_at w f ∷ fields_are (record w { scope = field_scope w f; next = w.next + same_field w.names w.kinds f i }) fs i

pub fields_under : (w : Walked) (fs : List FieldTree) → under (map (field_read w.names w.kinds) fs) w.scope w.next ≡ fields_scope w fs
unfolding field_scope
fields_under w [] = refl
fields_under w (f ∷ fs) = λ i. fields_under (record w { scope = field_scope w f; next = w.next + same_field w.names w.kinds f i }) fs i

pub pairs_are : (w : Walked) (ps : List (PartTree × PartTree))
    → typed.pairs (first_of w.names) w.kinds (map (λ p. (part_read w.names w.kinds p.0, part_read w.names w.kinds p.1)) ps) w.scope w.next
    ≡ pairs_at w ps
unfolding part_at
pairs_are w [] = refl
pairs_are w (p ∷ ps) = λ i.
    (part_at w p.0, part_at (past w (same_part w.names w.kinds p.0 i)) p.1)
    ∷ pairs_are (past (past w (same_part w.names w.kinds p.0 i)) (same_part w.names w.kinds p.1 i)) ps i

module _ (w : Walked) where
  pub field-Dot : (t : Tree) → field_at w (fieldtree.Dot t) ≡ Field.Put (expr_at w t)
  unfolding field_at expr_at
  field-Dot t = search (rules, the_lemmas)

  pub field-Output : (t : Tree) → field_at w (fieldtree.Output t) ≡ Field.Put (expr_at w t)
  unfolding field_at expr_at
  field-Output t = search (rules, the_lemmas)

  pub field-Input : (x : Name) (o : Option Tree) → field_at w (fieldtree.Input x o) ≡ Field.Get w.next (set_at (past w 1) o)
  unfolding field_at expr_at
  field-Input x None = search (rules, the_lemmas)
  field-Input x (Some t) = search (rules, the_lemmas)

  pub field_scope-Dot : (t : Tree) → field_scope w (fieldtree.Dot t) ≡ w.scope
  unfolding field_scope
  field_scope-Dot t = search (rules, the_lemmas)

  pub field_scope-Output : (t : Tree) → field_scope w (fieldtree.Output t) ≡ w.scope
  unfolding field_scope
  field_scope-Output t = search (rules, the_lemmas)

  pub field_scope-Input : (x : Name) (o : Option Tree) → field_scope w (fieldtree.Input x o) ≡ with w.scope x w.next
  unfolding field_scope
  field_scope-Input x None = search (rules, the_lemmas)
  field_scope-Input x (Some t) = search (rules, the_lemmas)

  pub proc-Stop : proc_at w tree.Stop ≡ proc.Stop
  unfolding proc_at
  proc-Stop = search (rules, the_lemmas)

  pub proc-Skip : proc_at w tree.Skip ≡ proc.Skip
  unfolding proc_at
  proc-Skip = search (rules, the_lemmas)

  pub proc-Name : (x : Name) → proc_at w (tree.Name x) ≡ proc.Call (definition_number (first_of w.names x)) []
  unfolding proc_at
  proc-Name x = search (rules, the_lemmas)

  pub proc-Call : (f : Name) (args : List Tree)
      → proc_at w (tree.Call f args) ≡ proc.Call (definition_number (first_of w.names f)) (exprs_at w args)
  unfolding proc_at
  proc-Call f args = search (rules, the_lemmas, exprs_are w args)

  pub proc-If : (c a b : Tree)
      → proc_at w (tree.If c a b) ≡ proc.If (expr_at w c) (proc_at (past w (tokens c)) a) (proc_at (past (past w (tokens c)) (tokens a)) b)
  unfolding proc_at expr_at
  proc-If c a b = search (rules, the_lemmas, same_tree w.names w.kinds c, same_tree w.names w.kinds a)

  pub proc-Prefix : (event : EventTree) (p : Tree) → proc_at w (tree.Prefix event p)
      ≡ proc.Prefix (head_of (number_of w.scope (out-EventTree event).name) (first_of w.names (out-EventTree event).name))
      (fields_at w (out-EventTree event).fields)
      (proc_at (after_fields w (out-EventTree event).fields) p)
  unfolding proc_at
  proc-Prefix event p = search (
    rules,
    the_lemmas,
    event_lemmas,
    fields_are w (out-EventTree event).fields,
    fields_under w (out-EventTree event).fields,
    fields_bind w (out-EventTree event).fields,
  )

  pub proc-Guard : (c p : Tree) → proc_at w (tree.Guard c p) ≡ proc.Guard (expr_at w c) (proc_at (past w (tokens c)) p)
  unfolding proc_at expr_at
  proc-Guard c p = search (rules, the_lemmas, same_tree w.names w.kinds c)

  pub proc-External : (ps : List Tree) → proc_at w (tree.External ps) ≡ proc.External (procs_at w ps)
  unfolding proc_at
  proc-External ps = search (rules, the_lemmas, procs_are w ps)

  pub proc-Internal : (ps : List Tree) → proc_at w (tree.Internal ps) ≡ proc.Internal (procs_at w ps)
  unfolding proc_at
  proc-Internal ps = search (rules, the_lemmas, procs_are w ps)

  pub proc-EachExternal : (x : Name) (s p : Tree)
      → proc_at w (tree.EachExternal x s p) ≡ proc.EachExternal w.next (expr_at (past w 1) s) (proc_at (past (bound w x) (tokens s)) p)
  unfolding proc_at expr_at
  proc-EachExternal x s p = search (rules, the_lemmas, same_tree w.names w.kinds s)

  pub proc-EachInternal : (x : Name) (s p : Tree)
      → proc_at w (tree.EachInternal x s p) ≡ proc.EachInternal w.next (expr_at (past w 1) s) (proc_at (past (bound w x) (tokens s)) p)
  unfolding proc_at expr_at
  proc-EachInternal x s p = search (rules, the_lemmas, same_tree w.names w.kinds s)

  pub proc-Seq : (p q : Tree) → proc_at w (tree.Seq p q) ≡ proc.Seq (proc_at w p) (proc_at (past w (tokens p)) q)
  unfolding proc_at
  proc-Seq p q = search (rules, the_lemmas, same_tree w.names w.kinds p)

  pub proc-Hide : (p s : Tree) → proc_at w (tree.Hide p s) ≡ proc.Hide (proc_at w p) (expr_at (past w (tokens p)) s)
  unfolding proc_at expr_at
  proc-Hide p s = search (rules, the_lemmas, same_tree w.names w.kinds p)

  pub proc-Rename : (p : Tree) (sides : List (PartTree × PartTree)) (gens : List GenTree) → proc_at w (tree.Rename p sides gens)
      ≡ proc.Rename (proc_at w p) (pairs_at (under_gens (past w (tokens p)) (pairs_tokens sides) gens) sides)
      (gens_at (past (past w (tokens p)) (pairs_tokens sides)) gens)
  unfolding proc_at
  proc-Rename p sides gens = search (
    rules,
    the_lemmas,
    same_tree w.names w.kinds p,
    sides_bind w sides,
    gens_are (past (past w (tokens p)) (pairs_tokens sides)) gens,
    gens_under (past (past w (tokens p)) (pairs_tokens sides)) gens,
    pairs_are (under_gens (past w (tokens p)) (pairs_tokens sides) gens) sides,
  )

pub ruleset field_forms = (field-Dot, field-Output, field-Input, field_scope-Dot, field_scope-Output, field_scope-Input)

pub ruleset proc_forms = (proc-Stop, proc-Skip, proc-Name, proc-Call, proc-If, proc-Prefix, proc-Guard, proc-External, proc-Internal, proc-EachExternal, proc-EachInternal, proc-Seq, proc-Hide, proc-Rename)
