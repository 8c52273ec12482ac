-- What each form of a tree is as an expression, by the equations that are made of the folds.
use Rattle.typed_trees.proofs.Prelude.{◌≡◌, ℕ, ◌+◌, pos, true, false, List, [], ◌∷◌, map, refl, ◌∙◌, rules, BinOp, SetOp, out-PartTree, GenTree, PartTree, Tree, Name, first_of, bindings, exprs, under, with, named, number_of, all_bind, parts_bind, channel_number, definition_number, tokens, all_tokens, parts_tokens, Walked, past, read_at, gen_read, part_read, exprs_at, gens_at, gens_scope, parts_at, under_gens, the_lemmas, roll-EventPart, expr_at, gen_at, gen_scope, part_at}
use Rattle.csp_text.specs.declared.tree.PartTree.{the_lemmas as part_lemmas}
use Rattle.csp_text.specs.declared.tree.GenTree.TheVariants as gentree
use Rattle.csp_text.specs.declared.tree.Tree.TheVariants as tree
use Rattle.csp_program.specs.declared.expressions.Expr.TheVariants as expr
use Rattle.csp_program.specs.declared.expressions.Gen.TheVariants as generator
use Rattle.script_names.specs.Typed as typed
use Rattle.typed_trees.proofs.SameTokens.{same_tree, same_gen, same_part}

pub trees_bind : (w : Walked) (ts : List Tree) → all_bind (map (read_at w) ts) ≡ all_tokens ts
trees_bind w [] = refl
trees_bind w (t ∷ ts) = λ i. same_tree w.names w.kinds t i + trees_bind w ts i

pub fronts_bind : (w : Walked) (ps : List PartTree) → parts_bind (map (part_read w.names w.kinds) ps) ≡ parts_tokens ps
fronts_bind w [] = refl
fronts_bind w (p ∷ ps) = λ i. same_part w.names w.kinds p i + fronts_bind w ps i

pub exprs_are : (w : Walked) (ts : List Tree) → exprs (map (read_at w) ts) w.scope w.next ≡ exprs_at w ts
unfolding expr_at
exprs_are w [] = refl
exprs_are w (t ∷ ts) = λ i. expr_at w t ∷ exprs_are (past w (same_tree w.names w.kinds t i)) ts i

pub gens_are : (w : Walked) (gs : List GenTree) → bindings (map (gen_read w.names w.kinds) gs) w.scope w.next ≡ gens_at w gs
unfolding gen_at gen_scope
gens_are w [] = refl
gens_are w (g ∷ gs) =
    λ i. gen_at w g ∷ gens_are (record w { scope = gen_scope w g; next = w.next + same_gen w.names w.kinds g i }) gs i

pub gens_under : (w : Walked) (gs : List GenTree) → under (map (gen_read w.names w.kinds) gs) w.scope w.next ≡ gens_scope w gs
unfolding gen_scope
gens_under w [] = refl
gens_under w (g ∷ gs) = λ i. gens_under (record w { scope = gen_scope w g; next = w.next + same_gen w.names w.kinds g i }) gs i

pub parts_are : (w : Walked) (ps : List PartTree)
    → typed.parts (first_of w.names) w.kinds (map (part_read w.names w.kinds) ps) w.scope w.next ≡ parts_at w ps
unfolding part_at
parts_are w [] = refl
parts_are w (p ∷ ps) = λ i. part_at w p ∷ parts_are (past w (same_part w.names w.kinds p i)) ps i

module _ (w : Walked) where
  pub part-is : (p : PartTree) → part_at w p
      ≡ roll-EventPart (record { channel = channel_number (first_of w.names (out-PartTree p).name); fields = exprs_at w (out-PartTree p).fields })
  unfolding part_at
  part-is p = search (rules, the_lemmas, part_lemmas, exprs_are w (out-PartTree p).fields)

  pub gen-From : (x : Name) (t : Tree) → gen_at w (gentree.From x t) ≡ generator.From w.next (expr_at (past w 1) t)
  unfolding gen_at expr_at
  gen-From x t = search (rules, the_lemmas)

  pub gen-Cond : (t : Tree) → gen_at w (gentree.Cond t) ≡ generator.Cond (expr_at w t)
  unfolding gen_at expr_at
  gen-Cond t = search (rules, the_lemmas)

  pub gen_scope-From : (x : Name) (t : Tree) → gen_scope w (gentree.From x t) ≡ with w.scope x w.next
  unfolding gen_scope
  gen_scope-From x t = search (rules, the_lemmas)

  pub gen_scope-Cond : (t : Tree) → gen_scope w (gentree.Cond t) ≡ w.scope
  unfolding gen_scope
  gen_scope-Cond t = search (rules, the_lemmas)

  pub expr-Num : (k : ℕ) → expr_at w (tree.Num k) ≡ expr.Num (pos k)
  unfolding expr_at
  expr-Num k = search (rules, the_lemmas)

  pub expr-True : expr_at w tree.True ≡ expr.Truth true
  unfolding expr_at
  expr-True = search (rules, the_lemmas)

  pub expr-False : expr_at w tree.False ≡ expr.Truth false
  unfolding expr_at
  expr-False = search (rules, the_lemmas)

  pub expr-Name : (x : Name) → expr_at w (tree.Name x) ≡ named (number_of w.scope x) (first_of w.names x)
  unfolding expr_at
  expr-Name x = search (rules, the_lemmas)

  pub expr-Call : (f : Name) (args : List Tree)
      → expr_at w (tree.Call f args) ≡ expr.Call (definition_number (first_of w.names f)) (exprs_at w args)
  unfolding expr_at
  expr-Call f args = search (rules, the_lemmas, exprs_are w args)

  pub expr-Dot : (c : Name) (fields : List Tree)
      → expr_at w (tree.Dot c fields) ≡ expr.Event (channel_number (first_of w.names c)) (exprs_at w fields)
  unfolding expr_at
  expr-Dot c fields = search (rules, the_lemmas, exprs_are w fields)

  pub expr-Neg : (a : Tree) → expr_at w (tree.Neg a) ≡ expr.Neg (expr_at w a)
  unfolding expr_at
  expr-Neg a = search (rules, the_lemmas)

  pub expr-Not : (a : Tree) → expr_at w (tree.Not a) ≡ expr.Not (expr_at w a)
  unfolding expr_at
  expr-Not a = search (rules, the_lemmas)

  pub expr-Binary : (op : BinOp) (a b : Tree)
      → expr_at w (tree.Binary op a b) ≡ expr.Binary op (expr_at w a) (expr_at (past w (tokens a)) b)
  unfolding expr_at
  expr-Binary op a b = search (rules, the_lemmas, same_tree w.names w.kinds a)

  pub expr-If : (c a b : Tree)
      → expr_at w (tree.If c a b) ≡ expr.If (expr_at w c) (expr_at (past w (tokens c)) a) (expr_at (past (past w (tokens c)) (tokens a)) b)
  unfolding expr_at
  expr-If c a b = search (rules, the_lemmas, same_tree w.names w.kinds c, same_tree w.names w.kinds a)

  pub expr-Display : (items : List Tree) → expr_at w (tree.Display items) ≡ expr.Display (exprs_at w items)
  unfolding expr_at
  expr-Display items = search (rules, the_lemmas, exprs_are w items)

  pub expr-Range : (a b : Tree) → expr_at w (tree.Range a b) ≡ expr.Range (expr_at w a) (expr_at (past w (tokens a)) b)
  unfolding expr_at
  expr-Range a b = search (rules, the_lemmas, same_tree w.names w.kinds a)

  pub expr-SetOp : (op : SetOp) (a b : Tree)
      → expr_at w (tree.SetOp op a b) ≡ expr.SetOp op (expr_at w a) (expr_at (past w (tokens a)) b)
  unfolding expr_at
  expr-SetOp op a b = search (rules, the_lemmas, same_tree w.names w.kinds a)

  pub expr-Comp : (items : List Tree) (gens : List GenTree) → expr_at w (tree.Comp items gens)
      ≡ expr.Comp (exprs_at (under_gens w (all_tokens items) gens) items) (gens_at (past w (all_tokens items)) gens)
  unfolding expr_at
  expr-Comp items gens = search (
    rules,
    the_lemmas,
    trees_bind w items,
    gens_are (past w (all_tokens items)) gens,
    gens_under (past w (all_tokens items)) gens,
    exprs_are (under_gens w (all_tokens items) gens) items,
  )

  pub expr-Product : (parts : List PartTree) (gens : List GenTree) → expr_at w (tree.Product parts gens)
      ≡ expr.Product (parts_at (under_gens w (parts_tokens parts) gens) parts) (gens_at (past w (parts_tokens parts)) gens)
  unfolding expr_at
  expr-Product parts gens = search (
    rules,
    the_lemmas,
    fronts_bind w parts,
    gens_are (past w (parts_tokens parts)) gens,
    gens_under (past w (parts_tokens parts)) gens,
    parts_are (under_gens w (parts_tokens parts) gens) parts,
  )

pub ruleset part_forms = (part-is)

pub ruleset gen_forms = (gen-From, gen-Cond, gen_scope-From, gen_scope-Cond)

pub ruleset expr_forms = (expr-Num, expr-True, expr-False, expr-Name, expr-Call, expr-Dot, expr-Neg, expr-Not, expr-Binary, expr-If, expr-Display, expr-Range, expr-SetOp, expr-Comp, expr-Product)

pub ruleset expr_lists = (exprs_are, trees_bind)
