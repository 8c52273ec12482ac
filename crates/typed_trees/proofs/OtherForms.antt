-- What a tree is as an expression, as a process and as a network where it has none of the forms of these.
use Rattle.typed_trees.proofs.Prelude.{◌≡◌, ℕ, pos, false, List, refl, ap, sym, ◌∙◌, subst, BinOp, SetOp, EventTree, FieldTree, Tree-F, out-Tree, roll-Tree, roll-out-Tree, GenTree, PartTree, Tree, Name, first_of, expr_of_layer, networked_of_layer, proc_of_layer, Walked, read_at, net_at, expr_at, networked_at, proc_at}
use Rattle.csp_text.specs.declared.tree.Tree.TheVariants as tree
use Rattle.csp_program.specs.declared.expressions.Expr.TheVariants as expr
use Rattle.csp_program.specs.declared.networks.Net.TheVariants as net
use Rattle.csp_program.specs.declared.processes.Proc.TheVariants as proc
use Rattle.typed_trees.proofs.NetForms.{net_leaf}
use Rattle.typed_trees.proofs.Rolls.{layer_read, tree_rolls}

-- a tree of no form of an expression
pub record OtherThanExpr (t : Tree) : Type 0 where
  pub not_num : (a : ℕ) → t ≡ tree.Num a → ⊥
  pub not_true : t ≡ tree.True → ⊥
  pub not_false : t ≡ tree.False → ⊥
  pub not_name : (a : Name) → t ≡ tree.Name a → ⊥
  pub not_call : (a : Name) (b : List Tree) → t ≡ tree.Call a b → ⊥
  pub not_dot : (a : Name) (b : List Tree) → t ≡ tree.Dot a b → ⊥
  pub not_neg : (a : Tree) → t ≡ tree.Neg a → ⊥
  pub not_not : (a : Tree) → t ≡ tree.Not a → ⊥
  pub not_binary : (a : BinOp) (b : Tree) (c : Tree) → t ≡ tree.Binary a b c → ⊥
  pub not_if : (a : Tree) (b : Tree) (c : Tree) → t ≡ tree.If a b c → ⊥
  pub not_display : (a : List Tree) → t ≡ tree.Display a → ⊥
  pub not_range : (a : Tree) (b : Tree) → t ≡ tree.Range a b → ⊥
  pub not_comp : (a : List Tree) (b : List GenTree) → t ≡ tree.Comp a b → ⊥
  pub not_product : (a : List PartTree) (b : List GenTree) → t ≡ tree.Product a b → ⊥
  pub not_set_op : (a : SetOp) (b : Tree) (c : Tree) → t ≡ tree.SetOp a b c → ⊥

-- a tree of no form of a process but `STOP`
pub record OtherThanProc (t : Tree) : Type 0 where
  pub not_skip : t ≡ tree.Skip → ⊥
  pub not_name : (a : Name) → t ≡ tree.Name a → ⊥
  pub not_call : (a : Name) (b : List Tree) → t ≡ tree.Call a b → ⊥
  pub not_if : (a : Tree) (b : Tree) (c : Tree) → t ≡ tree.If a b c → ⊥
  pub not_prefix : (a : EventTree) (b : Tree) → t ≡ tree.Prefix a b → ⊥
  pub not_guard : (a : Tree) (b : Tree) → t ≡ tree.Guard a b → ⊥
  pub not_external : (a : List Tree) → t ≡ tree.External a → ⊥
  pub not_internal : (a : List Tree) → t ≡ tree.Internal a → ⊥
  pub not_each_external : (a : Name) (b : Tree) (c : Tree) → t ≡ tree.EachExternal a b c → ⊥
  pub not_each_internal : (a : Name) (b : Tree) (c : Tree) → t ≡ tree.EachInternal a b c → ⊥
  pub not_seq : (a : Tree) (b : Tree) → t ≡ tree.Seq a b → ⊥
  pub not_hide : (a : Tree) (b : Tree) → t ≡ tree.Hide a b → ⊥
  pub not_rename : (a : Tree) (b : List (PartTree × PartTree)) (c : List GenTree) → t ≡ tree.Rename a b c → ⊥

-- a tree of no form of a network
pub record OtherThanNet (t : Tree) : Type 0 where
  pub not_name : (a : Name) → t ≡ tree.Name a → ⊥
  pub not_call : (a : Name) (b : List Tree) → t ≡ tree.Call a b → ⊥
  pub not_if : (a : Tree) (b : Tree) (c : Tree) → t ≡ tree.If a b c → ⊥
  pub not_parallel : (a : Tree) (b : Tree) (c : Tree) (d : Tree) → t ≡ tree.Parallel a b c d → ⊥
  pub not_each_parallel : (a : Name) (b : Tree) (c : Tree) (d : Tree) → t ≡ tree.EachParallel a b c d → ⊥

module _ (w : Walked) where
  no_expr : (d : Tree-F FieldTree GenTree Tree EventTree PartTree) → OtherThanExpr (roll-Tree d)
      → expr_of_layer (first_of w.names) w.kinds (layer_read w.names w.kinds d) w.scope w.next ≡ expr.Num (pos 0)
  no_expr (Tree-F.Num a) other = absurd (other.not_num a (tree.rolls-Num a))
  no_expr Tree-F.True other = absurd (other.not_true tree.rolls-True)
  no_expr Tree-F.False other = absurd (other.not_false tree.rolls-False)
  no_expr (Tree-F.Name a) other = absurd (other.not_name a (tree.rolls-Name a))
  no_expr (Tree-F.Call a b) other = absurd (other.not_call a b (tree.rolls-Call a b))
  no_expr (Tree-F.«Tree::Dot» a b) other = absurd (other.not_dot a b (tree.rolls-Dot a b))
  no_expr (Tree-F.Neg a) other = absurd (other.not_neg a (tree.rolls-Neg a))
  no_expr (Tree-F.Not a) other = absurd (other.not_not a (tree.rolls-Not a))
  no_expr (Tree-F.Binary a b c) other = absurd (other.not_binary a b c (tree.rolls-Binary a b c))
  no_expr (Tree-F.If a b c) other = absurd (other.not_if a b c (tree.rolls-If a b c))
  no_expr (Tree-F.Display a) other = absurd (other.not_display a (tree.rolls-Display a))
  no_expr (Tree-F.Range a b) other = absurd (other.not_range a b (tree.rolls-Range a b))
  no_expr (Tree-F.Comp a b) other = absurd (other.not_comp a b (tree.rolls-Comp a b))
  no_expr (Tree-F.Product a b) other = absurd (other.not_product a b (tree.rolls-Product a b))
  no_expr (Tree-F.SetOp a b c) other = absurd (other.not_set_op a b c (tree.rolls-SetOp a b c))
  no_expr _ other = refl

  pub expr-other : (t : Tree) → OtherThanExpr t → expr_at w t ≡ expr.Num (pos 0)
  unfolding expr_at
  expr-other t other =
      ap (λ u. (read_at w u).expr w.scope w.next) (sym (roll-out-Tree t))
      ∙ ap (λ r. r.expr w.scope w.next) (tree_rolls w.names w.kinds (out-Tree t))
      ∙ no_expr (out-Tree t) (subst OtherThanExpr (sym (roll-out-Tree t)) other)

  no_proc : (d : Tree-F FieldTree GenTree Tree EventTree PartTree) → OtherThanProc (roll-Tree d)
      → proc_of_layer (first_of w.names) w.kinds (layer_read w.names w.kinds d) w.scope w.next ≡ proc.Stop
  no_proc Tree-F.Skip other = absurd (other.not_skip tree.rolls-Skip)
  no_proc (Tree-F.Name a) other = absurd (other.not_name a (tree.rolls-Name a))
  no_proc (Tree-F.Call a b) other = absurd (other.not_call a b (tree.rolls-Call a b))
  no_proc (Tree-F.If a b c) other = absurd (other.not_if a b c (tree.rolls-If a b c))
  no_proc (Tree-F.Prefix a b) other = absurd (other.not_prefix a b (tree.rolls-Prefix a b))
  no_proc (Tree-F.Guard a b) other = absurd (other.not_guard a b (tree.rolls-Guard a b))
  no_proc (Tree-F.External a) other = absurd (other.not_external a (tree.rolls-External a))
  no_proc (Tree-F.Internal a) other = absurd (other.not_internal a (tree.rolls-Internal a))
  no_proc (Tree-F.EachExternal a b c) other = absurd (other.not_each_external a b c (tree.rolls-EachExternal a b c))
  no_proc (Tree-F.EachInternal a b c) other = absurd (other.not_each_internal a b c (tree.rolls-EachInternal a b c))
  no_proc (Tree-F.Seq a b) other = absurd (other.not_seq a b (tree.rolls-Seq a b))
  no_proc (Tree-F.Hide a b) other = absurd (other.not_hide a b (tree.rolls-Hide a b))
  no_proc (Tree-F.Rename a b c) other = absurd (other.not_rename a b c (tree.rolls-Rename a b c))
  no_proc _ other = refl

  pub proc-other : (t : Tree) → OtherThanProc t → proc_at w t ≡ proc.Stop
  unfolding proc_at
  proc-other t other =
      ap (λ u. (read_at w u).proc w.scope w.next) (sym (roll-out-Tree t))
      ∙ ap (λ r. r.proc w.scope w.next) (tree_rolls w.names w.kinds (out-Tree t))
      ∙ no_proc (out-Tree t) (subst OtherThanProc (sym (roll-out-Tree t)) other)

  no_net : (d : Tree-F FieldTree GenTree Tree EventTree PartTree) → OtherThanNet (roll-Tree d)
      → networked_of_layer (first_of w.names) w.kinds (layer_read w.names w.kinds d) w.scope ≡ false
  no_net (Tree-F.Name a) other = absurd (other.not_name a (tree.rolls-Name a))
  no_net (Tree-F.Call a b) other = absurd (other.not_call a b (tree.rolls-Call a b))
  no_net (Tree-F.If a b c) other = absurd (other.not_if a b c (tree.rolls-If a b c))
  no_net (Tree-F.Parallel a b c d) other = absurd (other.not_parallel a b c d (tree.rolls-Parallel a b c d))
  no_net (Tree-F.EachParallel a b c d) other = absurd (other.not_each_parallel a b c d (tree.rolls-EachParallel a b c d))
  no_net _ other = refl

  pub networked-other : (t : Tree) → OtherThanNet t → networked_at w t ≡ false
  unfolding networked_at
  networked-other t other =
      ap (λ u. (read_at w u).networked w.scope) (sym (roll-out-Tree t))
      ∙ ap (λ r. r.networked w.scope) (tree_rolls w.names w.kinds (out-Tree t))
      ∙ no_net (out-Tree t) (subst OtherThanNet (sym (roll-out-Tree t)) other)

  pub net-other : (t : Tree) → OtherThanNet t → net_at w t ≡ net.Leaf (proc_at w t)
  net-other t other = net_leaf w t (networked-other t other)
