-- How many binding tokens each form of a tree has.
use Rattle.script_sizes.proofs.Prelude.{◌≡◌, ℕ, ◌+◌, Option, Some, None, List, map, ap, sym, ◌∙◌, arith, BinOp, SetOp, EventTree, FieldTree, fold-roll-FieldTree, fold-roll-GenTree, fold-roll-Tree, fold-roll-EventTree, fold-roll-PartTree, map-FieldTree, map-GenTree, map-Tree, map-EventTree, map-PartTree, FieldTree-F, GenTree-F, Tree-F, EventTree-F, PartTree-F, roll-FieldTree, roll-GenTree, roll-Tree, roll-EventTree, roll-PartTree, out-EventTree, roll-out-EventTree, out-PartTree, roll-out-PartTree, GenTree, PartTree, Tree, tokens, field_tokens, set_tokens, gen_tokens, event_tokens, part_tokens, tokens_of_layer, field_tokens_of_layer, gen_tokens_of_layer, event_tokens_of_layer, part_tokens_of_layer, all_tokens, fields_tokens, gens_tokens, parts_tokens, pairs_tokens}
use Rattle.csp_text.specs.declared.tree.FieldTree.TheVariants as field
use Rattle.csp_text.specs.declared.tree.GenTree.TheVariants as generator
use Rattle.csp_text.specs.declared.tree.Tree.TheVariants as tree

pub tree_counts : (d : Tree-F FieldTree GenTree Tree EventTree PartTree) → tokens (roll-Tree d)
    ≡ tokens_of_layer (map-Tree FieldTree GenTree Tree EventTree PartTree ℕ ℕ ℕ ℕ ℕ field_tokens gen_tokens tokens event_tokens part_tokens d)
unfolding tokens field_tokens gen_tokens event_tokens part_tokens
tree_counts d = fold-roll-Tree ℕ ℕ ℕ ℕ ℕ field_tokens_of_layer gen_tokens_of_layer tokens_of_layer event_tokens_of_layer part_tokens_of_layer d

pub field_counts : (d : FieldTree-F FieldTree GenTree Tree EventTree PartTree) → field_tokens (roll-FieldTree d)
    ≡ field_tokens_of_layer (map-FieldTree FieldTree GenTree Tree EventTree PartTree ℕ ℕ ℕ ℕ ℕ field_tokens gen_tokens tokens event_tokens part_tokens d)
unfolding tokens field_tokens gen_tokens event_tokens part_tokens
field_counts d = fold-roll-FieldTree ℕ ℕ ℕ ℕ ℕ field_tokens_of_layer gen_tokens_of_layer tokens_of_layer event_tokens_of_layer part_tokens_of_layer d

pub gen_counts : (d : GenTree-F FieldTree GenTree Tree EventTree PartTree) → gen_tokens (roll-GenTree d)
    ≡ gen_tokens_of_layer (map-GenTree FieldTree GenTree Tree EventTree PartTree ℕ ℕ ℕ ℕ ℕ field_tokens gen_tokens tokens event_tokens part_tokens d)
unfolding tokens field_tokens gen_tokens event_tokens part_tokens
gen_counts d = fold-roll-GenTree ℕ ℕ ℕ ℕ ℕ field_tokens_of_layer gen_tokens_of_layer tokens_of_layer event_tokens_of_layer part_tokens_of_layer d

pub event_counts : (d : EventTree-F FieldTree GenTree Tree EventTree PartTree) → event_tokens (roll-EventTree d)
    ≡ event_tokens_of_layer (map-EventTree FieldTree GenTree Tree EventTree PartTree ℕ ℕ ℕ ℕ ℕ field_tokens gen_tokens tokens event_tokens part_tokens d)
unfolding tokens field_tokens gen_tokens event_tokens part_tokens
event_counts d = fold-roll-EventTree ℕ ℕ ℕ ℕ ℕ field_tokens_of_layer gen_tokens_of_layer tokens_of_layer event_tokens_of_layer part_tokens_of_layer d

pub part_counts : (d : PartTree-F FieldTree GenTree Tree EventTree PartTree) → part_tokens (roll-PartTree d)
    ≡ part_tokens_of_layer (map-PartTree FieldTree GenTree Tree EventTree PartTree ℕ ℕ ℕ ℕ ℕ field_tokens gen_tokens tokens event_tokens part_tokens d)
unfolding tokens field_tokens gen_tokens event_tokens part_tokens
part_counts d = fold-roll-PartTree ℕ ℕ ℕ ℕ ℕ field_tokens_of_layer gen_tokens_of_layer tokens_of_layer event_tokens_of_layer part_tokens_of_layer d

-- the same where it is known what tree, field or generator the layer makes
counts : (d : Tree-F FieldTree GenTree Tree EventTree PartTree) {t : Tree} → roll-Tree d ≡ t → tokens t
    ≡ tokens_of_layer (map-Tree FieldTree GenTree Tree EventTree PartTree ℕ ℕ ℕ ℕ ℕ field_tokens gen_tokens tokens event_tokens part_tokens d)
counts d e = ap tokens (sym e) ∙ tree_counts d

pub event_tokens-is : (e : EventTree) → event_tokens e ≡ fields_tokens (out-EventTree e).fields
event_tokens-is e = ap event_tokens (sym (roll-out-EventTree e)) ∙ event_counts (out-EventTree e)

pub part_tokens-is : (p : PartTree) → part_tokens p ≡ all_tokens (out-PartTree p).fields
part_tokens-is p = ap part_tokens (sym (roll-out-PartTree p)) ∙ part_counts (out-PartTree p)

pub field_tokens-Dot : (a : Tree) → field_tokens (field.Dot a) ≡ tokens a
field_tokens-Dot a = ap field_tokens (sym (field.rolls-Dot a)) ∙ field_counts (FieldTree-F.«FieldTree::Dot» a)

pub field_tokens-Output : (a : Tree) → field_tokens (field.Output a) ≡ tokens a
field_tokens-Output a = ap field_tokens (sym (field.rolls-Output a)) ∙ field_counts (FieldTree-F.Output a)

pub field_tokens-Input : (x : List ℕ) (o : Option Tree) → field_tokens (field.Input x o) ≡ 1 + set_tokens o
field_tokens-Input x None = ap field_tokens (sym (field.rolls-Input x None)) ∙ field_counts (FieldTree-F.Input x None)
field_tokens-Input x (Some s) = ap field_tokens (sym (field.rolls-Input x (Some s))) ∙ field_counts (FieldTree-F.Input x (Some s))

pub gen_tokens-From : (x : List ℕ) (s : Tree) → gen_tokens (generator.From x s) ≡ 1 + tokens s
gen_tokens-From x s = ap gen_tokens (sym (generator.rolls-From x s)) ∙ gen_counts (GenTree-F.From x s)

pub gen_tokens-Cond : (c : Tree) → gen_tokens (generator.Cond c) ≡ tokens c
gen_tokens-Cond c = ap gen_tokens (sym (generator.rolls-Cond c)) ∙ gen_counts (GenTree-F.Cond c)

pub tokens-Num : (k : ℕ) → tokens (tree.Num k) ≡ 0
tokens-Num k = counts _ (tree.rolls-Num k)

pub tokens-True : tokens tree.True ≡ 0
tokens-True = counts _ tree.rolls-True

pub tokens-False : tokens tree.False ≡ 0
tokens-False = counts _ tree.rolls-False

pub tokens-Name : (x : List ℕ) → tokens (tree.Name x) ≡ 0
tokens-Name x = counts _ (tree.rolls-Name x)

pub tokens-Call : (f : List ℕ) (args : List Tree) → tokens (tree.Call f args) ≡ all_tokens args
tokens-Call f args = counts _ (tree.rolls-Call f args)

pub tokens-Dot : (c : List ℕ) (fields : List Tree) → tokens (tree.Dot c fields) ≡ all_tokens fields
tokens-Dot c fields = counts _ (tree.rolls-Dot c fields)

pub tokens-Neg : (a : Tree) → tokens (tree.Neg a) ≡ tokens a
tokens-Neg a = counts _ (tree.rolls-Neg a)

pub tokens-Not : (a : Tree) → tokens (tree.Not a) ≡ tokens a
tokens-Not a = counts _ (tree.rolls-Not a)

pub tokens-Binary : (op : BinOp) (a : Tree) (b : Tree) → tokens (tree.Binary op a b) ≡ tokens a + tokens b
tokens-Binary op a b = counts _ (tree.rolls-Binary op a b)

pub tokens-If : (c : Tree) (a : Tree) (b : Tree) → tokens (tree.If c a b) ≡ tokens c + tokens a + tokens b
tokens-If c a b = omega (arith, counts _ (tree.rolls-If c a b))

pub tokens-Display : (items : List Tree) → tokens (tree.Display items) ≡ all_tokens items
tokens-Display items = counts _ (tree.rolls-Display items)

pub tokens-Range : (a : Tree) (b : Tree) → tokens (tree.Range a b) ≡ tokens a + tokens b
tokens-Range a b = counts _ (tree.rolls-Range a b)

pub tokens-Comp : (items : List Tree) (gens : List GenTree) → tokens (tree.Comp items gens) ≡ all_tokens items + gens_tokens gens
tokens-Comp items gens = counts _ (tree.rolls-Comp items gens)

pub tokens-Product : (fronts : List PartTree) (gens : List GenTree) → tokens (tree.Product fronts gens) ≡ parts_tokens fronts + gens_tokens gens
tokens-Product fronts gens = counts _ (tree.rolls-Product fronts gens)

pub tokens-SetOp : (op : SetOp) (a : Tree) (b : Tree) → tokens (tree.SetOp op a b) ≡ tokens a + tokens b
tokens-SetOp op a b = counts _ (tree.rolls-SetOp op a b)

pub tokens-Stop : tokens tree.Stop ≡ 0
tokens-Stop = counts _ tree.rolls-Stop

pub tokens-Skip : tokens tree.Skip ≡ 0
tokens-Skip = counts _ tree.rolls-Skip

pub tokens-Prefix : (event : EventTree) (p : Tree) → tokens (tree.Prefix event p) ≡ fields_tokens (out-EventTree event).fields + tokens p
tokens-Prefix event p = counts _ (tree.rolls-Prefix event p) ∙ (λ i. event_tokens-is event i + tokens p)

pub tokens-Guard : (c : Tree) (p : Tree) → tokens (tree.Guard c p) ≡ tokens c + tokens p
tokens-Guard c p = counts _ (tree.rolls-Guard c p)

pub tokens-External : (ps : List Tree) → tokens (tree.External ps) ≡ all_tokens ps
tokens-External ps = counts _ (tree.rolls-External ps)

pub tokens-Internal : (ps : List Tree) → tokens (tree.Internal ps) ≡ all_tokens ps
tokens-Internal ps = counts _ (tree.rolls-Internal ps)

pub tokens-EachExternal : (x : List ℕ) (s : Tree) (p : Tree) → tokens (tree.EachExternal x s p) ≡ 1 + tokens s + tokens p
tokens-EachExternal x s p = counts _ (tree.rolls-EachExternal x s p)

pub tokens-EachInternal : (x : List ℕ) (s : Tree) (p : Tree) → tokens (tree.EachInternal x s p) ≡ 1 + tokens s + tokens p
tokens-EachInternal x s p = counts _ (tree.rolls-EachInternal x s p)

pub tokens-Parallel : (p : Tree) (a : Tree) (b : Tree) (q : Tree) → tokens (tree.Parallel p a b q) ≡ tokens p + tokens a + tokens b + tokens q
tokens-Parallel p a b q = omega (arith, counts _ (tree.rolls-Parallel p a b q))

pub tokens-EachParallel : (x : List ℕ) (s : Tree) (a : Tree) (p : Tree) → tokens (tree.EachParallel x s a p) ≡ 1 + tokens s + tokens a + tokens p
tokens-EachParallel x s a p = omega (arith, counts _ (tree.rolls-EachParallel x s a p))

pub tokens-Seq : (p : Tree) (q : Tree) → tokens (tree.Seq p q) ≡ tokens p + tokens q
tokens-Seq p q = counts _ (tree.rolls-Seq p q)

pub tokens-Hide : (p : Tree) (s : Tree) → tokens (tree.Hide p s) ≡ tokens p + tokens s
tokens-Hide p s = counts _ (tree.rolls-Hide p s)

pub tokens-Rename : (p : Tree) (fronts : List (PartTree × PartTree)) (gens : List GenTree)
    → tokens (tree.Rename p fronts gens) ≡ tokens p + pairs_tokens fronts + gens_tokens gens
tokens-Rename p fronts gens = omega (arith, counts _ (tree.rolls-Rename p fronts gens))

pub ruleset part_tokens_forms = (part_tokens-is)

pub ruleset field_tokens_forms = (field_tokens-Dot, field_tokens-Output, field_tokens-Input)

pub ruleset gen_tokens_forms = (gen_tokens-From, gen_tokens-Cond)

pub ruleset token_forms = (tokens-Num, tokens-True, tokens-False, tokens-Name, tokens-Call, tokens-Dot, tokens-Neg, tokens-Not, tokens-Binary, tokens-If, tokens-Display, tokens-Range, tokens-Comp, tokens-Product, tokens-SetOp, tokens-Stop, tokens-Skip, tokens-Prefix, tokens-Guard, tokens-External, tokens-Internal, tokens-EachExternal, tokens-EachInternal, tokens-Parallel, tokens-EachParallel, tokens-Seq, tokens-Hide, tokens-Rename)
