-- What all parts of one layer of a tree give together: `join` takes two values together and `all` those of a list, both in the order of the text.
-- Parts stand in events, in generators and in parts of fields too, each of which gives one value of its own.
use Rattle.std.specs.Prelude.{Some, None, List, [], ◌∷◌}
use Rattle.csp_text.specs.declared.tree.FieldTree.TheOpen.{FieldTree-F, GenTree-F, Tree-F, EventTree-F, PartTree-F}

module _ {A : Type 0} (join : A → A → A) (all : List A → A) where
  abbrev pub of_pairs : List (A × A) → A
  of_pairs [] = all []
  of_pairs (pair ∷ pairs) = join (join pair.0 pair.1) (of_pairs pairs)

  abbrev pub of_tree : Tree-F A A A A A → A
  of_tree (Tree-F.Call f items) = all items
  of_tree (Tree-F.«Tree::Dot» c items) = all items
  of_tree (Tree-F.Neg a) = a
  of_tree (Tree-F.Not a) = a
  of_tree (Tree-F.Binary op a b) = join a b
  of_tree (Tree-F.If c a b) = join c (join a b)
  of_tree (Tree-F.Display items) = all items
  of_tree (Tree-F.Range a b) = join a b
  of_tree (Tree-F.Comp items gens) = join (all items) (all gens)
  of_tree (Tree-F.Product parts gens) = join (all parts) (all gens)
  of_tree (Tree-F.SetOp op a b) = join a b
  of_tree (Tree-F.Prefix event p) = join event p
  of_tree (Tree-F.Guard c p) = join c p
  of_tree (Tree-F.External ps) = all ps
  of_tree (Tree-F.Internal ps) = all ps
  of_tree (Tree-F.EachExternal x s p) = join s p
  of_tree (Tree-F.EachInternal x s p) = join s p
  of_tree (Tree-F.Parallel p a b q) = join (join p a) (join b q)
  of_tree (Tree-F.EachParallel x s a p) = join s (join a p)
  of_tree (Tree-F.Seq p q) = join p q
  of_tree (Tree-F.Hide p s) = join p s
  of_tree (Tree-F.Rename p pairs gens) = join p (join (of_pairs pairs) (all gens))
  of_tree _ = all []

  abbrev pub of_field : FieldTree-F A A A A A → A
  of_field (FieldTree-F.«FieldTree::Dot» a) = a
  of_field (FieldTree-F.Output a) = a
  of_field (FieldTree-F.Input x (Some s)) = s
  of_field (FieldTree-F.Input x None) = all []

  abbrev pub of_gen : GenTree-F A A A A A → A
  of_gen (GenTree-F.From x s) = s
  of_gen (GenTree-F.Cond c) = c

  abbrev pub of_event : EventTree-F A A A A A → A
  of_event event = all event.fields

  abbrev pub of_part : PartTree-F A A A A A → A
  of_part part = all part.fields
