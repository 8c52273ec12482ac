-- How many binding tokens a tree has: each `?x`, each `x <-` and the name of each replicated operator is one. Typed trees call it `binds`, which looks at
-- no meaning of a name; this fold serves the contracts of functions that have no meanings at hand.
use Rattle.std.specs.Prelude.{ℕ, ◌+◌, Option, Some, None, List, map}
use Rattle.csp_text.specs.Prelude.{of_event, of_field, of_pairs, of_part, of_tree}
use Rattle.csp_text.specs.declared.tree.EventTree.{EventTree}
use Rattle.csp_text.specs.declared.tree.FieldTree.{FieldTree, fold-FieldTree}
use Rattle.csp_text.specs.declared.tree.FieldTree.TheFolds.{fold-GenTree, fold-Tree, fold-EventTree, fold-PartTree}
use Rattle.csp_text.specs.declared.tree.FieldTree.TheOpen.{FieldTree-F, GenTree-F, Tree-F, EventTree-F, PartTree-F}
use Rattle.csp_text.specs.declared.tree.GenTree.{GenTree}
use Rattle.csp_text.specs.declared.tree.PartTree.{PartTree}
use Rattle.csp_text.specs.declared.tree.Tree.{Tree}
use Rattle.csp_base.specs.Lists.{total}

abbrev pub total_of_pairs : List (ℕ × ℕ) → ℕ
total_of_pairs = of_pairs ◌+◌ total

-- one layer, with the numbers of its parts in their places
abbrev pub tokens_of_layer : Tree-F ℕ ℕ ℕ ℕ ℕ → ℕ
tokens_of_layer (Tree-F.EachExternal x s p) = 1 + s + p
tokens_of_layer (Tree-F.EachInternal x s p) = 1 + s + p
tokens_of_layer (Tree-F.EachParallel x s a p) = 1 + s + a + p
tokens_of_layer d = of_tree ◌+◌ total d

abbrev pub field_tokens_of_layer : FieldTree-F ℕ ℕ ℕ ℕ ℕ → ℕ
field_tokens_of_layer (FieldTree-F.Input x None) = 1
field_tokens_of_layer (FieldTree-F.Input x (Some s)) = 1 + s
field_tokens_of_layer d = of_field ◌+◌ total d

abbrev pub gen_tokens_of_layer : GenTree-F ℕ ℕ ℕ ℕ ℕ → ℕ
gen_tokens_of_layer (GenTree-F.From x s) = 1 + s
gen_tokens_of_layer (GenTree-F.Cond c) = c

abbrev pub event_tokens_of_layer : EventTree-F ℕ ℕ ℕ ℕ ℕ → ℕ
event_tokens_of_layer = of_event ◌+◌ total

abbrev pub part_tokens_of_layer : PartTree-F ℕ ℕ ℕ ℕ ℕ → ℕ
part_tokens_of_layer = of_part ◌+◌ total

unfoldable pub tokens : Tree → ℕ
tokens = fold-Tree ℕ ℕ ℕ ℕ ℕ field_tokens_of_layer gen_tokens_of_layer tokens_of_layer event_tokens_of_layer part_tokens_of_layer

unfoldable pub field_tokens : FieldTree → ℕ
field_tokens = fold-FieldTree ℕ ℕ ℕ ℕ ℕ field_tokens_of_layer gen_tokens_of_layer tokens_of_layer event_tokens_of_layer part_tokens_of_layer

unfoldable pub gen_tokens : GenTree → ℕ
gen_tokens = fold-GenTree ℕ ℕ ℕ ℕ ℕ field_tokens_of_layer gen_tokens_of_layer tokens_of_layer event_tokens_of_layer part_tokens_of_layer

unfoldable pub event_tokens : EventTree → ℕ
event_tokens = fold-EventTree ℕ ℕ ℕ ℕ ℕ field_tokens_of_layer gen_tokens_of_layer tokens_of_layer event_tokens_of_layer part_tokens_of_layer

unfoldable pub part_tokens : PartTree → ℕ
part_tokens = fold-PartTree ℕ ℕ ℕ ℕ ℕ field_tokens_of_layer gen_tokens_of_layer tokens_of_layer event_tokens_of_layer part_tokens_of_layer

-- in the set of a field, where it has one
abbrev pub set_tokens : Option Tree → ℕ
set_tokens None = 0
set_tokens (Some s) = tokens s

-- in lists
abbrev pub all_tokens : List Tree → ℕ
all_tokens ts = total (map tokens ts)

abbrev pub fields_tokens : List FieldTree → ℕ
fields_tokens fs = total (map field_tokens fs)

abbrev pub gens_tokens : List GenTree → ℕ
gens_tokens gs = total (map gen_tokens gs)

abbrev pub parts_tokens : List PartTree → ℕ
parts_tokens ps = total (map part_tokens ps)

abbrev pub pairs_tokens : List (PartTree × PartTree) → ℕ
pairs_tokens ps = total_of_pairs (map (λ p. (part_tokens p.0, part_tokens p.1)) ps)
