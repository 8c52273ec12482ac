use Rattle.typed_trees.proofs.Prelude.{◌≡◌, ◌+◌, ◌++◌, drop, pairs_tokens, pairs_at}
use Rattle.typed_trees.proofs.walk.Walk.pairs.Given as goal

-- what is made so far, followed by what is made of the rest, is what is made of all
abbrev pub invariant-loop-tree : goal.invariant-loop-tree
invariant-loop-tree l = record {
  made : l.made ++ pairs_at l.self (drop l.tree-index l.trees) ≡ pairs_at l.initial.self l.trees;
  names : l.self.names ≡ l.initial.self.names;
  kinds : l.self.kinds ≡ l.initial.self.kinds;
  scope : l.self.scope ≡ l.initial.self.scope;
  next : l.self.next + pairs_tokens (drop l.tree-index l.trees) ≡ l.initial.self.next + pairs_tokens l.trees;
}
