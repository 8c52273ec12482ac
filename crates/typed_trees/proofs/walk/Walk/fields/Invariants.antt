use Rattle.typed_trees.proofs.Prelude.{◌≡◌, ◌+◌, ◌++◌, drop, fields_tokens, fields_at, fields_scope}
use Rattle.typed_trees.proofs.walk.Walk.fields.Given as goal

-- what is made so far, followed by what is made of the rest, is what is made of all
abbrev pub invariant-loop-tree : goal.invariant-loop-tree
invariant-loop-tree l = record {
  made : l.made ++ fields_at l.self (drop l.tree-index l.trees) ≡ fields_at l.initial.self l.trees;
  names : l.self.names ≡ l.initial.self.names;
  kinds : l.self.kinds ≡ l.initial.self.kinds;
  scope : fields_scope l.self (drop l.tree-index l.trees) ≡ fields_scope l.initial.self l.trees;
  next : l.self.next + fields_tokens (drop l.tree-index l.trees) ≡ l.initial.self.next + fields_tokens l.trees;
}
