use Rattle.typed_trees.proofs.Prelude.{◌≡◌, ◌+◌, ◌*◌, ◌++◌, drop, max, all_tokens, gens_tokens, parts_tokens, exprs_at, gens_at, gens_scope, parts_at}
use Rattle.csp_text.proofs.tree.Tree.TheLaws.{the_size}
use denote.Param.Weighed as weighed
use Rattle.csp_text.proofs.tree.GenTree.TheLaws as generator
use Rattle.typed_trees.proofs.walk.Walk.+typed_expr.Given as goal

-- what is made so far, followed by what is made of the rest, is what is made of all
abbrev pub invariant-expressions-loop-tree : goal.invariant-expressions-loop-tree
invariant-expressions-loop-tree l = record {
  made : l.made ++ exprs_at l.self (drop l.tree-index l.trees) ≡ exprs_at l.initial.self l.trees;
  names : l.self.names ≡ l.initial.self.names;
  kinds : l.self.kinds ≡ l.initial.self.kinds;
  scope : l.self.scope ≡ l.initial.self.scope;
  next : l.self.next + all_tokens (drop l.tree-index l.trees) ≡ l.initial.self.next + all_tokens l.trees;
}

abbrev pub invariant-generators-loop-tree : goal.invariant-generators-loop-tree
invariant-generators-loop-tree l = record {
  made : l.made ++ gens_at l.self (drop l.tree-index l.trees) ≡ gens_at l.initial.self l.trees;
  names : l.self.names ≡ l.initial.self.names;
  kinds : l.self.kinds ≡ l.initial.self.kinds;
  scope : gens_scope l.self (drop l.tree-index l.trees) ≡ gens_scope l.initial.self l.trees;
  next : l.self.next + gens_tokens (drop l.tree-index l.trees) ≡ l.initial.self.next + gens_tokens l.trees;
}

abbrev pub invariant-fronts-loop-part : goal.invariant-fronts-loop-part
invariant-fronts-loop-part l = record {
  made : l.made ++ parts_at l.self (drop l.part-index l.parts) ≡ parts_at l.initial.self l.parts;
  names : l.self.names ≡ l.initial.self.names;
  kinds : l.self.kinds ≡ l.initial.self.kinds;
  scope : l.self.scope ≡ l.initial.self.scope;
  next : l.self.next + parts_tokens (drop l.part-index l.parts) ≡ l.initial.self.next + parts_tokens l.parts;
}

-- how deep what is left is, four for each level: a list or a tree on the heap comes above what stands in it, two trees
-- above one, and a form above those
abbrev pub decreases-expression : goal.decreases-expression
decreases-expression l = 4 * the_size l.tree.now

abbrev pub decreases-box_expr : goal.decreases-box_expr
decreases-box_expr l = 4 * the_size l.tree.now + 1

abbrev pub decreases-generator : goal.decreases-generator
decreases-generator l = 4 * goal.size-generator l

abbrev pub decreases-front : goal.decreases-front
decreases-front l = 4 * goal.size-front l

abbrev pub decreases-expressions : goal.decreases-expressions
decreases-expressions l = 4 * goal.size-expressions l + 1

abbrev pub decreases-generators : goal.decreases-generators
decreases-generators l = 4 * goal.size-generators l + 1

abbrev pub decreases-generators_after : goal.decreases-generators_after
decreases-generators_after l = 4 * goal.size-generators_after l + 2

abbrev pub decreases-fronts : goal.decreases-fronts
decreases-fronts l = 4 * goal.size-fronts l + 1

abbrev pub decreases-two_exprs : goal.decreases-two_exprs
decreases-two_exprs l = 4 * max (the_size l.a.now) (the_size l.b.now) + 2

abbrev pub decreases-comprehension : goal.decreases-comprehension
decreases-comprehension l = 4 * max (goal.size-comprehension l) (weighed.most (λ x. generator.the_size x) l.gens.now) + 3

abbrev pub decreases-product : goal.decreases-product
decreases-product l = 4 * max (goal.size-product l) (weighed.most (λ x. generator.the_size x) l.gens.now) + 3

abbrev pub decreases-bind_over : goal.decreases-bind_over
decreases-bind_over l = 4 * the_size l.set.now + 2

abbrev pub decreases-expr_choice : goal.decreases-expr_choice
decreases-expr_choice l = 4 * max (the_size l.c.now) (max (the_size l.a.now) (the_size l.b.now)) + 3
