use Rattle.typed_trees.proofs.Prelude.{◌≡◌, ◌+◌, ◌*◌, drop, max, all_tokens, fields_tokens, gens_tokens, parts_tokens, pairs_tokens}
use Rattle.csp_text.proofs.tree.Tree.TheLaws.{the_size}
use Rattle.typed_trees.proofs.counts.+count.Given as goal

-- what is counted so far and what is left are as many as all
abbrev pub invariant-count_trees-loop-tree : goal.invariant-count_trees-loop-tree
invariant-count_trees-loop-tree l = l.count + all_tokens (drop l.tree-index l.trees) ≡ all_tokens l.trees

abbrev pub invariant-count_fields-loop-field : goal.invariant-count_fields-loop-field
invariant-count_fields-loop-field l = l.count + fields_tokens (drop l.field-index l.fields) ≡ fields_tokens l.fields

abbrev pub invariant-count_gens-loop-generator : goal.invariant-count_gens-loop-generator
invariant-count_gens-loop-generator l = l.count + gens_tokens (drop l.generator-index l.gens) ≡ gens_tokens l.gens

abbrev pub invariant-count_parts-loop-part : goal.invariant-count_parts-loop-part
invariant-count_parts-loop-part l = l.count + parts_tokens (drop l.part-index l.parts) ≡ parts_tokens l.parts

abbrev pub invariant-count_pairs-loop-pair : goal.invariant-count_pairs-loop-pair
invariant-count_pairs-loop-pair l = l.count + pairs_tokens (drop l.pair-index l.pairs) ≡ pairs_tokens l.pairs

-- how deep what is left is, two for each level: a list comes above what stands in it
abbrev pub decreases-count_tree : goal.decreases-count_tree
decreases-count_tree l = 2 * the_size l.tree.now

abbrev pub decreases-count_field : goal.decreases-count_field
decreases-count_field l = 2 * goal.size-count_field l

abbrev pub decreases-count_gen : goal.decreases-count_gen
decreases-count_gen l = 2 * goal.size-count_gen l

abbrev pub decreases-count_front : goal.decreases-count_front
decreases-count_front l = 2 * goal.size-count_front l

abbrev pub decreases-count_two : goal.decreases-count_two
decreases-count_two l = 2 * max (the_size l.a.now) (the_size l.b.now) + 1

abbrev pub decreases-count_trees : goal.decreases-count_trees
decreases-count_trees l = 2 * goal.size-count_trees l + 1

abbrev pub decreases-count_fields : goal.decreases-count_fields
decreases-count_fields l = 2 * goal.size-count_fields l + 1

abbrev pub decreases-count_gens : goal.decreases-count_gens
decreases-count_gens l = 2 * goal.size-count_gens l + 1

abbrev pub decreases-count_parts : goal.decreases-count_parts
decreases-count_parts l = 2 * goal.size-count_parts l + 1

abbrev pub decreases-count_pairs : goal.decreases-count_pairs
decreases-count_pairs l = 2 * goal.size-count_pairs l + 1
