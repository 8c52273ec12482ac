use Rattle.name_faults.proofs.Prelude.{◌≡◌, ◌+◌, ◌*◌, max, take, after_fields, after_gens, after_pairs, after_parts, after_trees}
use Rattle.csp_text.proofs.tree.Tree.TheLaws.{the_size}
use denote.Param.Weighed as weighed
use Rattle.csp_text.proofs.tree.EventTree.TheLaws as event
use Rattle.csp_text.proofs.tree.GenTree.TheLaws as generator
use Rattle.csp_text.proofs.tree.PartTree.TheLaws as part
use Rattle.name_faults.proofs.walk.Walk.+walk.Given as goal

abbrev pub invariant-trees-loop-tree : goal.invariant-trees-loop-tree
invariant-trees-loop-tree l = l.self ≡ after_trees l.initial.self (take l.tree-index l.trees) l.place

abbrev pub invariant-parts-loop-part : goal.invariant-parts-loop-part
invariant-parts-loop-part l = l.self ≡ after_parts l.initial.self (take l.part-index l.parts) l.place

abbrev pub invariant-pairs-loop-old : goal.invariant-pairs-loop-old
invariant-pairs-loop-old l = l.self ≡ after_pairs l.initial.self (take l.old-index l.pairs) l.place

abbrev pub invariant-fields-loop-field : goal.invariant-fields-loop-field
invariant-fields-loop-field l = l.self ≡ after_fields l.initial.self (take l.field-index l.fields) l.place

abbrev pub invariant-gens-loop-generator : goal.invariant-gens-loop-generator
invariant-gens-loop-generator l = l.self ≡ after_gens l.initial.self (take l.generator-index l.gens) l.place

-- how deep what is left is, six for each level: a list comes above what stands in it, two trees above one, and a form above these
abbrev pub decreases-tree : goal.decreases-tree
decreases-tree l = 6 * goal.size-tree l + 1

abbrev pub decreases-field : goal.decreases-field
decreases-field l = 6 * goal.size-field l

abbrev pub decreases-generator : goal.decreases-generator
decreases-generator l = 6 * goal.size-generator l

abbrev pub decreases-part : goal.decreases-part
decreases-part l = 6 * goal.size-part l

abbrev pub decreases-trees : goal.decreases-trees
decreases-trees l = 6 * goal.size-trees l + 2

abbrev pub decreases-fields : goal.decreases-fields
decreases-fields l = 6 * goal.size-fields l + 1

abbrev pub decreases-gens : goal.decreases-gens
decreases-gens l = 6 * goal.size-gens l + 1

abbrev pub decreases-parts : goal.decreases-parts
decreases-parts l = 6 * goal.size-parts l + 1

abbrev pub decreases-pairs : goal.decreases-pairs
decreases-pairs l = 6 * goal.size-pairs l + 1

abbrev pub decreases-two_trees : goal.decreases-two_trees
decreases-two_trees l = 6 * max (the_size l.a.now) (the_size l.b.now) + 2

abbrev pub decreases-comprehension : goal.decreases-comprehension
decreases-comprehension l = 6 * max (weighed.most (λ x. the_size x) l.items.now) (weighed.most (λ x. generator.the_size x) l.gens.now) + 3

abbrev pub decreases-product : goal.decreases-product
decreases-product l = 6 * max (weighed.most (λ x. part.the_size x) l.parts.now) (weighed.most (λ x. generator.the_size x) l.gens.now) + 3

abbrev pub decreases-renaming : goal.decreases-renaming
decreases-renaming l = 6 * max (goal.size-renaming l) (weighed.most (λ x. generator.the_size x) l.gens.now) + 3

abbrev pub decreases-prefix : goal.decreases-prefix
decreases-prefix l = 6 * max (event.the_size l.event.now) (the_size l.p.now) + 3

abbrev pub decreases-each : goal.decreases-each
decreases-each l = 6 * max (the_size l.s.now) (the_size l.p.now) + 3

abbrev pub decreases-each_parallel : goal.decreases-each_parallel
decreases-each_parallel l = 6 * max (the_size l.s.now) (max (the_size l.a.now) (the_size l.p.now)) + 3
