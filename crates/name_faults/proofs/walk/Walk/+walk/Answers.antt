use Rattle.name_faults.proofs.Prelude.{◌≡◌, ℕ, ◌+◌, ◌*◌, ◌<◌, ◌≤◌, map, max, append_assoc, arith, most, greatest, PartTree, field_depth, gen_depth, greatest_of_pairs, part_depth, tree_depth}
use Rattle.csp_text.proofs.tree.FieldTree.TheLaws as field
use Rattle.csp_text.proofs.tree.GenTree.TheLaws as generator
use Rattle.csp_text.proofs.tree.PartTree.TheLaws as part
use Rattle.csp_text.proofs.tree.Tree.TheLaws as tree
use Rattle.name_faults.proofs.Lists.{pairs-more}
use Rattle.name_faults.proofs.Says.{pair-is}
use Rattle.name_faults.proofs.Deepest.{in_list, in_most, in_pairs}
use Rattle.name_faults.proofs.walk.Walk.+walk.Goals as goal

-- nothing in a list is larger than the largest, or deeper than the deepest
pub trees-tree-requires : goal.trees-tree-requires
trees-tree-requires t c =
    let items = c.args.trees.now in
    let item = c.tree-item.result in
    let smaller : tree.the_size item ≤ most (λ x. tree.the_size x) items = in_most (λ x. tree.the_size x) items c.loop-tree.tree-index item c.loop-tree-test.true c.tree-item.is in
    let fits : tree_depth item ≤ greatest (map tree_depth items) = in_list tree_depth items c.loop-tree.tree-index item c.loop-tree-test.true c.tree-item.is in
    (omega arith, omega arith)

pub fields-field-requires : goal.fields-field-requires
fields-field-requires t c =
    let items = c.args.fields.now in
    let item = c.field-item.result in
    let smaller : field.the_size item ≤ most (λ x. field.the_size x) items = in_most (λ x. field.the_size x) items c.loop-field.field-index item c.loop-field-test.true c.field-item.is in
    let fits : field_depth item ≤ greatest (map field_depth items) = in_list field_depth items c.loop-field.field-index item c.loop-field-test.true c.field-item.is in
    (omega arith, omega arith)

pub gens-generator-requires : goal.gens-generator-requires
gens-generator-requires t c =
    let items = c.args.gens.now in
    let item = c.generator-item.result in
    let smaller : generator.the_size item ≤ most (λ x. generator.the_size x) items = in_most (λ x. generator.the_size x) items c.loop-generator.generator-index item c.loop-generator-test.true c.generator-item.is in
    let fits : gen_depth item ≤ greatest (map gen_depth items) = in_list gen_depth items c.loop-generator.generator-index item c.loop-generator-test.true c.generator-item.is in
    (omega arith, omega arith)

pub parts-part-requires : goal.parts-part-requires
parts-part-requires t c =
    let items = c.args.parts.now in
    let item = c.part-item.result in
    let smaller : part.the_size item ≤ most (λ x. part.the_size x) items = in_most (λ x. part.the_size x) items c.loop-part.part-index item c.loop-part-test.true c.part-item.is in
    let fits : part_depth item ≤ greatest (map part_depth items) = in_list part_depth items c.loop-part.part-index item c.loop-part-test.true c.part-item.is in
    (omega arith, omega arith)

-- the two parts of a pair
pub pairs-part-requires : goal.pairs-part-requires
pairs-part-requires t c =
    let items = c.args.pairs.now in
    let item = c.loop-old-item.result in
    let sizes : PartTree × PartTree → ℕ = λ pair. max (part.the_size pair.0) (max (part.the_size pair.1) 0) in
    let depths : PartTree × PartTree → ℕ × ℕ = λ pair. (part_depth pair.0, part_depth pair.1) in
    let smaller : max (part.the_size item.0) (max (part.the_size item.1) 0) ≤ most sizes items = in_most sizes items c.loop-old.old-index item c.loop-old-test.true c.loop-old-item.is in
    let fits : max (part_depth item.0) (part_depth item.1) ≤ greatest_of_pairs (map depths items) = in_pairs depths items c.loop-old.old-index item c.loop-old-test.true c.loop-old-item.is in
    (omega arith, omega arith)

pub pairs-part-requires-in-loop-old : goal.pairs-part-requires-in-loop-old
pairs-part-requires-in-loop-old t c =
    let items = c.args.pairs.now in
    let item = c.loop-old-item.result in
    let sizes : PartTree × PartTree → ℕ = λ pair. max (part.the_size pair.0) (max (part.the_size pair.1) 0) in
    let depths : PartTree × PartTree → ℕ × ℕ = λ pair. (part_depth pair.0, part_depth pair.1) in
    let smaller : max (part.the_size item.0) (max (part.the_size item.1) 0) ≤ most sizes items = in_most sizes items c.loop-old.old-index item c.loop-old-test.true c.loop-old-item.is in
    let fits : max (part_depth item.0) (part_depth item.1) ≤ greatest_of_pairs (map depths items) = in_pairs depths items c.loop-old.old-index item c.loop-old-test.true c.loop-old-item.is in
    (omega arith, omega arith)

pub pairs-loop-old-preserved : goal.pairs-loop-old-preserved
pairs-loop-old-preserved t c =
    let w = c.args.self.now in
    let item = c.loop-old-item.result in
    let more = pairs-more w.names c.args.pairs.now c.loop-old.old-index item c.args.place w.bound c.loop-old-test.true c.loop-old-item.is in
    let one = pair-is w.names c.args.place w.bound item in
    grind (arith, more, one, append_assoc)
