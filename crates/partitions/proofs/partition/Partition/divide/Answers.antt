use Rattle.partitions.proofs.Prelude.{◌≡◌, ℕ, List, [], ◌∷◌, ◌++◌, length, set, sym, ap, ◌∙◌, subst, arith, rules, slice_index, with_items, length-set, with_items_is, state_of, count_of, State}
use Rattle.partitions.proofs.DividedFrom.{divided_from}
use Rattle.partitions.proofs.Sizes.{few_blocks}
use Rattle.partitions.proofs.partition.Partition.divide.Goals as goal

pub add_block-requires : goal.add_block-requires
add_block-requires c =
    let same : length (set (state_of c.args.self.now).firsts c.args.block c.index-middle.result.now) ≡ length (state_of c.args.self.now).firsts = length-set _ _ _ in
    omega (arith, few_blocks (count_of c.args.self.now) (state_of c.args.self.now) c.requires.blocks, c.requires.blocks.small)

pub returns-clause-divided : goal.returns-clause-divided
returns-clause-divided c =
    let s = state_of c.args.self.now in
    let f = c.index-first.result.now in
    let m = c.index-middle.result.now in
    let longer = c.in_ok-new.ensures.longer in
    let firsts : c.add_block.new.self.firsts.items ≡ set s.firsts c.args.block m ++ f ∷ [] = search rules in
    let count : c.in_ok-new.new ≡ length s.firsts = c.in_ok-new.ensures.new ∙ length-set _ _ _ in
    let list = c.add_block.new.self.blocks in
    let order : c.deref.result.now ≡ s.order = c.deref.ensures.value ∙ (ap (λ (t : State). t.order) longer) in
    let read : c.deref_mut.result.now ≡ list.items = c.deref_mut.ensures.value in
    let old : c.deref_mut.result.now ≡ s.blocks = read ∙ (ap (λ (t : State). t.blocks) longer) in
    let blocks : length c.assign.new.blocks ≡ length s.blocks = c.assign.auto.blocks ∙ ap (λ (xs : List ℕ). length xs) old in
    let items : (with_items list c.assign.new.blocks).items ≡ c.assign.new.blocks = with_items_is list c.assign.new.blocks (c.assign.auto.blocks ∙ ap (λ (xs : List ℕ). length xs) read ∙ sym list.ok.0) in
    divided_from (count_of c.args.self.now) s _ c.args.block f m c.in_ok-new.new c.requires.blocks c.requires.block c.index-first.ensures c.index-middle.ensures count (ap (λ (t : State). t.order) longer) (ap (λ (t : State). t.places) longer) (ap (λ (t : State). t.waiting) longer) firsts (ap (λ (t : State). t.middles) longer) (ap (λ (t : State). t.ends) longer) (ap (λ (t : State). t.flags) longer)
    (ap (λ (xs : List ℕ). length xs) items ∙ blocks)
    (λ k low high. ap (λ (xs : List ℕ). slice_index xs (slice_index s.order k)) items ∙ subst (λ (xs : List ℕ). slice_index c.assign.new.blocks (slice_index xs k) ≡ c.in_ok-new.new) order (c.assign.ensures.moved k low high))
    (λ i apart. ap (λ (xs : List ℕ). slice_index xs i) items ∙ c.assign.ensures.kept i (λ k low high e. apart k low high (subst (λ (xs : List ℕ). slice_index xs k ≡ i) order e)) ∙ ap (λ (xs : List ℕ). slice_index xs i) old)
