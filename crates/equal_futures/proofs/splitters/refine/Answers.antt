use Rattle.equal_futures.proofs.Prelude.{◌≡◌, ℕ, List, length, subst, sym, ap, ◌∙◌, arith, IfOk-weaker, AreRenumbered, state_of, count_of, Classes}
use Rattle.equal_futures.proofs.Settling.{block_refined, classes_then, marks_refined, rows_read}
use Rattle.equal_futures.proofs.splitters.refine.Goals as goal

pub loop-block-init : goal.loop-block-init
loop-block-init c =
    marks_refined c.args.nodes.now c.args.marks.now c.requires.rising c.requires.marks (count_of c.in_ok-partition.partition) (state_of c.in_ok-partition.partition) (state_of c.split_by_marks.new.partition)
    c.in_ok-partition.ensures.fit.blocks_len c.in_ok-partition.ensures c.in_ok-split_by_marks.ensures

pub split_by_block-requires-clause-rows : goal.split_by_block-requires-clause-rows
split_by_block-requires-clause-rows c =
    let count : count_of c.next_waiting.new.self ≡ length c.args.nodes.now = c.in-Some.ensures.fit.blocks_len ∙ c.loop-block.invariant.fit.blocks_len in
    ap length c.as_slice.ensures.value ∙ c.in_ok-rows.ensures.one_each ∙ sym count

pub split_by_block-requires-clause-sources : goal.split_by_block-requires-clause-sources
split_by_block-requires-clause-sources c =
    rows_read c.args.nodes.now c.in_ok-rows.rows.items c.as_slice.result.now (count_of c.next_waiting.new.self) (c.in-Some.ensures.fit.blocks_len ∙ c.loop-block.invariant.fit.blocks_len) c.in_ok-rows.ensures c.as_slice.ensures.value

pub loop-block-preserved : goal.loop-block-preserved
loop-block-preserved c =
    block_refined c.args.nodes.now c.args.marks.now c.requires.rising c.requires.marks (state_of c.loop-block.partition) (state_of c.next_waiting.new.self) (state_of c.split_by_block.new.partition) c.in-Some.block
    (count_of c.loop-block.partition) (count_of c.next_waiting.new.self) c.in_ok-rows.rows.items c.as_slice.result.now c.loop-block.invariant c.loop-block.invariant.fit.blocks_len (c.in-Some.ensures.fit.blocks_len ∙ c.loop-block.invariant.fit.blocks_len)
    c.in-Some.ensures c.in_ok-rows.ensures c.as_slice.ensures.value c.in_ok-split_by_block.ensures

pub renumber-requires : goal.renumber-requires
renumber-requires c =
    let blocks : c.as_slice-2.result.now ≡ (state_of c.loop-block.partition).blocks = c.as_slice-2.ensures.value ∙ ap (λ s. s.blocks) c.in_default.ensures.same in
    omega (arith, ap length blocks, c.loop-block.invariant.fit.blocks_len, c.requires.numbered)

pub returns : goal.returns
returns c =
    let blocks : c.as_slice-2.result.now ≡ (state_of c.loop-block.partition).blocks = c.as_slice-2.ensures.value ∙ ap (λ s. s.blocks) c.in_default.ensures.same in
    IfOk-weaker _ _ _ (λ (made : Classes) (h : AreRenumbered c.as_slice-2.result.now made.numbers.items made.count).
    classes_then c.args.nodes.now c.args.marks.now c.requires.rising c.requires.marks (state_of c.loop-block.partition) made.numbers.items made.count c.loop-block.invariant c.in_default.ensures.none
    (subst (λ (xs : List ℕ). AreRenumbered xs made.numbers.items made.count) blocks h)) c.renumber.ensures
