use Rattle.equal_futures.proofs.Prelude.{◌<◌, sym, subst, arith, All, state_of, count_of, IsSplit, same_count}
use Rattle.equal_futures.proofs.Grouping.{one_more_group, all_groups, sources_part, part}
use Rattle.equal_futures.proofs.splitters.split_by_groups.Goals as goal

pub split-requires-clause-sources : goal.split-requires-clause-sources
split-requires-clause-sources c =
    subst (λ m. All (λ step. step.1 < m) (part c.args.steps.now c.loop-from.from c.group_end-to.result)) (sym c.loop-from.invariant.fit.blocks_len)
    (sources_part (count_of c.args.partition.now) c.args.steps.now c.loop-from.from c.group_end-to.result c.requires.sources (omega (arith, c.group_end-to.ensures.after)) c.group_end-to.ensures.within)

pub loop-from-preserved : goal.loop-from-preserved
loop-from-preserved c =
    one_more_group (count_of c.args.partition.now) (state_of c.args.partition.now) (state_of c.loop-from.partition) (state_of c.split.new.self) c.args.steps.now c.loop-from.from c.group_end-to.result c.requires.sorted
    (record { after = c.group_end-to.ensures.after; within = c.group_end-to.ensures.within; same = c.group_end-to.ensures.same; stops = c.group_end-to.ensures.stops })
    c.loop-from.invariant
    (same_count (count_of c.args.partition.now) (state_of c.loop-from.partition) c.loop-from.invariant.fit (λ n. IsSplit n (state_of c.loop-from.partition) (state_of c.split.new.self) (part c.args.steps.now c.loop-from.from c.group_end-to.result)) c.in_ok-split.ensures)

pub returns : goal.returns
returns c = all_groups (count_of c.args.partition.now) (state_of c.args.partition.now) (state_of c.loop-from.partition) c.args.steps.now c.loop-from.from c.loop-from-test.false c.loop-from.invariant
