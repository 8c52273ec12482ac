use Rattle.equal_futures.proofs.Prelude.{refl, on_ok_weaker, IsSplitByEvents, state_of, count_of, IsSplitByBlock}
use Rattle.equal_futures.proofs.Settling.{all_members, gathered_from}
use Rattle.equal_futures.proofs.splitters.split_by_block.Goals as goal

pub entering_steps-requires : goal.entering_steps-requires
entering_steps-requires c = all_members (count_of c.args.partition.now) _ c.args.block (state_of c.args.partition.now) c.members.result.now c.requires.rows c.members.ensures

pub split_by_events-requires-clause-sources : goal.split_by_events-requires-clause-sources
split_by_events-requires-clause-sources c =
    gathered_from (count_of c.args.partition.now) (count_of c.args.partition.now) c.args.block (state_of c.args.partition.now) c.args.rows.now c.members.result.now c.in_ok-steps.steps.items c.requires.rows refl c.requires.sources c.members.ensures c.in_ok-steps.ensures

pub returns : goal.returns
returns c =
    let n = count_of c.args.partition.now in
    let s = state_of c.args.partition.now in
    let t = state_of c.split_by_events.new.partition in
    let found : IsSplitByEvents n s t c.in_ok-steps.steps.items → IsSplitByBlock n s t c.args.rows.now c.args.block =
    λ h. record { members = c.members.result.now; steps = c.in_ok-steps.steps.items; exact = c.members.ensures; gathered = c.in_ok-steps.ensures; split = h }
    in
    on_ok_weaker c.split_by_events.result found c.split_by_events.ensures
