use Rattle.equal_futures.proofs.Prelude.{◌<◌, [], length, sym, subst, All, Node, node_at, AreAdded, get_or_read}
use Rattle.equal_futures.proofs.Gathering.{one_more_incoming, all_targets}
use Rattle.equal_futures.proofs.splitters.incoming_rows.Goals as goal

pub add_steps-requires : goal.add_steps-requires
add_steps-requires c =
    let node = get_or_read c.args.nodes.now c.loop-source.source c.index-nodes-source.result c.loop-source-test.true c.index-nodes-source.is (record { next = []; accept = [] }) in
    subst (λ m. All (λ step. step.1 < m) c.index-nodes-source.result.next) (sym c.loop-source.invariant.one_each)
    (subst (λ (x : Node). All (λ step. step.1 < length c.args.nodes.now) x.next) (sym node) (all_targets (length c.args.nodes.now) (node_at c.args.nodes.now c.loop-source.source).next (c.requires.rising c.loop-source.source)))

pub loop-source-preserved : goal.loop-source-preserved
loop-source-preserved c =
    let node = get_or_read c.args.nodes.now c.loop-source.source c.index-nodes-source.result c.loop-source-test.true c.index-nodes-source.is (record { next = []; accept = [] }) in
    one_more_incoming c.args.nodes.now c.loop-source.rows.items c.add_steps.new.rows.items c.loop-source.source c.requires.rising c.loop-source.invariant
    (subst (λ (x : Node). AreAdded c.loop-source.rows.items c.add_steps.new.rows.items c.loop-source.source x.next) node c.in_ok-add_steps.ensures)
