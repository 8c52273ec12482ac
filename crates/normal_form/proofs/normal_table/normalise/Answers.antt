use Rattle.normal_form.proofs.Normal.{normal_of_raw, few_nodes, rises}
use Rattle.normal_form.proofs.normal_table.normalise.Goals as goal

pub merged_nodes-requires-clause-rising : goal.merged_nodes-requires-clause-rising
merged_nodes-requires-clause-rising c = rises c.in_ok-sets.sets c.into_nodes.result.items c.into_nodes.ensures c.in_ok-sets.ensures.in_order c.in_ok-sets.ensures.breadth_first

pub returns-clause-normal : goal.returns-clause-normal
returns-clause-normal c = normal_of_raw c.args.table.now c.in_ok-sets.sets c.into_nodes.result.items c.in_ok-made.made c.count-count.ensures.form c.into_nodes.ensures c.in_ok-sets.ensures.traces c.in_ok-sets.ensures.acceptances c.in_ok-sets.ensures.in_order c.in_ok-sets.ensures.breadth_first c.in_ok-made.ensures

pub returns-clause-few : goal.returns-clause-few
returns-clause-few c = few_nodes c.args.table.now c.in_ok-sets.sets c.into_nodes.result.items c.in_ok-made.made c.into_nodes.ensures c.in_ok-sets.ensures.traces c.in_ok-sets.ensures.acceptances c.in_ok-sets.ensures.in_order c.in_ok-sets.ensures.breadth_first c.in_ok-sets.ensures.few c.in_ok-made.ensures
