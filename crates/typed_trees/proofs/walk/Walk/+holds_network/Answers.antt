use Rattle.std.proofs.Common.{sym}
use Rattle.typed_trees.proofs.OtherForms.{networked-other}
use Rattle.typed_trees.proofs.walk.Walk.+holds_network.Goals as goal

pub returns-in_default : goal.returns-in_default
returns-in_default t c = sym (networked-other c.args.self.now c.args.tree.now (record {
  not_name = c.in_default.not-Name;
  not_call = c.in_default.not-Call;
  not_if = c.in_default.not-If;
  not_parallel = c.in_default.not-Parallel;
  not_each_parallel = c.in_default.not-EachParallel;
}))
