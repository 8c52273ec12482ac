use Rattle.typed_trees.proofs.OtherForms.{net-other}
use Rattle.typed_trees.proofs.walk.Walk.+typed_net.Goals as goal

pub network-returns-in_default : goal.network-returns-in_default
network-returns-in_default t c =
    let other = net-other c.args.self.now c.args.tree.now (record {
      not_name = c.in_default.not-Name;
      not_call = c.in_default.not-Call;
      not_if = c.in_default.not-If;
      not_parallel = c.in_default.not-Parallel;
      not_each_parallel = c.in_default.not-EachParallel;
    }) in
    record {
      made = rw other c.leaf-in_default.ensures.made;
      walk = c.leaf-in_default.ensures.walk;
    }
