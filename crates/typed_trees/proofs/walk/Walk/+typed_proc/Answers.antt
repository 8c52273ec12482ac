use Rattle.typed_trees.proofs.OtherForms.{proc-other}
use Rattle.typed_trees.proofs.walk.Walk.+typed_proc.Goals as goal

pub process-returns-in_default-clause-made : goal.process-returns-in_default-clause-made
process-returns-in_default-clause-made t c = rw (proc-other c.args.self.now c.args.tree.now (record {
  not_skip = c.in_default.not-Skip;
  not_name = c.in_default.not-Name;
  not_call = c.in_default.not-Call;
  not_if = c.in_default.not-If;
  not_prefix = c.in_default.not-Prefix;
  not_guard = c.in_default.not-Guard;
  not_external = c.in_default.not-External;
  not_internal = c.in_default.not-Internal;
  not_each_external = c.in_default.not-EachExternal;
  not_each_internal = c.in_default.not-EachInternal;
  not_seq = c.in_default.not-Seq;
  not_hide = c.in_default.not-Hide;
  not_rename = c.in_default.not-Rename;
}))
