use Rattle.observed_runs.proofs.Prelude.{◌∙◌, ap, length, Node, length-replicate}
use Rattle.observed_runs.proofs.Keeping.{none_marked}
use Rattle.observed_runs.proofs.steps.steps_of.Goals as goal

pub all_enough-requires : goal.all_enough-requires
all_enough-requires c =
    let is = c.deref_mut.ensures.value ∙ c.in_ok-marks.ensures in
    record {
      form = c.requires;
      marks = ap length is ∙ length-replicate (length c.nodes.result.now) 0 ∙ ap (λ (ns : _). length {A = Node} ns) (c.nodes.ensures.value ∙ c.table.ensures);
      unmarked = none_marked c.deref_mut.result.now (length c.nodes.result.now) is;
    }
