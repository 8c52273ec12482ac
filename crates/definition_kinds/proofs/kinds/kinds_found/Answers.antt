use Rattle.definition_kinds.proofs.FoundLaws.{found_step}
use Rattle.definition_kinds.proofs.kinds.kinds_found.Goals as goal

pub loop-d-preserved : goal.loop-d-preserved
loop-d-preserved c =
    found_step c.args.found.now c.loop-d.d c.loop-d.kinds.items c.push.new.self.items c.kind_found.result c.in_ok-push.ensures.items c.kind_found.ensures c.loop-d.invariant
