use Rattle.csp_base.specs.Members.{has}
use Rattle.definition_kinds.proofs.FoundLaws.{marks_step}
use Rattle.definition_kinds.proofs.leading.marks_of.Goals as goal

pub loop-d-preserved : goal.loop-d-preserved
loop-d-preserved c =
    marks_step c.loop-d.marks.items c.push.new.self.items c.loop-d.d (has c.args.found.now) c.is_found.result c.in_ok-push.ensures.items c.is_found.ensures c.loop-d.invariant
