use Rattle.std.proofs.Common.{◌<◌, ◌≤◌, length, arith}
use Rattle.resource_conditions.proofs.Joining.{lacks_kind, have_kinds}
use Rattle.resource_conditions.proofs.kinds.check_kinds.Goals as goal

pub returns-then-part-count-clause-fault : goal.returns-then-part-count-clause-fault
returns-then-part-count-clause-fault c =
    let within : c.smaller-part.result < length c.args.setting.now.shape.parts = omega arith in
    (c.new.ensures, lacks_kind c.args.setting.now c.first_unlinked-unlinked.result c.in_ok-unparted.unparted c.smaller-part.result c.first_unlinked-unlinked.ensures c.in_ok-unparted.ensures c.smaller-part.ensures within)

pub returns-clause-kinds : goal.returns-clause-kinds
returns-clause-kinds c =
    let all : length c.args.setting.now.shape.parts ≤ c.smaller-part.result = omega arith in
    have_kinds c.args.setting.now c.first_unlinked-unlinked.result c.in_ok-unparted.unparted c.smaller-part.result c.shape-form.ensures.form c.first_unlinked-unlinked.ensures c.in_ok-unparted.ensures c.smaller-part.ensures all
