use Rattle.comparison.proofs.Prelude.{◌≡◌, length, ap, rules, arith, sym, subst, leaves, one_part_each, ProcessStep, Tells, FailsToConform}
use Rattle.comparison.proofs.Components.{all_conform, as_many, first_fails, same_events}
use Rattle.comparison.proofs.conforming.check_components.Goals as goal

pub check_parts-requires-clause-few : goal.check_parts-requires-clause-few
check_parts-requires-clause-few c =
    let network = c.args.network.now.network in
    let one_each = one_part_each (ProcessStep network.program) (leaves network.tree) c.args.network.now.parts c.parts.ensures.are.are in
    let seats : length c.seats-seats.result.now ≡ length (leaves network.tree) = search rules in
    omega (arith, one_each, seats, c.seats-seats.ensures.few, ap length c.parts.ensures.parts)

pub check_parts-requires-clause-as_many : goal.check_parts-requires-clause-as_many
check_parts-requires-clause-as_many c =
    as_many c.args.network.now.network c.args.specified.now.network _ _ (search rules) (search rules) c.requires

pub check_parts-requires-clause-events : goal.check_parts-requires-clause-events
check_parts-requires-clause-events c =
    same_events c.args.network.now.network c.args.specified.now.network _ _ (search rules) (search rules) c.requires

pub returns-in-Ok-clause-conform : goal.returns-in-Ok-clause-conform
returns-in-Ok-clause-conform c = all_conform c.args.network.now.network c.args.specified.now.network c.parts.result.now c.parts-2.result.now (search rules) (search rules) c.requires c.in-Ok.ensures.conform

pub returns-in-Err-clause-told : goal.returns-in-Err-clause-told
returns-in-Err-clause-told c =
    subst (Tells (FailsToConform c.args.network.now.network c.args.specified.now.network)) (sym c.failure.ensures)
    (first_fails c.args.network.now.network c.args.specified.now.network c.parts.result.now c.parts-2.result.now (search rules) (search rules) c.requires c.in-Err.place c.in-Err.stop
    c.in-Err.ensures.within c.in-Err.ensures.earlier c.in-Err.ensures.told)
