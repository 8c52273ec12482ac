use Rattle.network_stages.proofs.Tabling.{placed, still_within}
use Rattle.network_stages.proofs.MadeParts.{all_made, first_many, one_made}
use Rattle.network_stages.proofs.parts.all_parts.Goals as goal

pub bounds-tables-place : goal.bounds-tables-place
bounds-tables-place c = still_within c.args.program.now c.args.seats.now c.args.tables.now c.requires.tables _ c.loop-place-test.true

pub part_of-requires : goal.part_of-requires
part_of-requires c = placed c.args.program.now c.args.seats.now c.args.tables.now c.requires.tables _ _ _ c.loop-place-test.true c.index-seats-place.is c.index-tables-place.is

pub loop-place-preserved : goal.loop-place-preserved
loop-place-preserved c =
    one_made c.args.program.now c.args.seats.now _ _ c.loop-place-test.true c.index-seats-place.is _ _ _ c.loop-place.invariant c.in-Ok.ensures.part c.in-Ok.ensures.form c.in-Ok.ensures.few
    c.in_ok-add-in-Ok.ensures

pub returns-in-Err-clause-told : goal.returns-in-Err-clause-told
returns-in-Err-clause-told c = first_many c.args.program.now c.args.seats.now _ _ c.loop-place-test.true c.index-seats-place.is _ _ c.loop-place.invariant c.in-Err.ensures.told

pub returns-clause-few : goal.returns-clause-few
returns-clause-few c = (all_made c.args.program.now c.args.seats.now _ _ c.loop-place.invariant c.loop-place-test.false).1

pub returns-clause-parts : goal.returns-clause-parts
returns-clause-parts c = (all_made c.args.program.now c.args.seats.now _ _ c.loop-place.invariant c.loop-place-test.false).0
