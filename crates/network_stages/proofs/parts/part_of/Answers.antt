use Rattle.std.proofs.Common.{refl, ◌∙◌}
use Rattle.network_stages.proofs.MadeParts.{is_part}
use Rattle.network_stages.proofs.SetsOfTables.{few_sets, many_sets}
use Rattle.network_stages.proofs.parts.part_of.Goals as goal

pub returns-in-Ok-clause-part : goal.returns-in-Ok-clause-part
returns-in-Ok-clause-part c =
    (is_part c.args.program.now c.args.seat.now c.args.table.now c.in_ok-alphabet.alphabet c.in-Ok.normal c.new.result c.requires (c.in_ok-alphabet.ensures ∙ c.alphabet.ensures)
    c.in-Ok.ensures.normal c.in-Ok.ensures.few c.new.ensures).0

pub returns-in-Ok-clause-form : goal.returns-in-Ok-clause-form
returns-in-Ok-clause-form c =
    (is_part c.args.program.now c.args.seat.now c.args.table.now c.in_ok-alphabet.alphabet c.in-Ok.normal c.new.result c.requires (c.in_ok-alphabet.ensures ∙ c.alphabet.ensures)
    c.in-Ok.ensures.normal c.in-Ok.ensures.few c.new.ensures).1

pub returns-in-Ok-clause-few : goal.returns-in-Ok-clause-few
returns-in-Ok-clause-few c = few_sets c.args.program.now c.args.seat.now c.args.table.now c.requires c.in-Ok.ensures.within_limit

pub returns-clause-told : goal.returns-clause-told
returns-clause-told c =
    (many_sets c.args.program.now c.args.seat.now c.args.table.now c.requires (rw c.in-Err-Told.field-0-is at c.in-Err-Told.ensures.limit), refl)
