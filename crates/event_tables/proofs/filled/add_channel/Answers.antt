use Rattle.event_tables.proofs.Prelude.{◌∙◌, sym, ap, arith, slice_get, lent, length}
use Rattle.event_tables.proofs.CountLaws.{events_then, left_ok}
use Rattle.event_tables.proofs.SetLaws.{fill_none, fill_ok}
use Rattle.event_tables.proofs.filled.add_channel.Goals as goal

pub add_filled-requires : goal.add_filled-requires
add_filled-requires c =
    let few = c.requires in
    let here = events_then (lent c.args.all.now) (length c.args.made.now) c.in-Some.sets.now (ap (slice_get (lent c.args.all.now)) (sym c.len.ensures) ∙ sym c.in-Some.ensures) in
    omega (arith, few, here)

pub returns-in-Some-clause-few : goal.returns-in-Some-clause-few
returns-in-Some-clause-few c =
    left_ok c.add_filled.result c.args.made.now c.add_filled.new.made _ c.args.first (lent c.args.all.now) c.in-Some.sets.now
    (ap (slice_get (lent c.args.all.now)) (sym c.len.ensures) ∙ sym c.in-Some.ensures) c.add_filled.ensures.next c.add_filled.ensures.made

pub returns-in-Some-clause-made : goal.returns-in-Some-clause-made
returns-in-Some-clause-made c =
    fill_ok c.add_filled.result c.args.made.now c.add_filled.new.made c.args.channel c.args.first (lent c.args.all.now) c.in-Some.sets.now
    (ap (slice_get (lent c.args.all.now)) (sym c.len.ensures) ∙ sym c.in-Some.ensures) c.add_filled.ensures.next c.add_filled.ensures.made

pub returns-in-None-clause-made : goal.returns-in-None-clause-made
returns-in-None-clause-made c = λ channels.
    fill_none c.args.made.now channels c.args.channel c.args.first (lent c.args.all.now)
    (ap (slice_get (lent c.args.all.now)) (sym c.len.ensures) ∙ sym c.in-None.ensures)
