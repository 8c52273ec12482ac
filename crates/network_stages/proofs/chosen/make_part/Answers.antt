use Rattle.network_stages.proofs.Prelude.{subst, HasNoPart, ChosenComponent, Tells}
use Rattle.network_stages.proofs.MadeParts.{no_part}
use Rattle.network_stages.proofs.chosen.make_part.Goals as goal

pub returns-clause-told : goal.returns-clause-told
returns-clause-told c =
    subst (λ (chosen : ChosenComponent). Tells (HasNoPart chosen.program chosen.number chosen.component) c.in-Err.stop) c.chosen.view_is
    (no_part c.chosen.inside.program.now c.chosen.inside.number c.chosen.inside.seat.now _ _ c.in-Err.stop c.from_ref-seats.ensures.value c.in_ok-tables.ensures.tables c.in-Err.ensures.told)
