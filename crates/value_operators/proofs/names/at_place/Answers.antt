use Rattle.value_operators.proofs.Prelude.{subst, sym, Gives}
use Rattle.value_operators.proofs.NameLaws.{placed_here, placed_past}
use Rattle.value_operators.proofs.names.at_place.Goals as goal

pub returns-in-Some : goal.returns-in-Some
returns-in-Some c = subst (Gives c.copy_value.result) (sym (placed_here c.args.placed.now c.args.slot c.in-Some.value.now c.in-Some.ensures.lookup.3.0 c.in-Some.ensures.lookup.1)) c.copy_value.ensures

pub returns-in-None : goal.returns-in-None
returns-in-None c = placed_past c.args.placed.now c.args.slot c.in-None.ensures.lookup.3
