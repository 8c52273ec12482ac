use Rattle.livelock.proofs.Prelude.{ap, sym, ◌∙◌, datum, option_and_then, option_copied}
use Rattle.livelock.proofs.named.data_among.Goals as goal

pub returns-in-Some : goal.returns-in-Some
returns-in-Some c = c.datum.ensures ∙ ap (option_and_then datum) (ap option_copied (sym c.in-Some.is) ∙ c.definition_named.ensures)

pub returns-in-None : goal.returns-in-None
returns-in-None c = ap (option_and_then datum) (ap option_copied (sym c.in-None.is) ∙ c.definition_named.ensures)
