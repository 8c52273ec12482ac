use Rattle.print_laws.proofs.RoundTrip.{no_other, printed_spells}
use Rattle.print_laws.proofs.printed_text_spells_the_script.Goals as goal

pub returns : goal.returns
returns c = record { same = printed_spells; only = no_other }
