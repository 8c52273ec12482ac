use Rattle.print_laws.proofs.RoundTrip.{well_formed}
use Rattle.print_laws.proofs.found_tokens_are_well_formed.Goals as goal

pub returns : goal.returns
returns c = record { tokens = well_formed }
