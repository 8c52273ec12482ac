use Rattle.judgement_laws.proofs.Flat.{networks_are_flat}
use Rattle.judgement_laws.proofs.networks_are_flat.Goals as goal

pub returns : goal.returns
returns c = networks_are_flat
