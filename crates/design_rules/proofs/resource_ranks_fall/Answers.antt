use Rattle.design_rules.proofs.Resource.{resource_ranks_fall, ordered_ranks_fall}
use Rattle.design_rules.proofs.resource_ranks_fall.Goals as goal

pub returns : goal.returns
returns c = record { chains = resource_ranks_fall; ordered = ordered_ranks_fall }
