use Rattle.std.proofs.Common.{refl}
use Rattle.resource_rule.proofs.link_sets.acquiring_link.Goals as goal

pub resource_end-requires : goal.resource_end-requires
resource_end-requires c = (c.in_ok-link.ensures.found c.in_ok-link.link refl).within
