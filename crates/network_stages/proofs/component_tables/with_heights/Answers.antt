use Rattle.std.proofs.Common.{refl}
use Rattle.network_stages.proofs.component_tables.with_heights.Goals as goal

pub returns-clause-fault : goal.returns-clause-fault
returns-clause-fault c = (refl, (_, (rw c.in-Err-Told.field-0-is at c.in-Err-Told.ensures.circle).circle))
