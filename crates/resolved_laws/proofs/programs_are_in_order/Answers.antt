use Rattle.resolved_laws.proofs.Tabled.{resolved_is_in_order}
use Rattle.resolved_laws.proofs.Whole.{plain_is_in_order}
use Rattle.resolved_laws.proofs.programs_are_in_order.Goals as goal

pub returns-clause-plain : goal.returns-clause-plain
returns-clause-plain c = plain_is_in_order

pub returns-clause-resolved : goal.returns-clause-resolved
returns-clause-resolved c = resolved_is_in_order
