use Rattle.value_laws.proofs.ValuesInOrder as law
use Rattle.value_laws.proofs.values_are_in_order.Goals as goal

pub returns : goal.returns
returns c = law.values_are_in_order
