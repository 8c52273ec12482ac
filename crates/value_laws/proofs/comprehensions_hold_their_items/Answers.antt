use Rattle.value_laws.proofs.AtExpressions.{comprehensions_hold_their_items, productions_hold_what_begins}
use Rattle.value_laws.proofs.comprehensions_hold_their_items.Goals as goal

pub returns : goal.returns
returns c = record { items = comprehensions_hold_their_items; events = productions_hold_what_begins }
