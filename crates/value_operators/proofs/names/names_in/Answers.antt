use Rattle.value_operators.proofs.Prelude.{append-nil, sym, bound_to}
use Rattle.value_operators.proofs.names.names_in.Goals as goal

pub returns-then-are_placed : goal.returns-then-are_placed
returns-then-are_placed c = sym (c.are_placed.ensures c.if-are_placed.true)

pub returns : goal.returns
returns c = append-nil (bound_to c.args.params.now c.args.args.now)
