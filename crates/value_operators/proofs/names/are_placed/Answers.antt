use Rattle.std.proofs.Common.{arith}
use Rattle.value_operators.proofs.NameLaws.{placed_whole}
use Rattle.value_operators.proofs.names.are_placed.Goals as goal

pub returns : goal.returns
returns c = λ placed. placed_whole c.args.params.now c.args.args.now (omega arith) (c.are_places.ensures placed)
