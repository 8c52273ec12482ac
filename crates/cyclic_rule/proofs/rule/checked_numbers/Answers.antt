use Rattle.std.specs.Prelude.{slice_index}
use Rattle.cyclic_rule.proofs.rule.checked_numbers.Goals as goal

pub check_ends-requires-clause-numbered : goal.check_ends-requires-clause-numbered
check_ends-requires-clause-numbered c = record { number = slice_index c.in_ok-numbers.numbers; rise = c.in_ok-numbers.ensures.rise }
