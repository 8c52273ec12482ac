use Rattle.std.specs.Prelude.{slice_index}
use Rattle.cyclic_rule.proofs.rule.ranking_of.Goals as goal

pub returns-clause-cyclic : goal.returns-clause-cyclic
returns-clause-cyclic c =
    record {
      order = c.in_ok-numbers.ensures.keep;
      numbered = record { number = slice_index c.in_ok-numbers.numbers; rise = c.in_ok-numbers.ensures.rise };
      whole = c.in_ok-numbers.ensures.whole;
    }
