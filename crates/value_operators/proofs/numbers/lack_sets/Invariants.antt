use Rattle.value_operators.proofs.Prelude.{◌≡◌, drop, lack_sets}
use Rattle.value_operators.proofs.numbers.lack_sets.Given as goal

-- what is left decides
abbrev pub invariant-loop-part : goal.invariant-loop-part
invariant-loop-part l = lack_sets l.channels l.parts ≡ lack_sets l.channels (drop l.part-index l.parts)
