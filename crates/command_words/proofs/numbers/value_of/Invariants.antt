use Rattle.command_words.proofs.Prelude.{◌≡◌, drop, continued}
use Rattle.command_words.proofs.numbers.value_of.Given as goal

abbrev pub invariant-loop-digit : goal.invariant-loop-digit
invariant-loop-digit l = continued l.number (drop l.digit-index l.digits) ≡ continued 0 l.digits
