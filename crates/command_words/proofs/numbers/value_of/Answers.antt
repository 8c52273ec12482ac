use Rattle.command_words.proofs.Prelude.{◌≡◌, ℕ, ◌<◌, List, drop, arith, continued}
use Rattle.command_words.proofs.Digits.{continued_grows}
use Rattle.command_words.proofs.numbers.value_of.Goals as goal

-- the number so far is small
small : (n m : ℕ) (rest : List ℕ) → continued n rest ≡ m → m < 1000000 → n < 1000000
small n m rest is few = let grows = continued_grows n rest in omega arith

pub overflow_mul-number : goal.overflow_mul-number
overflow_mul-number c =
    let few = small c.loop-digit.number (continued 0 c.args.digits.now) (drop c.loop-digit.digit-index c.args.digits.now) c.loop-digit.invariant c.requires in
    omega (arith, few)

pub overflow_add-number : goal.overflow_add-number
overflow_add-number c =
    let few = small c.loop-digit.number (continued 0 c.args.digits.now) (drop c.loop-digit.digit-index c.args.digits.now) c.loop-digit.invariant c.requires in
    omega (arith, few, c.from.ensures, c.saturating_sub.ensures)
