-- An operator's two halves: what the first operand alone comes to, and an operator on two numbers.
use Rattle.std.specs.Prelude.{ℤ, Bool, true, false, not, ◌+ℤ◌, ◌-ℤ◌, ◌*ℤ◌, int_lt, int_le, if◌then◌else◌, Option, Some, None, Ok, Err}
use Rattle.csp_program.specs.Prelude.{Outcome, and_then, as_atom, as_number, as_truth, truth, in_range, divided, quotient, remainder}
use Rattle.csp_program.specs.declared.kinds.ValueKind.TheVariants.{Kind}
use Rattle.csp_base.specs.declared.operators.BinOp.{BinOp}
use Rattle.csp_base.specs.declared.operators.BinOp.TheVariants as op
use Rattle.csp_atoms.specs.declared.value.Value.{Value}

-- the truth value that decides, where the first operand has it
abbrev pub decided_by : Bool → Bool → Option Value
decided_by decides b = if (if decides then b else not b) then Some (truth b) else None

-- the value of the whole, where the first operand decides it; a fault, where it is of a wrong kind
abbrev pub first_half : BinOp → Value → Outcome (Option Value)
first_half op.Or v = and_then (as_truth v) (λ b. Ok (decided_by true b))
first_half op.And v = and_then (as_truth v) (λ b. Ok (decided_by false b))
first_half op.Eq v = and_then (as_atom v) (λ a. Ok None)
first_half op.Ne v = and_then (as_atom v) (λ a. Ok None)
first_half _ v = and_then (as_number v) (λ a. Ok None)

-- an operator on two numbers; the others take none
abbrev pub on_two_numbers : BinOp → ℤ → ℤ → Outcome Value
on_two_numbers op.Lt m n = Ok (truth (int_lt m n))
on_two_numbers op.Le m n = Ok (truth (int_le m n))
on_two_numbers op.Gt m n = Ok (truth (int_lt n m))
on_two_numbers op.Ge m n = Ok (truth (int_le n m))
on_two_numbers op.Add m n = in_range (m +ℤ n)
on_two_numbers op.Sub m n = in_range (m -ℤ n)
on_two_numbers op.Mul m n = in_range (m *ℤ n)
on_two_numbers op.Div m n = divided quotient m n
on_two_numbers op.Rem m n = divided remainder m n
on_two_numbers _ m n = Err Kind
