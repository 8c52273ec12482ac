-- `==` on the parts of processes is equality.
use Rattle.std.specs.Prelude.{◌≡◌, Bool, true, false, nat_eq, Some, None}
use Rattle.std.proofs.Common.{ap}
use Rattle.std.proofs.lemmas.Bool.{eqb-true, false≢true}
use Rattle.std.specs.Cmp.{first_so, second_so}
use Rattle.csp_atoms.specs.Exact.{exact_value}
use Rattle.csp_program.specs.ExactExpr.{eq_expr, exact_expr}
use Rattle.csp_program.specs.contracts.processes.HeadPartialEq.TheImpl as heads
use Rattle.csp_program.specs.contracts.processes.FieldPartialEq.TheImpl as fields
use Rattle.csp_program.specs.declared.processes.Field.{Field}
use Rattle.csp_program.specs.declared.processes.Field.TheVariants as field
use Rattle.csp_program.specs.declared.processes.Head.{Head}
use Rattle.csp_program.specs.declared.processes.Head.TheVariants as head

abbrev pub eq_head : Head → Head → Bool
eq_head = (heads.ghosts).eq

abbrev pub eq_field : Field → Field → Bool
eq_field = (fields.ghosts).eq

pub exact_head : (x y : Head) → eq_head x y ≡ true → x ≡ y
exact_head (head.Channel c) (head.Channel d) h = ap head.Channel (eqb-true c d h)
exact_head (head.Bound c) (head.Bound d) h = ap head.Bound (eqb-true c d h)
exact_head (head.Put v) (head.Put w) h = ap head.Put (exact_value v w h)
exact_head x y h = absurd (false≢true h)

pub exact_field : (x y : Field) → eq_field x y ≡ true → x ≡ y
exact_field (field.Put e) (field.Put d) h = ap field.Put (exact_expr e d h)
exact_field (field.Get x (Some s)) (field.Get y (Some t)) h =
    λ i. field.Get (eqb-true x y (first_so (nat_eq x y) (eq_expr s t) h) i) (Some (exact_expr s t (second_so (nat_eq x y) (eq_expr s t) h) i))
exact_field (field.Get x None) (field.Get y None) h = λ i. field.Get (eqb-true x y (first_so (nat_eq x y) true h) i) None
exact_field (field.Get x None) (field.Get y (Some t)) h = absurd (false≢true (second_so (nat_eq x y) false h))
exact_field (field.Get x (Some s)) (field.Get y None) h = absurd (false≢true (second_so (nat_eq x y) false h))
exact_field x y h = absurd (false≢true h)
