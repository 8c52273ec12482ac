-- The events of a program in order. An expression of an event is worth the place of this event in the program's event table, and each event of the
-- table is the worth of such an expression.
use Rattle.std.specs.Prelude.{◌≡◌, ℕ, IsTrue, Some, Ok, List, map, slice_get}
use Rattle.csp_program.specs.Prelude.{event_of, IsInOrder, expr_in_order, Env, value_within, meanings}
use Rattle.csp_program.specs.declared.expressions.Expr.{Expr}
use Rattle.csp_program.specs.declared.programs.Content.{Content}
use Rattle.value_laws.specs.EventNumbers.{HaveValues}
use Rattle.csp_atoms.specs.declared.atom.Atom.{Atom}
use Rattle.csp_atoms.specs.declared.value.Value.{Value}
use Rattle.csp_atoms.specs.declared.value.Value.TheVariants.{One}
use Rattle.csp_atoms.specs.declared.atom.Atom.TheVariants as atom
use Rattle.csp_program.specs.declared.expressions.Expr.TheVariants as expr

-- at that place of the program's event table stands the event of the channel with the number c that has these values
abbrev pub IsEventAt : Content → ℕ → ℕ → List Atom → Type 0
IsEventAt p place c row = slice_get p.events place ≡ Some (event_of c row)

-- where an expression of an event has a value, its fields have values, and its value is the place of the event that has them
abbrev pub ValuesArePlaces : Type 0
ValuesArePlaces =
    (p : Content) → IsInOrder p → (n c : ℕ) (fields : List Expr) (env : Env) (v : Value) → IsTrue (expr_in_order p (expr.Event c fields)) →
    value_within p n (expr.Event c fields) env ≡ Ok v →
    (place : ℕ) × (row : List Atom) × (v ≡ One (atom.Event place)) × HaveValues (meanings p n fields) env row × IsEventAt p place c row

-- the expression of an event, with its values put in
abbrev pub event_expression : ℕ → List Atom → Expr
event_expression c row = expr.Event c (map (λ a. expr.Lit (One a)) row)

-- each event of the table has its place as the value of its expression
abbrev pub PlacesAreValues : Type 0
PlacesAreValues =
    (p : Content) → IsInOrder p → (n place c : ℕ) (row : List Atom) (env : Env) → IsEventAt p place c row →
    value_within p n (event_expression c row) env ≡ Ok (One (atom.Event place))
