-- The value of an expression, or the first fault that evaluation from the left meets.
--
-- An operand's kind is looked at as soon as the operand has its value. Names of definitions are worth what their bodies are, with the values of the
-- arguments; the number of uses that may still be entered goes down by one with each. Bound names have their values in an environment.
use Rattle.std.specs.Prelude.{ℕ, zero, suc, ◌+◌, ◌-◌, ◌*◌, ◌/◌, ◌%◌, ℤ, pos, negsuc, neg_ℤ, ◌+ℤ◌, ◌-ℤ◌, ◌*ℤ◌, int_lt, int_le, Bool, true, false, not, ◌&&◌, ◌||◌, is_none, nat_eq, if◌then◌else◌, Option, Some, None, Ok, Err, List, [], ◌∷◌, ◌++◌, map, length, take, drop, slice_get}
use Rattle.std.specs.List.{list_any}
use Rattle.dl_limits.specs.declared.TheConstants.{GREATEST_NUMBER, MOST_BINDINGS}
use Rattle.csp_base.specs.Prelude.{natural}
use Rattle.csp_base.specs.declared.operators.BinOp.{BinOp}
use Rattle.csp_base.specs.declared.operators.SetOp.{SetOp}
use Rattle.csp_atoms.specs.Prelude.{same, same_kind, alike, diff_of, has_atom, inter_of, union_of}
use Rattle.csp_atoms.specs.declared.atom.Atom.{Atom}
use Rattle.csp_atoms.specs.declared.value.Value.{Value}
use Rattle.csp_atoms.specs.declared.value.Value.TheVariants.{One, Many}
use Rattle.csp_program.specs.Atoms.{limited, numbers_from, set_with}
use Rattle.csp_program.specs.EventTable.{events_with}
use Rattle.csp_program.specs.Lists.{joined}
use Rattle.csp_program.specs.Outcome.{Outcome, and_then, or_fault}
use Rattle.csp_atoms.specs.declared.atom.Atom.TheVariants as atom
use Rattle.csp_base.specs.declared.operators.BinOp.TheVariants as op
use Rattle.csp_program.specs.declared.expressions.Expr.{Expr, fold-Expr}
use Rattle.csp_program.specs.declared.expressions.Expr.TheFolds.{fold-Gen, fold-EventPart}
use Rattle.csp_program.specs.declared.expressions.Expr.TheOpen.{Expr-F, Gen-F, EventPart-F}
use Rattle.csp_program.specs.declared.expressions.EventPart.{EventPart}
use Rattle.csp_program.specs.declared.expressions.Gen.{Gen}
use Rattle.csp_base.specs.declared.operators.SetOp.TheVariants as set_op
use Rattle.csp_program.specs.declared.kinds.ValueKind.TheVariants.{Range, Division, OutsideChannel, Kind, SetLimit}
use Rattle.csp_program.specs.declared.programs.Body.{Body}
use Rattle.csp_program.specs.declared.programs.Body.TheVariants as body
use Rattle.csp_program.specs.declared.programs.Channel.{Channel}
use Rattle.csp_program.specs.declared.programs.Content.{Content}
use Rattle.csp_program.specs.declared.programs.Def.{Def}

-- the values of the bound names, the last one bound first
abbrev pub Env : Type 0
Env = List (ℕ × Value)

abbrev pub bound_value : Env → ℕ → Outcome Value
bound_value [] x = Err Kind
bound_value (b ∷ env) x = if nat_eq b.0 x then Ok b.1 else bound_value env x

-- the parameters with the values of the arguments
abbrev pub bound_to : List ℕ → List Value → Env
bound_to (x ∷ xs) (v ∷ vs) = (x, v) ∷ bound_to xs vs
bound_to _ _ = []

-- an atom is needed
abbrev pub as_atom : Value → Outcome Atom
as_atom (One a) = Ok a
as_atom (Many atoms) = Err Kind

-- a number is needed
abbrev pub as_number : Value → Outcome ℤ
as_number (One (atom.Num n)) = Ok n
as_number _ = Err Kind

-- a truth value is needed
abbrev pub as_truth : Value → Outcome Bool
as_truth (One (atom.Truth b)) = Ok b
as_truth _ = Err Kind

-- a set is needed
abbrev pub as_set : Value → Outcome (List Atom)
as_set (One a) = Err Kind
as_set (Many atoms) = Ok atoms

abbrev pub number : ℤ → Value
number n = One (atom.Num n)

abbrev pub truth : Bool → Value
truth b = One (atom.Truth b)

abbrev pub many : Outcome (List Atom) → Outcome Value
many found = and_then found (λ atoms. Ok (Many atoms))

-- a number from -1,000,000 to 1,000,000
abbrev pub in_range : ℤ → Outcome Value
in_range n = if int_le (neg_ℤ (pos GREATEST_NUMBER)) n && int_le n (pos GREATEST_NUMBER) then Ok (number n) else Err Range

-- the quotient rounded towards the lower number, and the remainder, for a divisor of at least 1
abbrev pub quotient : ℤ → ℕ → ℤ
quotient (pos m) d = pos (m / d)
quotient (negsuc m) d = negsuc (m / d)

abbrev pub remainder : ℤ → ℕ → ℤ
remainder (pos m) d = pos (m % d)
remainder (negsuc m) d = pos (d - 1 - m % d)

abbrev pub divided : (ℤ → ℕ → ℤ) → ℤ → ℤ → Outcome Value
divided f m (pos (suc d)) = Ok (number (f m (suc d)))
divided _ _ _ = Err Division

-- an operator on two numbers, the first of which has its value
abbrev pub on_numbers : (ℤ → ℤ → Outcome Value) → Value → Outcome Value → Outcome Value
on_numbers f v second = and_then (as_number v) (λ m. and_then second (λ w. and_then (as_number w) (λ n. f m n)))

-- a comparison of two atoms of one kind
abbrev pub on_atoms : (Atom → Atom → Bool) → Value → Outcome Value → Outcome Value
on_atoms f v second = and_then (as_atom v) (λ a. and_then second (λ w. and_then (as_atom w) (λ b. if same_kind a b then Ok (truth (f a b)) else Err Kind)))

-- the second operand is looked at only where the first doesn't decide
abbrev pub on_truths : Bool → Value → Outcome Value → Outcome Value
on_truths decides v second = and_then (as_truth v) (λ b.
    if (if decides then b else not b) then Ok (truth b) else and_then second (λ w. and_then (as_truth w) (λ c. Ok (truth c))))

-- an operator whose first operand has the value v
abbrev pub binary : BinOp → Value → Outcome Value → Outcome Value
binary op.Or v second = on_truths true v second
binary op.And v second = on_truths false v second
binary op.Eq v second = on_atoms same v second
binary op.Ne v second = on_atoms (λ a b. not (same a b)) v second
binary op.Lt v second = on_numbers (λ m n. Ok (truth (int_lt m n))) v second
binary op.Le v second = on_numbers (λ m n. Ok (truth (int_le m n))) v second
binary op.Gt v second = on_numbers (λ m n. Ok (truth (int_lt n m))) v second
binary op.Ge v second = on_numbers (λ m n. Ok (truth (int_le n m))) v second
binary op.Add v second = on_numbers (λ m n. in_range (m +ℤ n)) v second
binary op.Sub v second = on_numbers (λ m n. in_range (m -ℤ n)) v second
binary op.Mul v second = on_numbers (λ m n. in_range (m *ℤ n)) v second
binary op.Div v second = on_numbers (divided quotient) v second
binary op.Rem v second = on_numbers (divided remainder) v second

abbrev pub set_binary : SetOp → List Atom → List Atom → Outcome (List Atom)
set_binary set_op.Union xs ys = if alike xs ys then limited (union_of xs ys) else Err Kind
set_binary set_op.Inter xs ys = limited (inter_of xs ys)
set_binary set_op.Diff xs ys = limited (diff_of xs ys)

-- all numbers from m to n, none if m is above n
abbrev pub range : ℤ → ℤ → Outcome (List Atom)
range m n = limited (numbers_from m (natural (n -ℤ m +ℤ pos 1)))

-- an expression with its environment still to come
abbrev pub Meaning : Type 0
Meaning = Env → Outcome Value

-- a generator, with the meaning of its expression
pub data Turn : Type 0 where
  from : ℕ → Meaning → Turn
  when : Meaning → Turn

-- the front of an event, with the meanings of its fields
pub record Front : Type 0 where
  pub channel : ℕ
  pub fields : List Meaning

-- the values of a list of expressions, from the left
abbrev pub values_of : List Meaning → Env → Outcome (List Value)
values_of [] env = Ok []
values_of (e ∷ es) env = and_then (e env) (λ v. and_then (values_of es env) (λ vs. Ok (v ∷ vs)))

-- the values of items, which are to be atoms
abbrev pub items_in : List Meaning → Env → List (Outcome Atom)
items_in items env = map (λ e. and_then (e env) as_atom) items

-- a value that is one of a field's values
abbrev pub in_field : List Atom → Value → Outcome Atom
in_field set (One a) = if has_atom set a then Ok a else Err OutsideChannel
in_field set (Many atoms) = Err OutsideChannel

-- the values of the first fields of an event, from the left
abbrev pub row_of : List Meaning → List (List Atom) → Env → Outcome (List Atom)
row_of [] sets env = Ok []
row_of (e ∷ es) [] env = Err OutsideChannel
row_of (e ∷ es) (set ∷ sets) env = and_then (e env) (λ v. and_then (in_field set v) (λ a. and_then (row_of es sets env) (λ row. Ok (a ∷ row))))

abbrev pub sets_of : Option Channel → Option (List (List Atom))
sets_of None = None
sets_of (Some channel) = channel.fields

-- While a channel has no field sets, nothing of it has a value: of a production over it no generator is walked.
abbrev pub row_in : Option (List (List Atom)) → List Meaning → Env → Outcome (List Atom)
row_in None fields env = Err Kind
row_in (Some sets) fields env = row_of fields sets env

-- the events of a channel that begin with these fields
abbrev pub front_events : List Channel → ℕ → List Meaning → Env → Outcome (List ℕ)
front_events channels c fields env = and_then (row_in (sets_of (slice_get channels c)) fields env) (λ row. Ok (events_with channels c row))

-- the event that begins so, of a channel that has no more fields
abbrev pub one_event : List ℕ → Outcome ℕ
one_event [] = Err OutsideChannel
one_event (e ∷ es) = Ok e

-- the events of fronts
abbrev pub fronts_in : List Channel → List Front → Env → List (Outcome Atom)
fronts_in channels fronts env = joined (map (λ f. or_fault (front_events channels f.channel f.fields env) (map (λ e. Ok (atom.Event e)))) fronts)

-- All bindings of a list of generators, values rising: each set and condition is evaluated under the names before it. A fault stands in its place.
abbrev pub bindings_of : List Turn → Env → List (Outcome Env)
bindings_of [] env = Ok env ∷ []
bindings_of (from x s ∷ turns) env = or_fault (and_then (s env) as_set) (λ atoms. joined (map (λ a. bindings_of turns ((x, One a) ∷ env)) atoms))
bindings_of (when c ∷ turns) env = or_fault (and_then (c env) as_truth) (λ b. if b then bindings_of turns env else [])

-- each binding after the first n is a fault
unfoldable pub at_most : ℕ → List (Outcome Env) → List (Outcome Env)
at_most n bound = take n bound ++ map (λ b. and_then b (λ env. Err SetLimit)) (drop n bound)

-- what all bindings give, of at most 1,048,576
abbrev pub under_each : {A : Type 0} → List Turn → Env → (Env → List (Outcome A)) → List (Outcome A)
under_each turns env gives = joined (map (λ b. or_fault b gives) (at_most MOST_BINDINGS (bindings_of turns env)))

-- what uses of definitions are worth
abbrev pub Uses : Type 0
Uses = ℕ → List Value → Outcome Value

module _ (uses : Uses) (channels : List Channel) where
  abbrev pub meaning_of_layer : Expr-F Meaning Turn Front → Meaning
  meaning_of_layer (Expr-F.Num n) env = Ok (number n)
  meaning_of_layer (Expr-F.Truth b) env = Ok (truth b)
  meaning_of_layer (Expr-F.Const k) env = Ok (One (atom.Const k))
  meaning_of_layer (Expr-F.Bound x) env = bound_value env x
  meaning_of_layer (Expr-F.Lit v) env = Ok v
  meaning_of_layer (Expr-F.Neg a) env = and_then (a env) (λ v. and_then (as_number v) (λ n. in_range (neg_ℤ n)))
  meaning_of_layer (Expr-F.Not a) env = and_then (a env) (λ v. and_then (as_truth v) (λ b. Ok (truth (not b))))
  meaning_of_layer (Expr-F.Binary o a b) env = and_then (a env) (λ v. binary o v (b env))
  meaning_of_layer (Expr-F.If c a b) env = and_then (c env) (λ v. and_then (as_truth v) (λ t. if t then a env else b env))
  meaning_of_layer (Expr-F.Call d args) env = and_then (values_of args env) (λ vs. uses d vs)
  meaning_of_layer (Expr-F.SetName d) env = and_then (uses d []) (λ v. many (as_set v))
  meaning_of_layer (Expr-F.Event c fields) env =
      and_then (front_events channels c fields env) (λ es. and_then (one_event es) (λ e. Ok (One (atom.Event e))))
  meaning_of_layer (Expr-F.Display items) env = many (set_with [] (items_in items env))
  meaning_of_layer (Expr-F.Range a b) env =
      and_then (a env) (λ v. and_then (as_number v) (λ m. and_then (b env) (λ w. and_then (as_number w) (λ n. many (range m n)))))
  meaning_of_layer (Expr-F.Comp items turns) env = many (set_with [] (under_each turns env (items_in items)))
  meaning_of_layer (Expr-F.Product fronts turns) env =
      if list_any (λ f. is_none (sets_of (slice_get channels f.channel))) fronts then Err Kind else many (set_with [] (under_each turns env (fronts_in channels fronts)))
  meaning_of_layer (Expr-F.SetOp o a b) env =
      and_then (a env) (λ v. and_then (as_set v) (λ xs. and_then (b env) (λ w. and_then (as_set w) (λ ys. many (set_binary o xs ys)))))

  abbrev pub turn_of_layer : Gen-F Meaning Turn Front → Turn
  turn_of_layer (Gen-F.From x s) = from x s
  turn_of_layer (Gen-F.Cond c) = when c

  abbrev pub front_of_layer : EventPart-F Meaning Turn Front → Front
  front_of_layer part = record { channel = part.channel; fields = part.fields }

  -- what an expression means, over what uses of definitions are worth
  abbrev pub meaning : Expr → Meaning
  meaning = fold-Expr Meaning Turn Front meaning_of_layer turn_of_layer front_of_layer

  abbrev pub turn : Gen → Turn
  turn = fold-Gen Meaning Turn Front meaning_of_layer turn_of_layer front_of_layer

  abbrev pub front : EventPart → Front
  front = fold-EventPart Meaning Turn Front meaning_of_layer turn_of_layer front_of_layer

-- the worth of a body with the values of its arguments
abbrev pub body_value : (Expr → Meaning) → List ℕ → Body → List Value → Outcome Value
body_value value params (body.Datum e) args = value e (bound_to params args)
body_value value params (body.Nametype e) args = value e []
body_value value params (body.Datatype ks) args = many (set_with [] (map (λ k. Ok (atom.Const k)) ks))
body_value _ _ _ _ = Err Kind

abbrev pub def_value : (Expr → Meaning) → Option Def → List Value → Outcome Value
def_value value None args = Err Kind
def_value value (Some def) args = body_value value def.params def.body args

-- what uses are worth where n uses may still be entered, one inside another
abbrev pub uses_within : Content → ℕ → Uses
uses_within p zero d args = Err Kind
uses_within p (suc n) d args = def_value (meaning (uses_within p n) p.channels) (slice_get p.defs d) args

-- the value of an expression where n uses may still be entered
abbrev pub value_within : Content → ℕ → Expr → Env → Outcome Value
value_within p n e env = meaning (uses_within p n) p.channels e env

-- The value of a closed expression. Since no definition of data reaches itself, no more uses are entered one inside another than there are
-- definitions.
abbrev pub value_of : Content → Expr → Outcome Value
value_of p e = value_within p (length p.defs) e []

-- what expressions mean where n uses may still be entered
abbrev pub meanings : Content → ℕ → List Expr → List Meaning
meanings p n es = map (meaning (uses_within p n) p.channels) es
