-- How tightly trees are bound: the order of bindings, as the numbers by which the reader of the grammar says it.
use Rattle.std.specs.Prelude.{ℕ, Bool, nat_le, if◌then◌else◌, Option, List, [], ◌∷◌}
use Rattle.csp_text.specs.declared.token.Token.{Token}
use Rattle.csp_text.specs.declared.tree.Tree.{Tree}
use Rattle.tree_reading.specs.declared.read.Binding.{Binding}
use Rattle.tree_reading.specs.declared.read.Binding.TheVariants.{Dotted, Open, Closed, Disjunction, Conjunction, Complement, Comparison, Sum, Product, Negative, Renaming, Atom}

-- what is read from the front of a list, with how tightly it is bound and what is left of the list
abbrev pub Found : Type 0 → Type 0
Found A = Option (Binding × A × List Token)

abbrev pub number : Binding → ℕ
number Dotted = 0
number Open = 1
number Closed = 2
number Disjunction = 11
number Conjunction = 12
number Complement = 13
number Comparison = 14
number Sum = 15
number Product = 16
number Negative = 17
number Renaming = 18
number Atom = 19

-- whether the second is bound as tightly as the first, or tighter
abbrev pub at_least : Binding → Binding → Bool
at_least least k = nat_le (number least) (number k)

-- the next tighter one to that of an operator
abbrev pub tighter : Binding → Binding
tighter Dotted = Open
tighter Open = Closed
tighter Closed = Disjunction
tighter Disjunction = Conjunction
tighter Conjunction = Complement
tighter Complement = Comparison
tighter Comparison = Sum
tighter Sum = Product
tighter Product = Negative
tighter Negative = Renaming
tighter Renaming = Atom
tighter Atom = Atom

-- how tightly the left operand of an operator has to be bound: comparisons do not associate
abbrev pub left_operand : Binding → Binding
left_operand Comparison = Sum
left_operand k = k

-- how tightly a process is bound that ends with one bound like this
abbrev pub of_process : Binding → Binding
of_process k = if at_least Closed k then Closed else Open

-- the binding of a list of items that ends with one bound like this, behind these
abbrev pub last_item : List Tree → Binding → Binding
last_item [] k = k
last_item (a ∷ before) k = Dotted
