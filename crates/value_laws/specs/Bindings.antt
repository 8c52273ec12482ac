-- What a comprehension and a production hold, in the words of bindings: a choice of a value for the name of each generator.
use Rattle.std.specs.Prelude.{◌≡◌, ◌⊎◌, ◌↔◌, ℕ, ◌≤◌, true, IsTrue, Ok, List, [], ◌∷◌, ◌++◌, map, length}
use Rattle.dl_limits.specs.declared.TheConstants.{MOST_ELEMENTS}
use Rattle.csp_atoms.specs.Prelude.{IsAtomSet, has_atom}
use Rattle.csp_atoms.specs.declared.atom.Atom.{Atom}
use Rattle.csp_atoms.specs.declared.value.Value.{Value}
use Rattle.csp_atoms.specs.declared.value.Value.TheVariants.{One, Many}
use Rattle.csp_program.specs.Prelude.{IsInOrder, Env, Front, Meaning, Turn, front, truth, turn, uses_within, value_within, meanings}
use Rattle.csp_program.specs.declared.expressions.EventPart.{EventPart}
use Rattle.csp_program.specs.declared.expressions.Expr.{Expr}
use Rattle.csp_program.specs.declared.expressions.Gen.{Gen}
use Rattle.csp_program.specs.declared.programs.Channel.{Channel}
use Rattle.csp_program.specs.declared.programs.Content.{Content}
use Rattle.value_laws.specs.EventNumbers.{HaveValues, StandsAt}
use Rattle.csp_atoms.specs.declared.atom.Atom.TheVariants as atom
use Rattle.csp_program.specs.declared.expressions.Expr.TheVariants as expr

-- what generators and parts of events mean where n uses may still be entered
abbrev pub turns_within : Content → ℕ → List Gen → List Turn
turns_within p n gens = map (turn (uses_within p n) p.channels) gens

abbrev pub fronts_within : Content → ℕ → List EventPart → List Front
fronts_within p n parts = map (front (uses_within p n) p.channels) parts

-- The second environment is a binding of the generators over the first: each name has a value from its set, which is evaluated under the names
-- before it, and each condition is true under the names before it.
abbrev pub IsBinding : List Turn → Env → Env → Type 0
IsBinding [] env bound = env ≡ bound
IsBinding (Turn.from x s ∷ turns) env bound =
    (set : List Atom) × (a : Atom) × (s env ≡ Ok (Many set)) × IsTrue (has_atom set a) × IsBinding turns ((x, One a) ∷ env) bound
IsBinding (Turn.when c ∷ turns) env bound = (c env ≡ Ok (truth true)) × IsBinding turns env bound

-- the atom is the value of one of the items
abbrev pub IsItem : List Meaning → Env → Atom → Type 0
IsItem [] env a = ⊥
IsItem (item ∷ items) env a = (item env ≡ Ok (One a)) ⊎ IsItem items env a

-- the event at that place of the event table is of the front's channel and begins with the values of the front's fields
abbrev pub BeginsWith : List Channel → Front → Env → ℕ → Type 0
BeginsWith channels f env place = (row : List Atom) × (rest : List Atom) × HaveValues f.fields env row × StandsAt channels place f.channel (row ++ rest)

abbrev pub BeginsWithOne : List Channel → List Front → Env → ℕ → Type 0
BeginsWithOne channels [] env place = ⊥
BeginsWithOne channels (f ∷ fronts) env place = BeginsWith channels f env place ⊎ BeginsWithOne channels fronts env place

-- a set of at most 16,384 atoms of one kind
abbrev pub IsSetValue : List Atom → Type 0
IsSetValue set = IsAtomSet set × (length set ≤ MOST_ELEMENTS)

-- where a comprehension has a value, it is the set of the atoms that an item has as its value under some binding
abbrev pub ComprehensionsHoldTheirItems : Type 0
ComprehensionsHoldTheirItems =
    (p : Content) (n : ℕ) (items : List Expr) (gens : List Gen) (env : Env) (v : Value) → value_within p n (expr.Comp items gens) env ≡ Ok v →
    (set : List Atom) × (v ≡ Many set) × IsSetValue set × ((a : Atom) → IsTrue (has_atom set a) ↔
    ((bound : Env) × IsBinding (turns_within p n gens) env bound × IsItem (meanings p n items) bound a))

-- where a production has a value, it is the set of the events that begin with one of its parts under some binding
abbrev pub ProductionsHoldWhatBegins : Type 0
ProductionsHoldWhatBegins =
    (p : Content) → IsInOrder p → (n : ℕ) (parts : List EventPart) (gens : List Gen) (env : Env) (v : Value) → value_within p n (expr.Product parts gens) env ≡ Ok v →
    (set : List Atom) × (v ≡ Many set) × IsSetValue set × ((a : Atom) → IsTrue (has_atom set a) ↔
    ((bound : Env) × (place : ℕ) × IsBinding (turns_within p n gens) env bound × (a ≡ atom.Event place) × BeginsWithOne p.channels (fronts_within p n parts) bound place))
