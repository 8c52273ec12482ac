-- The derived equality tests of atoms, of sets of atoms and of values are exact.
use Rattle.std.specs.Prelude.{◌≡◌, true, false, List}
use Rattle.std.proofs.Common.{ap, refl}
use Rattle.csp_base.proofs.Standard.{false≢true, eqb-true, Decides-int_eq}
use Rattle.containers.specs.Exact.{IsExact-pointwise}
use Rattle.csp_atoms.specs.contracts.atom.AtomPartialEq.TheImpl as atoms
use Rattle.csp_atoms.specs.contracts.atom_set.AtomSetPartialEq.TheImpl as sets
use Rattle.csp_atoms.specs.contracts.value.ValuePartialEq.TheImpl as values
use Rattle.csp_atoms.specs.declared.atom.Atom.{Atom}
use Rattle.csp_atoms.specs.declared.atom.Atom.TheVariants as atom
use Rattle.csp_atoms.specs.declared.value.Value.{Value}
use Rattle.csp_atoms.specs.declared.value.Value.TheVariants as value

pub exact_atom : (x y : Atom) → (atoms.ghosts).eq x y ≡ true → x ≡ y
exact_atom (atom.Num m) (atom.Num n) h = ap atom.Num ((Decides-int_eq m n).0 h)
exact_atom (atom.Truth true) (atom.Truth true) h = refl
exact_atom (atom.Truth true) (atom.Truth false) h = absurd (false≢true h)
exact_atom (atom.Truth false) (atom.Truth true) h = absurd (false≢true h)
exact_atom (atom.Truth false) (atom.Truth false) h = refl
exact_atom (atom.Const k) (atom.Const l) h = ap atom.Const (eqb-true k l h)
exact_atom (atom.Event d) (atom.Event e) h = ap atom.Event (eqb-true d e h)
exact_atom x y h = absurd (false≢true h)

pub exact_set : (xs ys : List Atom) → (sets.ghosts).eq xs ys ≡ true → xs ≡ ys
exact_set = IsExact-pointwise (atoms.ghosts).eq exact_atom

pub exact_value : (x y : Value) → (values.ghosts).eq x y ≡ true → x ≡ y
exact_value (value.One x) (value.One y) h = ap value.One (exact_atom x y h)
exact_value (value.Many xs) (value.Many ys) h = ap value.Many (exact_set xs ys h)
exact_value x y h = absurd (false≢true h)
