-- The test for a set says what is true of each set.
use Rattle.csp_atoms.proofs.Prelude.{◌&&◌, IsTrue, List, [], ◌∷◌, refl, sym, eq-eqb, eqb-true, kind_of, less, same_kind, AllAbove, AllOfKind, IsAtomSet, is_set, leads, Atom, is_and, is_first, is_second}
use Rattle.csp_atoms.proofs.ListLaws.{one_kind}

leads_all : (a : Atom) (xs : List Atom) → AllAbove a xs → AllOfKind (kind_of a) xs → IsTrue (leads a xs)
leads_all a [] above kind = refl
leads_all a (b ∷ bs) above kind =
    is_and (less a b) (same_kind a b && leads a bs) above.0
    (is_and (same_kind a b) (leads a bs) (eq-eqb (kind_of a) (kind_of b) (sym kind.0)) (leads_all a bs above.1 kind.1))

pub is_set-when : (xs : List Atom) → IsAtomSet xs → IsTrue (is_set xs)
is_set-when [] s = refl
is_set-when (a ∷ rest) s =
    is_and (leads a rest) (is_set rest) (leads_all a rest s.0.0 s.1) (is_set-when rest (s.0.1, one_kind (kind_of a) rest s.1))

above_led : (a : Atom) (xs : List Atom) → IsTrue (leads a xs) → AllAbove a xs
above_led a [] t = tt
above_led a (b ∷ bs) t = (
  is_first (less a b) (same_kind a b && leads a bs) t,
  above_led a bs (is_second (same_kind a b) (leads a bs) (is_second (less a b) (same_kind a b && leads a bs) t)),
)

kind_led : (a : Atom) (xs : List Atom) → IsTrue (leads a xs) → AllOfKind (kind_of a) xs
kind_led a [] t = tt
kind_led a (b ∷ bs) t =
    let rest = is_second (less a b) (same_kind a b && leads a bs) t in
    (sym (eqb-true (kind_of a) (kind_of b) (is_first (same_kind a b) (leads a bs) rest)), kind_led a bs (is_second (same_kind a b) (leads a bs) rest))

pub IsAtomSet-from : (xs : List Atom) → IsTrue (is_set xs) → IsAtomSet xs
IsAtomSet-from [] t = (tt, tt)
IsAtomSet-from (a ∷ rest) t =
    let led = is_first (leads a rest) (is_set rest) t in
    ((above_led a rest led, (IsAtomSet-from rest (is_second (leads a rest) (is_set rest) t)).0), kind_led a rest led)
