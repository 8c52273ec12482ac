-- Two rising lists of atoms merged step by step: each step takes the least atom that is left from both.
use Rattle.std.specs.Prelude.{Bool, false, if◌then◌else◌, Option, Some, None, List, [], ◌∷◌, ◌++◌}
use Rattle.csp_atoms.specs.Order.{less, same}
use Rattle.csp_atoms.specs.Sets.{union_of, inter_of, diff_of}
use Rattle.csp_atoms.specs.declared.atom.Atom.{Atom}
use Rattle.csp_base.specs.declared.operators.SetOp.{SetOp}
use Rattle.csp_base.specs.declared.operators.SetOp.TheVariants.{Union, Inter, Diff}

-- the result of an operation
abbrev pub result_of : SetOp → List Atom → List Atom → List Atom
result_of Union xs ys = union_of xs ys
result_of Inter xs ys = inter_of xs ys
result_of Diff xs ys = diff_of xs ys

-- the least atom that is left
abbrev pub least_of : List Atom → List Atom → Option Atom
least_of [] [] = None
least_of [] (b ∷ bs) = Some b
least_of (a ∷ rest) [] = Some a
least_of (a ∷ rest) (b ∷ bs) = if less b a then Some b else Some a

-- whether the list begins with the atom
abbrev pub begins_with : List Atom → Atom → Bool
begins_with [] a = false
begins_with (b ∷ bs) a = same b a

-- the list without its first atom, where it begins with the given one
abbrev pub rest_after : List Atom → Atom → List Atom
rest_after [] a = []
rest_after (b ∷ bs) a = if same b a then bs else b ∷ bs

-- one more atom at the end, where the test says so
abbrev pub with_last : List Atom → Bool → Atom → List Atom
with_last xs kept a = if kept then xs ++ a ∷ [] else xs
