-- The values of the fields of channels: those of their types, which are sets of numbers and constants.
use Rattle.std.specs.Prelude.{if◌then◌else◌, ◌∷◌}
use Rattle.script_names.specs.Sources.{Bool, true, false, Ok, Err, List, [], map, Atom, all_true, Outcome, and_then, as_set, value_of, Expr, Content}
use Rattle.csp_atoms.specs.declared.value.Value.{Value}
use Rattle.csp_program.specs.declared.kinds.ValueKind.TheVariants.{Kind}

-- numbers and constants may be values of a field
abbrev pub may_be_field : Atom → Bool
may_be_field (Atom.Num n) = true
may_be_field (Atom.Const k) = true
may_be_field _ = false

-- a set of numbers or of constants is needed
abbrev pub field_set : Value → Outcome (List Atom)
field_set v = and_then (as_set v) (λ atoms. if all_true (map may_be_field atoms) then Ok atoms else Err Kind)

-- the field sets of a channel of these types, from the left
abbrev pub field_sets : Content → List Expr → Outcome (List (List Atom))
field_sets p [] = Ok []
field_sets p (t ∷ types) =
    and_then (value_of p t) (λ v. and_then (field_set v) (λ set. and_then (field_sets p types) (λ sets. Ok (set ∷ sets))))
