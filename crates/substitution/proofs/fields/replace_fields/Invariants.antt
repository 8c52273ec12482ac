use Rattle.substitution.proofs.Prelude.{◌≡◌, ◌++◌, drop, after_all, fields_with, given_by}
use Rattle.substitution.proofs.fields.replace_fields.Given as goal

-- what is made so far, followed by what is made of the rest, is what is made of all; and what the rest leaves of the values is what all leave
abbrev pub invariant-loop-field : goal.invariant-loop-field
invariant-loop-field l = (l.made ++ fields_with (given_by l.values) (drop l.field-index l.fields) ≡ fields_with (given_by l.fn.values) l.fields) × (after_all (drop l.field-index l.fields) (given_by l.values) ≡ after_all l.fields (given_by l.fn.values))
