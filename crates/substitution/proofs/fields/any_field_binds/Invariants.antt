use Rattle.substitution.proofs.Prelude.{◌≡◌, drop, after_all, given_by}
use Rattle.substitution.proofs.fields.any_field_binds.Given as goal

-- those so far bind none
abbrev pub invariant-loop-field : goal.invariant-loop-field
invariant-loop-field l = after_all (drop l.field-index l.fields) (given_by l.values) ≡ after_all l.fields (given_by l.values)
