use Rattle.substitution.proofs.Prelude.{◌≡◌, drop, after_all, given_by}
use Rattle.substitution.proofs.fields.pass_fields.Given as goal

-- what the rest leaves of the values is what all leave
abbrev pub invariant-loop-field : goal.invariant-loop-field
invariant-loop-field l = after_all (drop l.field-index l.fields) (given_by l.values) ≡ after_all l.fields (given_by l.fn.values)
