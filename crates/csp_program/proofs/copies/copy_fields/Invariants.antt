use Rattle.std.proofs.Common.{◌≡◌, take}
use Rattle.csp_program.proofs.copies.copy_fields.Given as goal

-- those so far are copied
abbrev pub invariant-loop-field : goal.invariant-loop-field
invariant-loop-field l = l.copies ≡ take l.field-index l.fields
