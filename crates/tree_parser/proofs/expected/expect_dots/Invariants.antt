use Rattle.tree_parser.proofs.Prelude.{◌≡◌, length, into_iter_items, into_iter_len, dot_fields, dots_with}
use Rattle.tree_parser.proofs.expected.expect_dots.Given as goal

-- the fields that are left are still to be looked at
abbrev pub invariant-loop-field : goal.invariant-loop-field
invariant-loop-field l = (dot_fields l.fn.fields ≡ dots_with l.trees (into_iter_items l.field-iterator)) × (into_iter_len l.field-iterator ≡ length (into_iter_items l.field-iterator))
