use Rattle.pool_parts.proofs.Prelude.{◌≡◌, ℕ, ◌+◌, ◌≤◌, max, min, map, drop, field_depth, before, nowhere, field_size, capped, IsLow, greatest, total}
use Rattle.pool_parts.proofs.measured.of_fields.Given as goal

-- what is measured so far, together with the rest, is all
abbrev pub invariant-loop-field : goal.invariant-loop-field
invariant-loop-field l = record {
  small : l.all.size ≤ 4294967295;
  depth : max l.all.depth (capped (greatest (map field_depth (drop l.field-index l.fields)))) ≡ capped (greatest (map field_depth l.fields));
  size : capped (l.all.size + total (map field_size (drop l.field-index l.fields))) ≡ capped (total (map field_size l.fields));
  low : (n : ℕ) → IsLow n (before (drop l.field-index l.fields) nowhere) → IsLow (min l.all.least n) (before l.fields nowhere);
}
