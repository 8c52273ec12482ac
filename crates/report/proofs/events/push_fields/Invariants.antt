use Rattle.report.proofs.Prelude.{◌≡◌, ◌++◌, take, flat_map, field_text}
use Rattle.report.proofs.events.push_fields.Given as goal

abbrev pub invariant-loop-field : goal.invariant-loop-field
invariant-loop-field l = l.text ≡ l.fn.text ++ flat_map (field_text l.content) (take l.field-index l.fields)
