use Rattle.std.proofs.Common.{◌≡◌, drop}
use Rattle.script_names.specs.Resolved as meant
use Rattle.event_tables.proofs.SetLaws.{sets_with}
use Rattle.event_tables.proofs.sets.field_sets.Given as goal

abbrev pub invariant-loop-expr : goal.invariant-loop-expr
invariant-loop-expr l = meant.field_sets l.content l.types ≡ sets_with l.sets (meant.field_sets l.content (drop l.expr-index l.types))
