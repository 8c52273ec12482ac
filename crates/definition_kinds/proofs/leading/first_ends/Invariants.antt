use Rattle.definition_kinds.proofs.Prelude.{◌≡◌, take, rows}
use Rattle.script_names.specs.Kinds as meant
use Rattle.definition_kinds.proofs.leading.first_ends.Given as goal

abbrev pub invariant-loop-ends : goal.invariant-loop-ends
invariant-loop-ends l = rows l.firsts.items ≡ meant.first_ends (rows (take l.ends-index l.all))
