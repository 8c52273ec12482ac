use Rattle.std.proofs.Common.{rules}
use Rattle.substitution.proofs.fields.replace_input.Goals as goal

pub returns-in-Some : goal.returns-in-Some
returns-in-Some c = rw c.in-Some.is (search rules)
