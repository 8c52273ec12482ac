use Rattle.std.proofs.Common.{rules}
use Rattle.substitution.proofs.fields.replace_field.Goals as goal

pub returns-in-Put : goal.returns-in-Put
returns-in-Put c = rw c.in-Put.is (search rules)
