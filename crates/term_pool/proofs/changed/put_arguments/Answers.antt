use Rattle.std.proofs.Common.{[]}
use Rattle.term_pool.proofs.changed.put_arguments.Goals as goal

pub returns-clause-made : goal.returns-clause-made
returns-clause-made c = c.put_values.ensures.made []
