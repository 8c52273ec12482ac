use Rattle.std.proofs.Common.{Some}
use Rattle.name_tables.proofs.SpellingLemmas.{updates_at}
use Rattle.name_tables.proofs.numbers.write.Goals as goal

pub returns-clause-writes : goal.returns-clause-writes
returns-clause-writes c = updates_at c.args.spelling.items c.args.last.now c.insert.new.self (Some c.args.number) c.in_ok-before.ensures.updates
