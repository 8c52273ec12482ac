use Rattle.name_tables.proofs.NameLemmas.{among_longer}
use Rattle.name_tables.proofs.name_set.put_in.Goals as goal

pub returns-clause-names : goal.returns-clause-names
returns-clause-names c = among_longer c.args.names.now.keys c.insert_full.new.self.keys c.args.name c.in_ok-is_new.ensures.keys
