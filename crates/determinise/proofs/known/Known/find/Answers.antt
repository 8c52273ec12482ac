use Rattle.determinise.proofs.KnownSets.{known_closure}
use Rattle.determinise.proofs.known.Known.find.Goals as goal

pub returns-in-Some-clause-set : goal.returns-in-Some-clause-set
returns-in-Some-clause-set c raw sets k = known_closure raw c.args.self.now.starts c.args.self.now.numbers.items sets c.in-Some.place c.index.result.now c.index.result.now c.args.starts.now k c.in-Some.ensures.found c.index.ensures
