use Rattle.std.proofs.Common.{◌≡◌, ◌∷◌, ◌++◌, [], rules}
use Rattle.observed_runs.proofs.Growing.{origins_more}
use Rattle.observed_runs.proofs.explored.Explored.add.Goals as goal

pub invariant_of-self-2 : goal.invariant_of-self-2
invariant_of-self-2 c =
    let pairs : c.insert_new.new.self ≡ c.self.inside.pairs ++ c.args.pair ∷ [] = search rules in
    let origins : c.push.new.self.items ≡ c.self.inside.origins.items ++ c.args.origin ∷ [] = search rules in
    rw pairs (rw origins (origins_more (record { pairs = c.self.inside.pairs; origins = c.self.inside.origins.items }) c.args.pair c.args.origin c.self.invariant (search rules)))
