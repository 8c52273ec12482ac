use Rattle.observed_runs.proofs.Prelude.{ℕ, List, sym, subst, HasPair}
use Rattle.observed_runs.proofs.Growing.{listed_last}
use Rattle.observed_runs.proofs.pairs.Pairs.insert.Goals as goal

pub returns-clause-listed : goal.returns-clause-listed
returns-clause-listed c = subst (λ (ps : List (ℕ × ℕ)). HasPair ps c.args.pair) (sym c.in_ok-insert_new.ensures.ok) (listed_last c.args.self.now c.args.pair)
