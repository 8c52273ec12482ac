use Rattle.observed_runs.proofs.Prelude.{◌≡◌, ℕ, List, Option, None, sym, subst, IfOk, IsSomeAnd, MatchOption, LeadsTo, pair_at}
use Rattle.observed_runs.proofs.Runs.{if_some}
use Rattle.observed_runs.proofs.explored.Explored.run_if_any.Goals as goal

pub returns-in-Some : goal.returns-in-Some
returns-in-Some c table step start found =
    let pairs = c.args.self.now.pairs in
    subst (λ (p : Option ℕ). IfOk c.map.result (λ (run : Option (List ℕ)). MatchOption p (run ≡ None) (λ k. IsSomeAnd run (λ s. LeadsTo table step start s (pair_at pairs k))))) (sym c.in-Some.is)
    (if_some c.run_to.result c.map.result (λ s. LeadsTo table step start s (pair_at pairs c.in-Some.place)) c.map.ensures.cases (c.run_to.ensures table step start found))
