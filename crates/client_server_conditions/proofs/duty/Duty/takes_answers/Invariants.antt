use Rattle.client_server_conditions.proofs.Prelude.{◌≡◌, ℕ, false, true, has, TakesAnswers}
use Rattle.client_server_conditions.proofs.duty.Duty.takes_answers.Given as goal

abbrev pub invariant-loop-link : goal.invariant-loop-link
invariant-loop-link l = (k : ℕ) → has l.link-iterator k ≡ false → has l.opened k ≡ true → TakesAnswers l.self l.node k
