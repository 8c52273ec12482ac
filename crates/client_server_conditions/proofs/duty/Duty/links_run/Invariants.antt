use Rattle.client_server_conditions.proofs.Prelude.{ℕ, ◌<◌, List, get_or, RunsTo, KeepsOn, ends_of}
use Rattle.client_server_conditions.proofs.duty.Duty.links_run.Given as goal

abbrev pub invariant-loop-link : goal.invariant-loop-link
invariant-loop-link l = (k : ℕ) (s : List ℕ) → k < l.link-index → RunsTo l.self.network.now.shape l.self.part s → KeepsOn l.self.network.now l.self.condition l.self.part (get_or (ends_of l.self.network.now.shape l.self.part) k 0) s
