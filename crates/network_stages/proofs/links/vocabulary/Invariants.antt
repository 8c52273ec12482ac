use Rattle.network_stages.proofs.Prelude.{◌≡◌, ℕ, take, has, any_has_event}
use Rattle.network_stages.proofs.links.vocabulary.Given as goal

abbrev pub invariant-loop-row : goal.invariant-loop-row
invariant-loop-row l = (e : ℕ) → has l.events e ≡ any_has_event (take l.row-index l.rows) e
