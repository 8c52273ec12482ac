use Rattle.determinise.proofs.Prelude.{◌+◌, subst, IfErr, IfOk, OnOk, RawTable, RawStep, HasAcceptances, FollowsTraces, ReachesSets, Tells, MOST_SETS}
use Rattle.determinise.proofs.explore.determinise.Goals as goal

pub returns-clause-traces : goal.returns-clause-traces
returns-clause-traces c = subst (λ (r : RawTable). IfOk c.set_table.result (λ made. FollowsTraces (RawStep r) 0 made)) c.in_ok-prepared.ensures c.set_table.ensures.traces

pub returns-clause-acceptances : goal.returns-clause-acceptances
returns-clause-acceptances c = subst (λ (r : RawTable). IfOk c.set_table.result (λ made. HasAcceptances (RawStep r) 0 made.nodes)) c.in_ok-prepared.ensures c.set_table.ensures.acceptances

pub returns-clause-within_limit : goal.returns-clause-within_limit
returns-clause-within_limit c = subst (λ (r : RawTable). OnOk c.set_table.result (ReachesSets (RawStep r) 0 (MOST_SETS + 1) → ⊥)) c.in_ok-prepared.ensures c.set_table.ensures.within_limit

pub returns-clause-limit : goal.returns-clause-limit
returns-clause-limit c = subst (λ (r : RawTable). IfErr c.set_table.result (Tells (λ _. ReachesSets (RawStep r) 0 (MOST_SETS + 1)))) c.in_ok-prepared.ensures c.set_table.ensures.limit
