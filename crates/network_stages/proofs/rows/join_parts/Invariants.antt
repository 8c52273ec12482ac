use Rattle.network_stages.specs.Rows.{AreOwners, AreRows}
use Rattle.network_stages.proofs.rows.join_parts.Given as goal

abbrev pub invariant-loop-place : goal.invariant-loop-place
invariant-loop-place l = AreRows l.parts l.place l.rows.items × AreOwners l.parts l.place l.owners.items
