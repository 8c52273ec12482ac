use Rattle.shape_links.proofs.Prelude.{◌≡◌, length, table_of}
use Rattle.shape_links.proofs.component.Component.odd_by_origins.Given as goal

abbrev pub invariant-loop-place : goal.invariant-loop-place
invariant-loop-place l = length l.odd.items ≡ length (table_of l.self)
