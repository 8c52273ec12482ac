use Rattle.term_pool.proofs.Prelude.{◌≡◌, ◌+◌, ◌≤◌, max, true, length, drop, take, capped, deepest_at, total_at, IsLeastAt, all_below}
use Rattle.term_pool.proofs.node_measures.at_places.Given as goal

-- what is measured so far, together with the rest, is all
abbrev pub invariant-loop-id : goal.invariant-loop-id
invariant-loop-id l = record {
  small : l.all.size ≤ 4294967295;
  below : all_below (length l.measures) (drop l.id-index l.ids) ≡ true;
  depth : max l.all.depth (deepest_at l.measures (drop l.id-index l.ids)) ≡ deepest_at l.measures l.ids;
  least : IsLeastAt l.measures l.all.least (take l.id-index l.ids);
  size : capped (l.all.size + total_at l.measures (drop l.id-index l.ids)) ≡ capped (total_at l.measures l.ids);
}
