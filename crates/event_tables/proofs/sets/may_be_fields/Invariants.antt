use Rattle.event_tables.proofs.Prelude.{◌≡◌, map, drop, all_true, may_be_field}
use Rattle.event_tables.proofs.sets.may_be_fields.Given as goal

abbrev pub invariant-loop-atom : goal.invariant-loop-atom
invariant-loop-atom l = all_true (map may_be_field l.atoms) ≡ all_true (map may_be_field (drop l.atom-index l.atoms))
