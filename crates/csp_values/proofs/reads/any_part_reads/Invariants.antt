use Rattle.csp_values.proofs.Prelude.{AllWithin, PartStays}
use Rattle.csp_values.proofs.reads.any_part_reads.Given as goal

-- the fields of the events that were passed stay
abbrev pub invariant-loop-part : goal.invariant-loop-part
invariant-loop-part l = AllWithin (PartStays l.gens) l.parts 0 l.part-index
