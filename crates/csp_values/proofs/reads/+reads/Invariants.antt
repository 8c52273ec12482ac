use Rattle.csp_values.proofs.Prelude.{AllWithin, Stays}
use Rattle.csp_values.proofs.reads.+reads.Given as goal

-- the expressions that were passed stay
abbrev pub invariant-any_reads-loop-expr : goal.invariant-any_reads-loop-expr
invariant-any_reads-loop-expr l = AllWithin (Stays l.gens) l.exprs 0 l.expr-index
