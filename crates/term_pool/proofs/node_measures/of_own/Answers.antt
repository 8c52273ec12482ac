-- A head counts nothing.
use Rattle.std.proofs.Common.{[], arith}
use Rattle.csp_program.specs.declared.processes.Head.TheVariants as head
use Rattle.term_pool.proofs.node_measures.of_own.Goals as goal

pub returns-in-Prefix-clause-depth : goal.returns-in-Prefix-clause-depth
returns-in-Prefix-clause-depth c = rw c.in-Prefix.is (omega (arith, c.join.ensures.depth, c.measure.ensures.depth (head.Channel 0), c.measure-in-Prefix.ensures.depth []))

pub returns-in-Prefix-clause-size : goal.returns-in-Prefix-clause-size
returns-in-Prefix-clause-size c = rw c.in-Prefix.is (omega (arith, c.join.ensures.size, c.measure.ensures.size (head.Channel 0), c.measure-in-Prefix.ensures.size []))
