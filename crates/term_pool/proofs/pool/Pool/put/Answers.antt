-- The list grows at its end alone, and stays as it is where it has the process.
use Rattle.term_pool.proofs.WithinLemmas.{adds_parts}
use Rattle.term_pool.proofs.pool.Pool.put.Goals as goal

pub returns-clause-front : goal.returns-clause-front
returns-clause-front c = c.put_tree.ensures.grows.front

pub returns-clause-known : goal.returns-clause-known
returns-clause-known c = λ has. c.put_tree.ensures.grows.known c.len.ensures.parts (has, tt)

pub returns-clause-only : goal.returns-clause-only
returns-clause-only c = adds_parts c.args.self.now c.put_tree.new.pool c.args.proc.now c.put_tree.ensures.grows.only
