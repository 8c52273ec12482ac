-- The list grows at its end alone, by what stands in the process, and stays as it is where it has the process.
use Rattle.term_pool.proofs.Prelude.{given_by, proc_with, tree_at}
use Rattle.term_pool.proofs.ValuesLemmas.{none_made}
use Rattle.term_pool.proofs.WithinLemmas.{adds_parts}
use Rattle.term_pool.proofs.pool.Pool.put_all_in.Goals as goal

pub substitute_at-requires-clause-visited : goal.substitute_at-requires-clause-visited
substitute_at-requires-clause-visited c = none_made (given_by c.args.values.now) c.args.self.now c.new-visited.result c.new-visited.ensures.empty

pub returns-clause-front : goal.returns-clause-front
returns-clause-front c = c.substitute_at.ensures.grows.front

pub returns-clause-known : goal.returns-clause-known
returns-clause-known c = λ has. c.substitute_at.ensures.grows.known c.len.ensures.parts (has, tt)

pub returns-clause-only : goal.returns-clause-only
returns-clause-only c = adds_parts c.args.self.now c.substitute_at.new.pool (proc_with (given_by c.args.values.now) (tree_at c.args.self.now c.args.id)) c.substitute_at.ensures.grows.only
