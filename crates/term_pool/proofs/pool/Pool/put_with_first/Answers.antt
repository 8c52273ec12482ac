-- What is put into the entries, as the list of processes says it.
use Rattle.term_pool.proofs.Prelude.{◌<◌, List, length, sym, subst, with_first, tree_at, trees_in, Puts, Proc}
use Rattle.term_pool.proofs.pool.Pool.put_with_first.Goals as goal

pub put_first_in-requires-clause-id : goal.put_first_in-requires-clause-id
put_first_in-requires-clause-id c = subst (λ (ts : List Proc). c.args.id.0 < length ts) (sym c.self.view_is) c.requires.id

pub put_first_in-requires-clause-below : goal.put_first_in-requires-clause-below
put_first_in-requires-clause-below c = subst (λ (ts : List Proc). c.args.below.0 < length ts) (sym c.self.view_is) c.requires.below

pub returns : goal.returns
returns c = subst (λ (ts : List Proc). Puts ts (trees_in c.put_first_in.new.nodes) c.put_first_in.result (with_first (tree_at ts c.args.id) (tree_at ts c.args.below))) c.self.view_is c.put_first_in.ensures.puts
