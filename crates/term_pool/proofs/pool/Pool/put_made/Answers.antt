-- What is put into the entries, as the list of processes says it.
use Rattle.term_pool.proofs.Prelude.{◌<◌, List, length, sym, subst, given_by, proc_with, Proc, parts, StandAt, tree_at, trees_in, Puts}
use Rattle.term_pool.proofs.pool.Pool.put_made.Goals as goal

pub put_made_in-requires-clause-within : goal.put_made_in-requires-clause-within
put_made_in-requires-clause-within c = subst (λ (ts : List Proc). c.args.id.0 < length ts) (sym c.self.view_is) c.requires.within

pub put_made_in-requires-clause-made : goal.put_made_in-requires-clause-made
put_made_in-requires-clause-made c = subst (λ (ts : List Proc). StandAt ts c.args.ids.now (parts (proc_with (given_by c.args.values.now) (tree_at ts c.args.id)))) (sym c.self.view_is) c.requires.made

pub returns : goal.returns
returns c = subst (λ (ts : List Proc). Puts ts (trees_in c.put_made_in.new.nodes) c.put_made_in.result (proc_with (given_by c.args.values.now) (tree_at ts c.args.id))) c.self.view_is c.put_made_in.ensures.puts
