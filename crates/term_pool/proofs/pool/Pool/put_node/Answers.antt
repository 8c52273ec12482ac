-- What is put into the entries, as the list of processes says it.
use Rattle.term_pool.proofs.Prelude.{◌≡◌, true, List, length, sym, subst, OnErr, Has, places_below, tree_of, trees_in, Puts, Proc}
use Rattle.term_pool.proofs.pool.Pool.put_node.Goals as goal

pub put_in-requires-clause-below : goal.put_in-requires-clause-below
put_in-requires-clause-below c = subst (λ (ts : List Proc). places_below (length ts) c.args.node ≡ true) (sym c.self.view_is) c.requires

seen : (c : goal.After-put_in) → Puts c.args.self.now (trees_in c.put_in.new.nodes) c.put_in.result (tree_of c.args.self.now c.args.node)
seen c = subst (λ (ts : List Proc). Puts ts (trees_in c.put_in.new.nodes) c.put_in.result (tree_of ts c.args.node)) c.self.view_is c.put_in.ensures.puts

pub returns-clause-process : goal.returns-clause-process
returns-clause-process c = (seen c).process

pub returns-clause-front : goal.returns-clause-front
returns-clause-front c = (seen c).front

pub returns-clause-known : goal.returns-clause-known
returns-clause-known c = (seen c).known

pub returns-clause-only : goal.returns-clause-only
returns-clause-only c = (seen c).only

pub returns-clause-err : goal.returns-clause-err
returns-clause-err c = (seen c).err

pub returns-clause-err_only_new : goal.returns-clause-err_only_new
returns-clause-err_only_new c = subst (λ (ts : List Proc). OnErr c.put_in.result (Has ts (tree_of ts c.args.node) → ⊥)) c.self.view_is c.put_in.ensures.err_only_new
