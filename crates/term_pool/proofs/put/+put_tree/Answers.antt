-- A whole process is put: first its sub-processes, and then the node over them.
use Rattle.term_pool.proofs.Prelude.{◌≡◌, ◌+◌, List, [], ◌∷◌, Some, take, slice_get, sym, subst, IfOk, Proc, ProcId, Layer, shown, parts, StandAt, StandsFor, was_made}
use Rattle.term_pool.proofs.OverLemmas.{stands_over}
use Rattle.term_pool.proofs.PutLemmas as lemmas
use Rattle.term_pool.proofs.put.+put_tree.Goals as goal

pub put_two-returns-in_err-first-clause-grows : goal.put_two-returns-in_err-first-clause-grows
put_two-returns-in_err-first-clause-grows t c = lemmas.grows_less c.args.pool.now c.put_tree.new.pool (c.args.p.now ∷ []) (c.args.q.now ∷ []) c.in_err-first.ensures.grows

pub put_two-returns-in_err-second-clause-grows : goal.put_two-returns-in_err-second-clause-grows
put_two-returns-in_err-second-clause-grows t c = lemmas.grows_both c.args.pool.now c.put_tree.new.pool c.put_tree-2.new.pool (c.args.p.now ∷ []) (c.args.q.now ∷ []) c.in_ok-first.ensures.grows c.in_err-second.ensures.grows

pub put_two-returns-clause-grows : goal.put_two-returns-clause-grows
put_two-returns-clause-grows t c = lemmas.grows_both c.args.pool.now c.put_tree.new.pool c.put_tree-2.new.pool (c.args.p.now ∷ []) (c.args.q.now ∷ []) c.in_ok-first.ensures.grows c.in_ok-second.ensures.grows

pub put_tree-returns-in_err-ids-clause-grows : goal.put_tree-returns-in_err-ids-clause-grows
unfolding parts
put_tree-returns-in_err-ids-clause-grows t c = lemmas.grows_some c.args.pool.now c.put_below.new.pool c.args.proc.now c.in_err-ids.ensures.grows

pub put_tree-put_node-requires : goal.put_tree-put_node-requires
put_tree-put_node-requires t c = (subst (λ (n : Layer). StandsFor c.put_below.new.pool n c.args.proc.now) (sym c.node_over.ensures) (stands_over c.put_below.new.pool c.in_ok-ids.ids c.args.proc.now c.in_ok-ids.ensures.places)).below

pub put_tree-returns-clause-process : goal.put_tree-returns-clause-process
put_tree-returns-clause-process t c =
    subst (λ (q : Proc). IfOk c.put_node.result (λ (id : ProcId). slice_get c.put_node.new.self id.0 ≡ Some q))
    (subst (λ (n : Layer). StandsFor c.put_below.new.pool n c.args.proc.now) (sym c.node_over.ensures) (stands_over c.put_below.new.pool c.in_ok-ids.ids c.args.proc.now c.in_ok-ids.ensures.places)).tree c.put_node.ensures.process

pub put_tree-returns-clause-grows : goal.put_tree-returns-clause-grows
unfolding parts
put_tree-returns-clause-grows t c =
    lemmas.grows_node c.args.pool.now c.put_below.new.pool c.put_node.new.self c.args.proc.now (shown c.node_over.result) c.in_ok-ids.ensures.grows
    (subst (λ (n : Layer). StandsFor c.put_below.new.pool n c.args.proc.now) (sym c.node_over.ensures) (stands_over c.put_below.new.pool c.in_ok-ids.ids c.args.proc.now c.in_ok-ids.ensures.places)) c.put_node.ensures.front c.put_node.ensures.known c.put_node.ensures.only

pub put_trees-returns-in_err-push_made-clause-grows : goal.put_trees-returns-in_err-push_made-clause-grows
put_trees-returns-in_err-push_made-clause-grows t c =
    lemmas.grows_end c.args.pool.now c.put_tree.new.pool c.args.procs.now (c.loop-proc.proc-index + 1) (lemmas.grows_more c.args.pool.now c.loop-proc.pool c.put_tree.new.pool c.args.procs.now c.loop-proc.proc-index c.proc-item.result c.loop-proc-test.true c.proc-item.is c.loop-proc.invariant.grows c.put_tree.ensures.grows)

pub put_trees-loop-proc-preserved : goal.put_trees-loop-proc-preserved
put_trees-loop-proc-preserved t c =
    let id = was_made c.put_tree.result _ _ c.in_ok-push_made.ensures.ok c.put_tree.ensures.process in
    record {
      places = subst (λ (xs : List ProcId). StandAt c.put_tree.new.pool xs (take (c.loop-proc.proc-index + 1) c.args.procs.now)) (sym id.1)
          (lemmas.stand_more c.loop-proc.pool c.put_tree.new.pool c.put_tree.ensures.grows.front c.loop-proc.ids c.args.procs.now c.loop-proc.proc-index c.proc-item.result id.0
          c.loop-proc-test.true c.proc-item.is c.loop-proc.invariant.places id.2);
      grows = lemmas.grows_more c.args.pool.now c.loop-proc.pool c.put_tree.new.pool c.args.procs.now c.loop-proc.proc-index c.proc-item.result c.loop-proc-test.true c.proc-item.is c.loop-proc.invariant.grows c.put_tree.ensures.grows;
    }
