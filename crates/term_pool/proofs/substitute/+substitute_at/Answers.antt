-- What a process becomes: from its own parts, and from what its sub-processes became.
use Rattle.term_pool.proofs.Prelude.{◌≡◌, ℕ, ◌+◌, nat_eq, List, Some, take, slice_get, ap, sym, ◌∙◌, subst, arith, IfOk, slice_get-get_or, given_by, proc_with, Proc, parts, Grows, StandAt, all_with, tree_at, ProcId, was_made, lookup}
use Rattle.csp_program.specs.declared.processes.Proc.TheVariants as proc
use Rattle.term_pool.proofs.ValuesLemmas as made
use Rattle.term_pool.proofs.PutLemmas as lemmas
use Rattle.term_pool.proofs.substitute.+substitute_at.Goals as goal

pub put_all-substitute_at-requires : goal.put_all-substitute_at-requires
put_all-substitute_at-requires t c =
    let smaller = made.next_smaller (given_by c.args.values.now) c.args.pool.now c.args.id c.requires.within c.args.ids.now c.requires.places c.loop-p.p-index c.loop-p-test.true in
    (omega (arith, smaller), (made.next_in (given_by c.args.values.now) c.args.pool.now c.args.id c.requires.within c.args.ids.now c.requires.places c.loop-p.p-index c.loop-p-test.true c.loop-p.pool c.loop-p.invariant.grows.front, c.loop-p.invariant.visited))

pub put_all-returns-in_err-push_made-clause-grows : goal.put_all-returns-in_err-push_made-clause-grows
put_all-returns-in_err-push_made-clause-grows t c =
    made.next_ends (given_by c.args.values.now) c.args.pool.now c.args.id c.requires.within c.args.ids.now c.requires.places c.loop-p.p-index c.loop-p-test.true
    c.loop-p.pool c.substitute_at.new.pool c.loop-p.invariant.grows c.substitute_at.ensures.grows

pub put_all-loop-p-preserved : goal.put_all-loop-p-preserved
put_all-loop-p-preserved t c =
    let place = was_made c.substitute_at.result _ _ c.in_ok-push_made.ensures.ok c.substitute_at.ensures.process in
    record {
      places = subst (λ (xs : List ProcId). StandAt c.substitute_at.new.pool xs (all_with (given_by c.args.values.now) c.args.pool.now (take (c.loop-p.p-index + 1) c.args.ids.now))) (sym place.1)
          (made.next_stands (given_by c.args.values.now) c.args.pool.now c.args.id c.requires.within c.args.ids.now c.requires.places c.loop-p.p-index c.loop-p-test.true
          c.loop-p.pool c.substitute_at.new.pool c.loop-p.invariant.grows.front c.substitute_at.ensures.grows.front c.loop-p.made place.0 c.loop-p.invariant.places place.2);
      grows = made.next_grows (given_by c.args.values.now) c.args.pool.now c.args.id c.requires.within c.args.ids.now c.requires.places c.loop-p.p-index c.loop-p-test.true c.loop-p.pool c.substitute_at.new.pool c.loop-p.invariant.grows c.substitute_at.ensures.grows;
      visited = c.substitute_at.ensures.visited;
    }

pub substitute_at-returns-in-Some-clause-process : goal.substitute_at-returns-in-Some-clause-process
substitute_at-returns-in-Some-clause-process t c =
    made.made_after (given_by c.args.values.now) c.args.pool.now c.args.pool.now c.args.id.now c.in-Some.made c.requires.within (λ k q h. h)
    (c.requires.visited c.args.id.now.0 c.in-Some.made (sym c.find_visited.ensures ∙ c.in-Some.is))

pub substitute_at-returns-clause-visited : goal.substitute_at-returns-clause-visited
substitute_at-returns-clause-visited t c =
    made.more_made (given_by c.args.values.now) c.put_layer.new.pool c.put_layer.new.visited c.remember.new.visited c.args.id.now.0 c.in_ok-made.made c.in_ok-made.ensures.visited
    (made.made_by (given_by c.args.values.now) c.args.pool.now c.put_layer.new.pool c.args.id.now c.requires.within c.in_ok-made.ensures.grows.front c.in_ok-made.made c.in_ok-made.ensures.process)
    c.in_ok-remember.ensures.ok

pub put_layer-returns-in_err-ids-clause-grows : goal.put_layer-returns-in_err-ids-clause-grows
put_layer-returns-in_err-ids-clause-grows t c =
    lemmas.grows_some c.args.pool.now c.put_below.new.pool (proc_with (given_by c.args.values.now) (tree_at c.args.pool.now c.args.id)) c.in_err-ids.ensures.grows

pub put_layer-put_made-requires : goal.put_layer-put_made-requires
put_layer-put_made-requires t c =
    record {
      within = made.still_within (given_by c.args.values.now) c.args.pool.now c.put_below.new.pool c.args.id c.requires.within c.in_ok-ids.ensures.grows.front;
      made = subst (λ (q : Proc). StandAt c.put_below.new.pool c.in_ok-ids.ids (parts (proc_with (given_by c.args.values.now) q)))
          (sym (made.tree_stays (given_by c.args.values.now) c.args.pool.now c.put_below.new.pool c.args.id c.requires.within c.in_ok-ids.ensures.grows.front)) c.in_ok-ids.ensures.places;
    }

pub put_layer-returns-clause-grows : goal.put_layer-returns-clause-grows
put_layer-returns-clause-grows t c =
    made.layer_grows (given_by c.args.values.now) c.args.pool.now c.put_below.new.pool c.put_made.new.self c.args.id c.requires.within c.in_ok-ids.ensures.grows
    c.put_made.ensures.front c.put_made.ensures.known c.put_made.ensures.only

pub put_layer-returns-clause-process : goal.put_layer-returns-clause-process
put_layer-returns-clause-process t c =
    subst (λ (q : Proc). IfOk c.put_made.result (λ (id : ProcId). slice_get c.put_made.new.self id.0 ≡ Some (proc_with (given_by c.args.values.now) q)))
    (made.tree_stays (given_by c.args.values.now) c.args.pool.now c.put_below.new.pool c.args.id c.requires.within c.in_ok-ids.ensures.grows.front) c.put_made.ensures.process

pub put_layer-returns-clause-visited : goal.put_layer-returns-clause-visited
put_layer-returns-clause-visited t c =
    made.all_still_made (given_by c.args.values.now) c.put_below.new.pool c.put_made.new.self c.put_made.ensures.front c.put_below.new.visited c.in_ok-ids.ensures.visited

pub put_below-returns-in-None-clause-places : goal.put_below-returns-in-None-clause-places
put_below-returns-in-None-clause-places t c =
    subst (λ (ts : List Proc). IfOk c.put_all.result (λ (ids : List ProcId). StandAt c.put_all.new.pool ids ts))
    (made.under_none (given_by c.args.values.now) c.args.pool.now c.args.id c.node-node.result c.node-node.ensures.process c.as_slice.result.now c.in_ok-ids.ids c.as_slice.ensures c.in_ok-ids.ensures c.in_ok-left_at.field-0 c.in_ok-left_at.ensures c.in-None.is) c.put_all.ensures.places

pub put_below-returns-in-None-clause-grows : goal.put_below-returns-in-None-clause-grows
put_below-returns-in-None-clause-grows t c =
    subst (λ (ts : List Proc). Grows c.args.pool.now c.put_all.new.pool ts)
    (made.under_none (given_by c.args.values.now) c.args.pool.now c.args.id c.node-node.result c.node-node.ensures.process c.as_slice.result.now c.in_ok-ids.ids c.as_slice.ensures c.in_ok-ids.ensures c.in_ok-left_at.field-0 c.in_ok-left_at.ensures c.in-None.is) c.put_all.ensures.grows

pub put_below-returns-clause-visited : goal.put_below-returns-clause-visited
put_below-returns-clause-visited t c = made.all_still_made (given_by c.args.values.now) c.args.pool.now c.put_anew.new.pool c.put_anew.ensures.grows.front c.args.visited.now c.requires.visited

pub put_below-returns-clause-places : goal.put_below-returns-clause-places
put_below-returns-clause-places t c =
    subst (λ (ts : List Proc). IfOk c.put_anew.result (λ (ids : List ProcId). StandAt c.put_anew.new.pool ids ts))
    (made.under_some (given_by c.args.values.now) c.args.pool.now c.args.id c.node-node.result c.node-node.ensures.process c.as_slice-in-Some.result.now c.in_ok-ids.ids c.as_slice-in-Some.ensures c.in_ok-ids.ensures c.in_ok-left_at.field-0 c.in_ok-left_at.ensures c.in-Some.left c.in-Some.is) c.put_anew.ensures.places

pub put_below-returns-clause-grows : goal.put_below-returns-clause-grows
put_below-returns-clause-grows t c =
    subst (λ (ts : List Proc). Grows c.args.pool.now c.put_anew.new.pool ts)
    (made.under_some (given_by c.args.values.now) c.args.pool.now c.args.id c.node-node.result c.node-node.ensures.process c.as_slice-in-Some.result.now c.in_ok-ids.ids c.as_slice-in-Some.ensures c.in_ok-ids.ensures c.in_ok-left_at.field-0 c.in_ok-left_at.ensures c.in-Some.left c.in-Some.is) c.put_anew.ensures.grows

pub substitute_at-returns-then-stays-clause-process : goal.substitute_at-returns-then-stays-clause-process
substitute_at-returns-then-stays-clause-process t c =
    slice_get-get_or c.args.pool.now c.args.id.now.0 proc.Stop c.requires.within ∙
    ap (λ (q : Proc). Some q) (sym (c.stays.ensures c.if-stays.true))

pub substitute_at-returns-in_err-remember-clause-visited : goal.substitute_at-returns-in_err-remember-clause-visited
substitute_at-returns-in_err-remember-clause-visited t c = λ q made g.
    c.in_ok-made.ensures.visited q made (sym (ap (λ (entries : List (ℕ × ProcId)). lookup (nat_eq q) entries) c.in_err-remember.ensures.err) ∙ g)
