use Rattle.determinise.proofs.Prelude.{◌≡◌, ◌<◌, ℕ, length, sym, subst, rules, arith, set_at, IsNodeOf, IsReachedFromSet, AreNodesSoFar}
use Rattle.determinise.proofs.Exploring.{no_nodes, reached_more, nodes_more}
use Rattle.determinise.proofs.explore.explore.Goals as goal

pub node_of-requires-clause-form : goal.node_of-requires-clause-form
node_of-requires-clause-form c =
    let below : c.len-in-loop-alloc-2.result < length c.loop-alloc.sets = search rules in
    c.loop-alloc.invariant.reached.forms c.len-in-loop-alloc-2.result below

pub returns-in_err-node-clause-reached : goal.returns-in_err-node-clause-reached
returns-in_err-node-clause-reached c =
    let below : c.len-in-loop-alloc-2.result < length c.loop-alloc.sets = search rules in
    reached_more c.args.table.now c.loop-alloc.sets c.node_of.new.sets c.len-in-loop-alloc-2.result below c.loop-alloc.invariant.reached c.node_of.ensures.more

pub returns-in_err-push_node-clause-reached : goal.returns-in_err-push_node-clause-reached
returns-in_err-push_node-clause-reached c =
    let below : c.len-in-loop-alloc-2.result < length c.loop-alloc.sets = search rules in
    reached_more c.args.table.now c.loop-alloc.sets c.node_of.new.sets c.len-in-loop-alloc-2.result below c.loop-alloc.invariant.reached c.node_of.ensures.more

pub loop-alloc-init : goal.loop-alloc-init
loop-alloc-init c = record {
  so_far = subst (AreNodesSoFar c.args.table.now c.args.sets.now) (sym c.new-nodes.ensures.items) (no_nodes c.args.table.now c.args.sets.now c.requires.one);
  reached = c.requires.reached;
  few = omega (arith, c.requires.one);
  ready = c.in_ok-known.ensures c.args.sets.now;
}

pub loop-alloc-preserved : goal.loop-alloc-preserved
loop-alloc-preserved c =
    let raw = c.args.table.now in
    let old = c.loop-alloc.sets in
    let nodes = c.loop-alloc.nodes.items in
    let place : c.len-in-loop-alloc-2.result ≡ length nodes = search rules in
    let below : c.len-in-loop-alloc-2.result < length old = search rules in
    let inside : length nodes < length old = search rules in
    let is : IsNodeOf raw c.node_of.new.sets (set_at old (length nodes)) c.in_ok-node.node = subst (λ (n : ℕ). IsNodeOf raw c.node_of.new.sets (set_at old n) c.in_ok-node.node) place c.in_ok-node.ensures.node in
    record {
      so_far = subst (AreNodesSoFar raw c.node_of.new.sets) (sym c.in_ok-push_node.ensures) (nodes_more raw (IsReachedFromSet raw (set_at old c.len-in-loop-alloc-2.result)) old c.node_of.new.sets nodes c.in_ok-node.node inside c.loop-alloc.invariant.so_far c.node_of.ensures.more is c.in_ok-node.ensures.order);
      reached = reached_more raw old c.node_of.new.sets c.len-in-loop-alloc-2.result below c.loop-alloc.invariant.reached c.node_of.ensures.more;
      few = c.in_ok-node.ensures.few;
      ready = c.in_ok-node.ensures.ready;
    }
