use Rattle.cyclic_rule.proofs.Prelude.{◌∙◌, ap, length, Shape, HasArc, ends_of}
use Rattle.cyclic_rule.proofs.Chaining.{order_all, order_read, ends_all, chains_more}
use Rattle.cyclic_rule.proofs.numbers.chains.Goals as goal

pub chain-requires : goal.chain-requires
chain-requires c = order_all c.args.sorted.now c.args.orders.now c.loop-part.part (length c.loop-part.rows) c.as_slice.result.now c.index-orders-part.result c.requires c.loop-part-test.true c.as_slice.ensures c.index-orders-part.is c.loop-part.invariant.count

pub chain_rest-requires-clause-order : goal.chain_rest-requires-clause-order
chain_rest-requires-clause-order c = order_all c.args.sorted.now c.args.orders.now c.loop-part.part (length c.chain.new.rows) c.as_slice-in-loop-part.result.now c.index-orders-part-in-loop-part.result c.requires c.loop-part-test.true c.as_slice-in-loop-part.ensures c.index-orders-part-in-loop-part.is (c.in_ok-chain.ensures.count ∙ c.loop-part.invariant.count)

pub chain_rest-requires-clause-ends : goal.chain_rest-requires-clause-ends
chain_rest-requires-clause-ends c = ends_all c.args.sorted.now c.loop-part.part (length c.chain.new.rows) c.links-ends.result.now (c.links-ends.ensures ∙ (ap (λ (s : Shape). ends_of s c.component.result.number) c.component.ensures.shape ∙ ap (ends_of c.args.sorted.now) c.component.ensures.number)) (c.in_ok-chain.ensures.count ∙ c.loop-part.invariant.count)

pub loop-part-preserved : goal.loop-part-preserved
loop-part-preserved c =
    let shape = c.args.sorted.now in
    let orders = c.args.orders.now in
    let part = c.loop-part.part in
    let i = c.loop-part.invariant in
    let a = c.in_ok-chain.ensures in
    let b = c.in_ok-chain_rest.ensures in
    let first = order_read shape orders part c.as_slice.result.now c.index-orders-part.result c.requires c.loop-part-test.true c.as_slice.ensures c.index-orders-part.is in
    let second = order_read shape orders part c.as_slice-in-loop-part.result.now c.index-orders-part-in-loop-part.result c.requires c.loop-part-test.true c.as_slice-in-loop-part.ensures c.index-orders-part-in-loop-part.is in
    let more = chains_more shape orders part c.as_slice.result.now c.as_slice-in-loop-part.result.now c.links-ends.result.now (HasArc c.loop-part.rows) (HasArc c.chain.new.rows) (HasArc c.chain_rest.new.rows) first.0 second.0 (c.links-ends.ensures ∙ (ap (λ (s : Shape). ends_of s c.component.result.number) c.component.ensures.shape ∙ ap (ends_of c.args.sorted.now) c.component.ensures.number))
    i.sound i.complete a.arcs b.arcs in
    record { count = b.count ∙ a.count ∙ i.count; sound = more.0; complete = more.1 }
