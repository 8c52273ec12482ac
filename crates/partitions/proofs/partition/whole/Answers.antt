use Rattle.partitions.proofs.Prelude.{◌≡◌, ◌<◌, ◌⊎◌, inl, inr, sym, subst, arith, IsWhole}
use Rattle.partitions.proofs.Taking.{start_whole, start}
use Rattle.partitions.proofs.partition.whole.Goals as goal
use Rattle.partitions.proofs.partition.whole.Goals.{then-count-eq0, else-count-eq0}

pub returns : goal.returns
returns c =
    let n = c.args.count in
    let k = c.if-count-eq0.number in
    let blocks_are : ((n ≡ 0) × (k ≡ 0)) ⊎ ((0 < n) × (k ≡ 1)) = elim c.if-count-eq0.branch as (λ _. ((n ≡ 0) × (k ≡ 0)) ⊎ ((0 < n) × (k ≡ 1))) [
      | then-count-eq0 w ↦ inl (w.if-count-eq0.true, w.number-is)
      | else-count-eq0 w ↦ inr (omega (arith, w.if-count-eq0.false), w.number-is)
    ] in
    let order = c.in_ok-order.order.items in
    let places = c.in_ok-places.places.items in
    let is : start n k order places ≡ record { order = order; places = places; blocks = c.in_ok-blocks.blocks.items; firsts = c.in_ok-firsts.firsts.items; middles = c.in_ok-middles.middles.items; ends = c.in_ok-ends.ends.items; waiting = c.in_ok-waiting.waiting.items; flags = c.in_ok-flags.flags.items }
    = λ i. record {
      order = order;
      places = places;
      blocks = sym c.in_ok-blocks.ensures i;
      firsts = sym c.in_ok-firsts.ensures i;
      middles = sym c.in_ok-middles.ensures i;
      ends = sym c.in_ok-ends.ensures i;
      waiting = sym c.in_ok-waiting.ensures i;
      flags = sym c.in_ok-flags.ensures i;
    } in
    subst (IsWhole n) is (start_whole n k order places c.ranges.count.fits blocks_are c.in_ok-order.ensures.len c.in_ok-order.ensures.each c.in_ok-places.ensures.len c.in_ok-places.ensures.each)
