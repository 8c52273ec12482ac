use Rattle.shape_links.proofs.Prelude.{◌≡◌, ◌<◌, ◌≤◌, ◌∙◌, ℕ, [], length, ap, sym, arith, below_more, get_or_read, not-false, pair_at, table_of}
use Rattle.shape_links.proofs.OddLinks.{all_turned, kept_step, step_below}
use Rattle.shape_links.proofs.component.Component.is_kept_from.Goals as goal

pub bounds-odd-target : goal.bounds-odd-target
bounds-odd-target c =
    let at = get_or_read c.steps-steps.result.now c.loop-event.event-index c.loop-event-item.result c.loop-event-test.true c.loop-event-item.is (0, 0) in
    let same : c.loop-event-item.result.1 ≡ (pair_at c.steps-steps.result.now c.loop-event.event-index).1 = ap (λ (p : ℕ × ℕ). p.1) at in
    let below : (pair_at c.steps-steps.result.now c.loop-event.event-index).1 < length (table_of c.args.self.now) = step_below c.args.self.now c.shape-form.ensures.form c.args.watched.now c.args.node c.steps-steps.result.now c.loop-event.event-index c.steps-steps.ensures c.loop-event-test.true in
    let count : length c.args.odd.now ≡ length (table_of c.args.self.now) = c.requires.sets in
    omega arith

pub loop-event-preserved : goal.loop-event-preserved
loop-event-preserved c =
    let at = get_or_read c.steps-steps.result.now c.loop-event.event-index c.loop-event-item.result c.loop-event-test.true c.loop-event-item.is (0, 0) in
    let count : length c.args.odd.now ≡ length (table_of c.args.self.now) = c.requires.sets in
    let node : c.args.node < length (table_of c.args.self.now) = c.requires.node in
    let here : c.args.node < length c.args.odd.now = omega arith in
    let same : c.loop-event-item.result.1 ≡ (pair_at c.steps-steps.result.now c.loop-event.event-index).1 = ap (λ (p : ℕ × ℕ). p.1) at in
    let below : (pair_at c.steps-steps.result.now c.loop-event.event-index).1 < length (table_of c.args.self.now) = step_below c.args.self.now c.shape-form.ensures.form c.args.watched.now c.args.node c.steps-steps.result.now c.loop-event.event-index c.steps-steps.ensures c.loop-event-test.true in
    let there : c.loop-event-item.result.1 < length c.args.odd.now = omega arith in
    below_more _ _ c.loop-event.invariant
    (kept_step c.args.self.now c.shape-form.ensures.form c.args.watched.now c.args.odd.now c.args.node c.steps-steps.result.now c.loop-event.event-index c.loop-event-item.result c.index-odd-node.result c.in_ok-set.set c.index-odd-target.result at
    (get_or_read c.args.odd.now c.args.node c.index-odd-node.result here c.index-odd-node.is [])
    (get_or_read c.args.odd.now c.loop-event-item.result.1 c.index-odd-target.result there c.index-odd-target.is []) c.in_ok-set.ensures (not-false _ (sym c.ne.ensures ∙ c.if-ne.false)))

pub returns : goal.returns
returns c _ e possible =
    let last : length c.steps-steps.result.now ≤ c.loop-event.event-index = c.loop-event-test.false in
    all_turned c.args.self.now c.shape-form.ensures.form c.args.watched.now c.args.odd.now c.args.node c.steps-steps.result.now c.steps-steps.ensures (λ k h. c.loop-event.invariant k (omega arith)) e possible
