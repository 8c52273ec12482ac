use Rattle.cyclic_rule.proofs.Prelude.{◌<◌, ◌∙◌, ℕ, List, map, length, ap, sym, subst, slice_index, Shape, HasArc, MustPrecede, IsLeastCircle, turned_circle, turned_least, circle_some}
use Rattle.design_rules.specs.Prelude.{ends_of}
use Rattle.cyclic_rule.proofs.Chaining.{next_precedes, all_rise, chain_numbers}
use Rattle.cyclic_rule.proofs.numbers.numbers.Goals as goal

pub returns-in-Ok-clause-chains : goal.returns-in-Ok-clause-chains
returns-in-Ok-clause-chains c =
    let shape = c.args.sorted.now in
    let orders = c.args.orders.now in
    let w = c.shape-form.ensures.form in
    let rise = all_rise shape orders w c.requires.keep c.requires.orders (slice_index c.in-Ok.heights) (λ l m x. c.in-Ok.ensures.falls m l (c.in_ok-rows.ensures.complete m l x)) in
    chain_numbers shape orders w c.requires.keep c.requires.orders (HasArc c.in_ok-rows.rows) (slice_index c.in-Ok.heights) (λ m l arc. c.in_ok-rows.ensures.sound m l arc)
    (λ l h. c.in-Ok.ensures.heights.each l (subst (λ n. l < n) (sym c.in_ok-rows.ensures.count) h)) rise

pub returns-in-Ok-clause-rise : goal.returns-in-Ok-clause-rise
returns-in-Ok-clause-rise c = all_rise c.args.sorted.now c.args.orders.now c.shape-form.ensures.form c.requires.keep c.requires.orders (slice_index c.in-Ok.heights) (λ l m x. c.in-Ok.ensures.falls m l (c.in_ok-rows.ensures.complete m l x))

pub turned_ends-requires : goal.turned_ends-requires
turned_ends-requires c =
    let it = rw c.in-Err-Told.field-0-is at c.in-Err-Told.ensures.circle in
    subst (λ (vs : List ℕ). 0 < length vs) (sym c.members.ensures) (circle_some (HasArc c.in_ok-rows.rows) c.in-Err-Told.circle it)

pub returns-in-Err-Told-clause-fault : goal.returns-in-Err-Told-clause-fault
returns-in-Err-Told-clause-fault c =
    let shape = c.args.sorted.now in
    let it = rw c.in-Err-Told.field-0-is at c.in-Err-Told.ensures.circle in
    record {
      order = c.requires.keep;
      links = turned_circle c.members.result.now;
      circle = subst (IsLeastCircle (MustPrecede shape)) (sym (ap turned_circle c.members.ensures))
          (turned_least (HasArc c.in_ok-rows.rows) (MustPrecede shape) (λ m l arc. next_precedes shape c.args.orders.now c.shape-form.ensures.form c.requires.keep c.requires.orders l m (c.in_ok-rows.ensures.sound m l arc)) c.in-Err-Told.circle it);
      are = c.in_ok-links-in-Err-Told.ensures ∙ ap (λ (z : Shape). map (ends_of z) (turned_circle c.members.result.now)) c.shape-form.ensures.value;
    }
