use Rattle.cyclic_conditions.proofs.Prelude.{◌≡◌, ◌∙◌, ℕ, List, Option, Some, length, ap, sym, refl, arith, with_items_is, slice_set, unwrap_or, Link, Node, short_at, with_items}
use Rattle.cyclic_conditions.proofs.Shortness.{accept_read, look_none, look_left, look_right}
use Rattle.cyclic_conditions.proofs.shorts.mark_set.Goals as goal

pub returns-in_default : goal.returns-in_default
returns-in_default c =
    let shape = c.args.component.now.shape.now in
    let i = c.args.component.now.number in
    let is = accept_read shape i c.args.node c.args.place c.accept.result.now c.index-accept-place.result (c.accept.ensures ∙ ap (λ (m : Node). m.accept) c.node.ensures) c.requires.at c.index-accept-place.is in
    look_none shape i c.args.node c.args.place c.index-accept-place.result is c.requires.at c.requires.keep c.short_link.result c.short_link.ensures.short c.short_link.ensures.all c.args.shorts.now c.requires.shorts c.in_default.is

pub link-requires : goal.link-requires
link-requires c = (c.short_link.ensures.short c.in-Some.link c.in-Some.is).link

pub returns-then-left-component : goal.returns-then-left-component
returns-then-left-component c =
    let shape = c.args.component.now.shape.now in
    let i = c.args.component.now.number in
    let is = accept_read shape i c.args.node c.args.place c.accept.result.now c.index-accept-place.result (c.accept.ensures ∙ ap (λ (m : Node). m.accept) c.node.ensures) c.requires.at c.index-accept-place.is in
    let count : length c.mark.new.nodes ≡ c.args.shorts.now.left.len = omega (arith, c.mark.auto.nodes, ap (length {A = Option ℕ}) c.deref_mut.ensures.value, c.args.shorts.now.left.ok.0) in
    look_left shape i c.args.node c.args.place c.index-accept-place.result is c.requires.at c.requires.keep c.short_link.result c.short_link.ensures.short c.short_link.ensures.all c.args.shorts.now c.requires.shorts
    (record { left = with_items c.args.shorts.now.left c.mark.new.nodes; right = c.args.shorts.now.right }) c.in-Some.link c.in-Some.is (sym (c.left.ensures.value ∙ ap (λ (k : Link). k.left) c.link.ensures) ∙ c.if-left-component.true)
    (with_items_is c.args.shorts.now.left c.mark.new.nodes count ∙ c.mark.ensures ∙ ap (λ (xs : List (Option ℕ)). slice_set xs c.in-Some.link (Some (unwrap_or (short_at xs c.in-Some.link) c.args.node))) c.deref_mut.ensures.value) refl

pub returns-else-left-component : goal.returns-else-left-component
returns-else-left-component c =
    let shape = c.args.component.now.shape.now in
    let i = c.args.component.now.number in
    let is = accept_read shape i c.args.node c.args.place c.accept.result.now c.index-accept-place.result (c.accept.ensures ∙ ap (λ (m : Node). m.accept) c.node.ensures) c.requires.at c.index-accept-place.is in
    let count : length c.mark-else-left-component.new.nodes ≡ c.args.shorts.now.right.len = omega (arith, c.mark-else-left-component.auto.nodes, ap (length {A = Option ℕ}) c.deref_mut-else-left-component.ensures.value, c.args.shorts.now.right.ok.0) in
    look_right shape i c.args.node c.args.place c.index-accept-place.result is c.requires.at c.requires.keep c.short_link.result c.short_link.ensures.short c.short_link.ensures.all c.args.shorts.now c.requires.shorts
    (record { left = c.args.shorts.now.left; right = with_items c.args.shorts.now.right c.mark-else-left-component.new.nodes }) c.in-Some.link c.in-Some.is (λ same. c.if-left-component.false (c.left.ensures.value ∙ ap (λ (k : Link). k.left) c.link.ensures ∙ same))
    (with_items_is c.args.shorts.now.right c.mark-else-left-component.new.nodes count ∙ c.mark-else-left-component.ensures ∙ ap (λ (xs : List (Option ℕ)). slice_set xs c.in-Some.link (Some (unwrap_or (short_at xs c.in-Some.link) c.args.node))) c.deref_mut-else-left-component.ensures.value) refl
