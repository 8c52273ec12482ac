use Rattle.resource_rule.proofs.Prelude.{◌<◌, ◌≤◌, ◌+◌, ◌∙◌, ℕ, [], List, ap, length, replicate, subst, sym, arith, IfOk-weaker, Link, Shape, HasArc, AddsArcs, Below, HoldsWhile, LeadsToSome, length-replicate, with_items_is}
use Rattle.resource_rule.proofs.Adding.{adds_below_none, adds_more}
use Rattle.resource_rule.proofs.Holding.{arcs_complete, arcs_sound, members_within}
use Rattle.resource_rule.proofs.holdings.holdings.Goals as goal

pub loop-part-init : goal.loop-part-init
loop-part-init c =
    let none = replicate {A = List ℕ} (length c.args.setting.now.shape.links) [] in
    let is = c.in_ok-sets.ensures.empty ∙ ap (λ (ls : List Link). replicate {A = List ℕ} (length ls) []) (c.links.ensures.value ∙ ap (λ (s : Shape). s.links) c.shape.ensures.value) in
    subst (λ (xs : List (List ℕ)). AddsArcs (Below (HoldsWhile c.args.setting.now) 0) (replicate {A = List ℕ} (length c.args.setting.now.shape.links) []) xs) (sym is) (adds_below_none (HoldsWhile c.args.setting.now) none)

pub loop-part-preserved : goal.loop-part-preserved
loop-part-preserved c =
    let g = c.args.setting.now in
    let none = replicate {A = List ℕ} (length c.args.setting.now.shape.links) [] in
    let adds = subst (λ (xs : List (List ℕ)). AddsArcs (HoldsWhile c.args.setting.now c.loop-part.part) xs c.add_part.new.sets) c.deref_mut.ensures.value c.in_ok-add_part.ensures in
    subst (λ (xs : List (List ℕ)). AddsArcs (Below (HoldsWhile c.args.setting.now) (c.loop-part.part + 1)) (replicate {A = List ℕ} (length c.args.setting.now.shape.links) []) xs)
    (sym (with_items_is c.loop-part.sets c.add_part.new.sets (adds.count ∙ sym c.loop-part.sets.ok.0)))
    (adds_more (HoldsWhile g) c.loop-part.part none c.loop-part.sets.items c.add_part.new.sets c.loop-part.invariant adds)

pub resource_arcs-requires-clause-count : goal.resource_arcs-requires-clause-count
resource_arcs-requires-clause-count c = ap length c.as_slice.ensures.value ∙ c.loop-part.invariant.count ∙ length-replicate (length c.args.setting.now.shape.links) []

pub resource_arcs-requires-clause-within : goal.resource_arcs-requires-clause-within
resource_arcs-requires-clause-within c = subst (λ (xs : List (List ℕ)). (k l : ℕ) → HasArc xs k l → l < length c.args.setting.now.shape.links) (sym c.as_slice.ensures.value) (members_within c.args.setting.now c.loop-part.part c.loop-part.sets.items c.loop-part.invariant)

pub returns-clause-count : goal.returns-clause-count
returns-clause-count c = IfOk-weaker c.resource_arcs.result _ _ (λ rows adds. adds.count ∙ length-replicate (length c.args.setting.now.shape.parts) []) c.resource_arcs.ensures

pub returns-clause-sound : goal.returns-clause-sound
returns-clause-sound c =
    let g = c.args.setting.now in
    let f = c.shape-form.ensures in
    IfOk-weaker c.resource_arcs.result _ _ (λ rows adds. arcs_sound g f.form f.apart f.uses c.requires c.loop-part.part c.loop-part.sets.items rows c.loop-part.invariant (subst (λ (xs : List (List ℕ)). AddsArcs (LeadsToSome c.args.setting.now xs) (replicate (length c.args.setting.now.shape.parts) []) rows) c.as_slice.ensures.value adds)) c.resource_arcs.ensures

pub returns-clause-complete : goal.returns-clause-complete
returns-clause-complete c =
    let g = c.args.setting.now in
    let f = c.shape-form.ensures in
    let all : length c.args.setting.now.shape.parts ≤ c.loop-part.part = omega (arith, c.loop-part-test.false, c.count-part-end.ensures.value) in
    IfOk-weaker c.resource_arcs.result _ _ (λ rows adds. arcs_complete g f.form f.apart f.uses c.requires c.loop-part.part c.loop-part.sets.items rows c.loop-part.invariant (subst (λ (xs : List (List ℕ)). AddsArcs (LeadsToSome c.args.setting.now xs) (replicate (length c.args.setting.now.shape.parts) []) rows) c.as_slice.ensures.value adds) all) c.resource_arcs.ensures
