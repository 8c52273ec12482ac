use Rattle.cyclic_conditions.proofs.Prelude.{◌≡◌, ◌∙◌, inl, inr, ap, sym, Link, Shape, link_at, part_at, FallsFirst}
use Rattle.design_rules.specs.Prelude.{ends_of}
use Rattle.cyclic_conditions.proofs.Shortness.{end_first, end_reached, end_whole}
use Rattle.cyclic_conditions.proofs.whole.check_link.Goals as goal

pub returns-in_default-clause-whole : goal.returns-in_default-clause-whole
returns-in_default-clause-whole c = inl (end_whole c.args.sorted.now c.args.link (link_at c.args.sorted.now c.args.link).left c.args.shorts.now.left.items c.index.result.now c.requires.shorts.form c.requires.link c.requires.shorts.left_count (c.requires.shorts.left c.args.link) c.index.ensures c.in_default.is)

pub returns-in_default-index-clause-whole : goal.returns-in_default-index-clause-whole
returns-in_default-index-clause-whole c = inr (end_whole c.args.sorted.now c.args.link (link_at c.args.sorted.now c.args.link).right c.args.shorts.now.right.items c.index-2.result.now c.requires.shorts.form c.requires.link c.requires.shorts.right_count (c.requires.shorts.right c.args.link) c.index-2.ensures c.in_default-index.is)

pub run_to_node-requires-clause-reached : goal.run_to_node-requires-clause-reached
run_to_node-requires-clause-reached c =
    let read = c.part.ensures.value ∙ ap (λ (s : Shape). part_at s.parts c.component.result.number) c.component.ensures.shape in
    end_reached c.args.sorted.now c.args.link (link_at c.args.sorted.now c.args.link).left c.in-Some.left_node c.component.result.number c.args.shorts.now.left.items c.index.result.now c.part.result.now c.requires.shorts.form c.requires.link c.requires.shorts.left_count (c.requires.shorts.left c.args.link) c.index.ensures c.in-Some.is
    (c.component.ensures.number ∙ c.left-left.ensures.value ∙ ap (λ (k : Link). k.left) c.link-ends.ensures) read

pub run_to_node-requires-2-clause-reached : goal.run_to_node-requires-2-clause-reached
run_to_node-requires-2-clause-reached c =
    let read = c.part-2.ensures.value ∙ ap (λ (s : Shape). part_at s.parts c.component-2.result.number) c.component-2.ensures.shape in
    end_reached c.args.sorted.now c.args.link (link_at c.args.sorted.now c.args.link).right c.in-Some-index.right_node c.component-2.result.number c.args.shorts.now.right.items c.index-2.result.now c.part-2.result.now c.requires.shorts.form c.requires.link c.requires.shorts.right_count (c.requires.shorts.right c.args.link) c.index-2.ensures c.in-Some-index.is
    (c.component-2.ensures.number ∙ c.right-right.ensures.value ∙ ap (λ (k : Link). k.right) c.link-ends.ensures) read

left_falls : (c : goal.In_ok-right_trace) → FallsFirst c.args.sorted.now c.args.link (link_at c.args.sorted.now c.args.link).left c.in_ok-left_trace.left_trace
left_falls c =
    let read = c.part.ensures.value ∙ ap (λ (s : Shape). part_at s.parts c.component.result.number) c.component.ensures.shape in
    end_first c.args.sorted.now c.args.link (link_at c.args.sorted.now c.args.link).left c.in-Some.left_node c.component.result.number c.args.shorts.now.left.items c.index.result.now c.part.result.now c.requires.shorts.form c.requires.link c.requires.shorts.left_count (c.requires.shorts.left c.args.link) c.index.ensures c.in-Some.is
    (c.component.ensures.number ∙ c.left-left.ensures.value ∙ ap (λ (k : Link). k.left) c.link-ends.ensures) read c.in_ok-left_trace.left_trace c.in_ok-left_trace.ensures.follows c.in_ok-left_trace.ensures.leads

right_falls : (c : goal.In_ok-right_trace) → FallsFirst c.args.sorted.now c.args.link (link_at c.args.sorted.now c.args.link).right c.in_ok-right_trace.right_trace
right_falls c =
    let read = c.part-2.ensures.value ∙ ap (λ (s : Shape). part_at s.parts c.component-2.result.number) c.component-2.ensures.shape in
    end_first c.args.sorted.now c.args.link (link_at c.args.sorted.now c.args.link).right c.in-Some-index.right_node c.component-2.result.number c.args.shorts.now.right.items c.index-2.result.now c.part-2.result.now c.requires.shorts.form c.requires.link c.requires.shorts.right_count (c.requires.shorts.right c.args.link) c.index-2.ensures c.in-Some-index.is
    (c.component-2.ensures.number ∙ c.right-right.ensures.value ∙ ap (λ (k : Link). k.right) c.link-ends.ensures) read c.in_ok-right_trace.right_trace c.in_ok-right_trace.ensures.follows c.in_ok-right_trace.ensures.leads

ends_are : (c : goal.In_ok-right_trace) → ends_of c.args.sorted.now c.args.link ≡ (c.left-left.result, c.right-right.result)
ends_are c = sym (λ i. ((c.left-left.ensures.value ∙ ap (λ (k : Link). k.left) c.link-ends.ensures) i, (c.right-right.ensures.value ∙ ap (λ (k : Link). k.right) c.link-ends.ensures) i))

pub returns-clause-fault : goal.returns-clause-fault
returns-clause-fault c = record {
  order = c.requires.keep;
  numbered = c.requires.numbered;
  link = c.args.link;
  within = c.requires.link;
  ends = ends_are c;
  left = (left_falls c).falls;
  right = (right_falls c).falls;
  first = c.requires.first;
}

pub returns-clause-first : goal.returns-clause-first
returns-clause-first c = (c.args.link, ends_are c, left_falls c, right_falls c)
