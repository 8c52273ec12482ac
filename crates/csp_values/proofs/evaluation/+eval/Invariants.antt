use Rattle.csp_values.proofs.Prelude.{◌≡◌, Ok, ◌≤◌, ◌+◌, ◌-◌, ◌^◌, drop, env_in, capped, scaled, IsUnder, course, skipped, worths, with_items, with_fronts, fields_worth, gathered_of, one_more_binding, walk_worth, yielded}
use Rattle.csp_values.proofs.Courses.{over_course, size}
use Rattle.csp_values.proofs.FieldSteps.{fields_after}
use Rattle.csp_values.proofs.Steps.{worths_after}
use Rattle.csp_values.proofs.Weights.{weight, weights, gen_weights, part_weight, part_weights, body_weight, cost}
use Rattle.csp_values.proofs.evaluation.+eval.Given as goal

abbrev pub decreases-eval_expr : goal.decreases-eval_expr
decreases-eval_expr l = cost l.scope.now.content.now l.scope.now.uses + weight l.expr.now

abbrev pub decreases-eval_number : goal.decreases-eval_number
decreases-eval_number l = cost l.scope.now.content.now l.scope.now.uses + weight l.expr.now + 1

abbrev pub decreases-eval_truth : goal.decreases-eval_truth
decreases-eval_truth l = cost l.scope.now.content.now l.scope.now.uses + weight l.expr.now + 1

abbrev pub decreases-eval_atoms : goal.decreases-eval_atoms
decreases-eval_atoms l = cost l.scope.now.content.now l.scope.now.uses + weight l.expr.now + 1

abbrev pub decreases-eval_negative : goal.decreases-eval_negative
decreases-eval_negative l = cost l.scope.now.content.now l.scope.now.uses + weight l.a.now + 1

abbrev pub decreases-eval_not : goal.decreases-eval_not
decreases-eval_not l = cost l.scope.now.content.now l.scope.now.uses + weight l.a.now + 1

abbrev pub decreases-eval_binary : goal.decreases-eval_binary
decreases-eval_binary l = cost l.scope.now.content.now l.scope.now.uses + (weight l.a.now + weight l.b.now + 2)

abbrev pub decreases-eval_second : goal.decreases-eval_second
decreases-eval_second l = cost l.scope.now.content.now l.scope.now.uses + weight l.b.now + 1

abbrev pub decreases-eval_if : goal.decreases-eval_if
decreases-eval_if l = cost l.scope.now.content.now l.scope.now.uses + (weight l.c.now + weight l.a.now + weight l.b.now + 2)

abbrev pub decreases-eval_call : goal.decreases-eval_call
decreases-eval_call l = cost l.scope.now.content.now l.scope.now.uses + (weights l.args.now + 2)

abbrev pub decreases-eval_set_name : goal.decreases-eval_set_name
decreases-eval_set_name l = cost l.scope.now.content.now l.scope.now.uses + 1

abbrev pub decreases-eval_event : goal.decreases-eval_event
decreases-eval_event l = cost l.scope.now.content.now l.scope.now.uses + (weights l.fields.now + 5)

abbrev pub decreases-eval_display : goal.decreases-eval_display
decreases-eval_display l = cost l.scope.now.content.now l.scope.now.uses + (weights l.items.now + 3)

abbrev pub decreases-eval_range : goal.decreases-eval_range
decreases-eval_range l = cost l.scope.now.content.now l.scope.now.uses + (weight l.a.now + weight l.b.now + 2)

abbrev pub decreases-eval_set_op : goal.decreases-eval_set_op
decreases-eval_set_op l = cost l.scope.now.content.now l.scope.now.uses + (weight l.a.now + weight l.b.now + 2)

abbrev pub decreases-eval_product : goal.decreases-eval_product
decreases-eval_product l = cost l.scope.now.content.now l.scope.now.uses + (part_weights l.parts.now + gen_weights l.gens.now + 7)

abbrev pub decreases-eval_comprehension : goal.decreases-eval_comprehension
decreases-eval_comprehension l = cost l.scope.now.content.now l.scope.now.uses + (weights l.items.now + part_weights l.parts.now + gen_weights l.gens.now + 6)

abbrev pub decreases-eval_all : goal.decreases-eval_all
decreases-eval_all l = cost l.scope.now.content.now l.scope.now.uses + (weights l.exprs.now + 1)

abbrev pub decreases-eval_use : goal.decreases-eval_use
decreases-eval_use l = cost l.scope.now.content.now l.scope.now.uses

abbrev pub decreases-eval_body : goal.decreases-eval_body
decreases-eval_body l = cost l.scope.now.content.now l.scope.now.uses + (body_weight l.def.now.body + 1)

abbrev pub decreases-add_items : goal.decreases-add_items
decreases-add_items l = cost l.scope.now.content.now l.scope.now.uses + (weights l.items.now + 2)

abbrev pub decreases-add_item : goal.decreases-add_item
decreases-add_item l = cost l.scope.now.content.now l.scope.now.uses + weight l.item.now + 1

abbrev pub decreases-eval_fields : goal.decreases-eval_fields
decreases-eval_fields l = cost l.scope.now.content.now l.scope.now.uses + (weights l.fields.now + 2)

abbrev pub decreases-eval_place : goal.decreases-eval_place
decreases-eval_place l = cost l.scope.now.content.now l.scope.now.uses + weight l.expr.now + 1

abbrev pub decreases-eval_choice : goal.decreases-eval_choice
decreases-eval_choice l = cost l.scope.now.content.now l.scope.now.uses + (weights l.fields.now + 3)

abbrev pub decreases-eval_front : goal.decreases-eval_front
decreases-eval_front l = cost l.scope.now.content.now l.scope.now.uses + (weights l.fields.now + 4)

abbrev pub decreases-add_front : goal.decreases-add_front
decreases-add_front l = cost l.scope.now.content.now l.scope.now.uses + part_weight l.part.now

abbrev pub decreases-add_fronts : goal.decreases-add_fronts
decreases-add_fronts l = cost l.scope.now.content.now l.scope.now.uses + (part_weights l.parts.now + 1)

abbrev pub decreases-gather : goal.decreases-gather
decreases-gather l = cost l.scope.now.content.now l.scope.now.uses + (weights l.yields.now.items.now + part_weights l.yields.now.parts.now + 3)

abbrev pub decreases-gather_all : goal.decreases-gather_all
decreases-gather_all l = cost l.scope.now.content.now l.scope.now.uses + (weights l.yields.now.items.now + part_weights l.yields.now.parts.now + gen_weights l.gens.now + 5)

abbrev pub decreases-gather_each : goal.decreases-gather_each
decreases-gather_each l = cost l.scope.now.content.now l.scope.now.uses + (weights l.yields.now.items.now + part_weights l.yields.now.parts.now + gen_weights l.gens.now + 4)

abbrev pub decreases-gather_once : goal.decreases-gather_once
decreases-gather_once l = cost l.scope.now.content.now l.scope.now.uses + (weights l.yields.now.items.now + part_weights l.yields.now.parts.now + gen_weights l.gens.now + 4)

abbrev pub decreases-find_binding : goal.decreases-find_binding
decreases-find_binding l = cost l.scope.now.content.now l.scope.now.uses + (gen_weights l.gens.now + 3)

abbrev pub decreases-advance : goal.decreases-advance
decreases-advance l = cost l.scope.now.content.now l.scope.now.uses + (gen_weights l.gens.now + 2)

abbrev pub decreases-enter : goal.decreases-enter
decreases-enter l = cost l.scope.now.content.now l.scope.now.uses + (gen_weights l.gens.now + 1)

-- the expressions that are left are still to be evaluated
abbrev pub invariant-eval_all-loop-expr : goal.invariant-eval_all-loop-expr
invariant-eval_all-loop-expr l =
    worths l.scope.content.now l.scope.uses (env_in l.scope.names.now) l.exprs ≡ worths_after l.scope.content.now l.scope.uses (env_in l.scope.names.now) l.values (drop l.expr-index l.exprs)

-- the items that are left are still to be added
abbrev pub invariant-add_items-loop-item : goal.invariant-add_items-loop-item
invariant-add_items-loop-item l =
    with_items l.scope.content.now l.scope.uses (env_in l.scope.names.now) l.items l.fn.atoms ≡ with_items l.scope.content.now l.scope.uses (env_in l.scope.names.now) (drop l.item-index l.items) l.atoms

-- the fields that are left are still to be counted
abbrev pub invariant-eval_fields-loop-field : goal.invariant-eval_fields-loop-field
invariant-eval_fields-loop-field l = record {
  within : l.number ≤ 2 ^ 64 - 1;
  same : capped (scaled (fields_worth l.scope.content.now l.scope.uses (env_in l.scope.names.now) l.fields l.fn.sets 0) l.each) ≡ capped (fields_after l.scope.content.now l.scope.uses (env_in l.scope.names.now) (drop l.field-index l.fields) l.rest l.each l.number);
}

-- the fronts that are left are still to be added
abbrev pub invariant-add_fronts-loop-part : goal.invariant-add_fronts-loop-part
invariant-add_fronts-loop-part l =
    with_fronts l.scope.content.now l.scope.uses (env_in l.scope.names.now) l.parts l.fn.atoms ≡ with_fronts l.scope.content.now l.scope.uses (env_in l.scope.names.now) (drop l.part-index l.parts) l.atoms

-- what the walk comes to is still to come
abbrev pub invariant-find_binding-steps : goal.invariant-find_binding-steps
invariant-find_binding-steps l = record {
  same : skipped (course l.scope.content.now l.scope.uses l.gens l.scope.names.now l.fn.walk) ≡ skipped (course l.scope.content.now l.scope.uses l.gens l.scope.names.now l.walk);
  under : IsUnder l.scope.names.now.bound.now l.walk;
}

abbrev pub decreases-find_binding-steps : goal.decreases-find_binding-steps
decreases-find_binding-steps l = size (course l.scope.content.now l.scope.uses l.gens l.scope.names.now l.walk)

-- the bindings that are left are still to be gathered
abbrev pub invariant-gather_each-bindings : goal.invariant-gather_each-bindings
invariant-gather_each-bindings l = record {
  same :
      walk_worth l.scope.content.now l.scope.uses l.gens l.yields.items.now l.yields.parts.now (env_in l.scope.names.now) (gathered_of l.fn.tally) ≡
      over_course (course l.scope.content.now l.scope.uses l.gens l.scope.names.now l.walk) (one_more_binding l.scope.content.now l.scope.uses l.yields.items.now l.yields.parts.now) (gathered_of l.tally);
  under : IsUnder l.scope.names.now.bound.now l.walk;
}

abbrev pub decreases-gather_each-bindings : goal.decreases-gather_each-bindings
decreases-gather_each-bindings l = size (course l.scope.content.now l.scope.uses l.gens l.scope.names.now l.walk)

-- the bindings that are left are still to be counted: what each of them adds is there
abbrev pub invariant-gather_once-bindings : goal.invariant-gather_once-bindings
invariant-gather_once-bindings l = record {
  same :
      walk_worth l.scope.content.now l.scope.uses l.gens l.yields.items.now l.yields.parts.now (env_in l.scope.names.now) (gathered_of l.fn.tally) ≡
      over_course (course l.scope.content.now l.scope.uses l.gens l.scope.names.now l.walk) (λ _. one_more_binding l.scope.content.now l.scope.uses l.yields.items.now l.yields.parts.now (env_in l.scope.names.now)) (gathered_of l.tally);
  under : IsUnder l.scope.names.now.bound.now l.walk;
  there : yielded l.scope.content.now l.scope.uses l.yields.items.now l.yields.parts.now (env_in l.scope.names.now) l.tally.atoms ≡ Ok l.tally.atoms;
}

abbrev pub decreases-gather_once-bindings : goal.decreases-gather_once-bindings
decreases-gather_once-bindings l = size (course l.scope.content.now l.scope.uses l.gens l.scope.names.now l.walk)
