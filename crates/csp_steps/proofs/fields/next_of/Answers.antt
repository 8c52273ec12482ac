use Rattle.csp_steps.proofs.Prelude.{List, [], ◌∷◌, length, ap, subst, sym, ◌∙◌, arith, nil_from_length, Atom, Env, with_bound, number_of, ways_by_number, weight, GivesNext}
use Rattle.csp_steps.proofs.Walking.{longer_push, output_filled}
use Rattle.csp_steps.proofs.fields.next_of.Goals as goal

pub loop-set-preserved : goal.loop-set-preserved
loop-set-preserved c =
    let p = c.args.filling.now.program.now in
    let env : Env = with_bound c.args.bound.now [] in
    record {
      same = c.loop-set.invariant.same ∙
          ((λ i. ways_by_number p (c.in-Some.ensures.cases.0 i) (c.in-Some-split_first.ensures.cases.0 i) env (number_of c.loop-set.values.items)) ∙
          ((λ i. ways_by_number p (c.in-Some.set.now ∷ c.in-Some.rest.now) (c.in-Put.is i ∷ c.in-Some-split_first.later.now) env (number_of c.loop-set.values.items)) ∙
          output_filled p c.in-Some.set.now c.in-Some.rest.now c.in-Put.output c.in-Some-split_first.later.now env c.loop-set.values.items c.add_value.new.values.items c.in_ok-value-in-Put.value
          c.in_ok-value-in-Put.ensures c.in_ok-add_value-in-Put.ensures));
      kept = c.loop-set.invariant.kept;
      longer = longer_push c.args.values.now.items c.loop-set.values.items c.add_value.new.values.items c.in_ok-value-in-Put.value c.loop-set.invariant.longer c.in_ok-add_value-in-Put.ensures;
      less = let w = ap weight c.in-Some.ensures.cases.0 in let old = c.loop-set.invariant.less in omega (arith, w, old);
    }

pub returns-clause-before : goal.returns-clause-before
returns-clause-before c = c.end_of.ensures.before (length c.loop-set.values.items)

pub returns-clause-next : goal.returns-clause-next
returns-clause-next c =
    subst (GivesNext c.args.filling.now.program.now (with_bound c.args.bound.now []) (number_of c.loop-set.values.items) c.end_of.result)
    (sym (c.loop-set.invariant.same ∙
    ap (λ (ss : List (List Atom)). ways_by_number c.args.filling.now.program.now ss c.loop-set.fields.now (with_bound c.args.bound.now []) (number_of c.loop-set.values.items))
    (nil_from_length c.loop-set.sets.now c.in_default.ensures.cases)))
    (c.end_of.ensures.next c.args.filling.now.program.now (with_bound c.args.bound.now []) (number_of c.loop-set.values.items))
