use Rattle.resource_rule.proofs.Prelude.{◌≡◌, ◌∙◌, ◌||◌, ◌&&◌, ℕ, List, nat_eq, subst, sym, true, list_any, has_first, or_right, has, has_arc, resource_of}
use Rattle.resource_rule.proofs.Adding.{one_more_test}
use Rattle.resource_rule.proofs.link_sets.add_row.Goals as goal

pub add_arc-requires-clause-link : goal.add_arc-requires-clause-link
add_arc-requires-clause-link c = c.loop-event.invariant.within c.in-Some.event (subst (λ (xs : List ℕ). has xs c.in-Some.event ≡ true) (sym c.in-Some.ensures.steps) (has_first c.in-Some.event c.next.new.self))

pub loop-event-preserved : goal.loop-event-preserved
loop-event-preserved c = record {
  count = c.in_ok-add_arc.ensures.count ∙ c.loop-event.invariant.count;
  within = λ x listed. c.loop-event.invariant.within x (subst (λ (xs : List ℕ). has xs x ≡ true) (sym c.in-Some.ensures.steps) (or_right (nat_eq c.in-Some.event x) (has c.next.new.self x) listed));
  arcs = λ j m. one_more_test (has_arc c.loop-event.rows j m) (nat_eq c.resource_end-from.result j) (nat_eq (resource_of c.args.setting.now c.in-Some.event) m) (list_any (λ x. nat_eq (resource_of c.args.setting.now x) m) c.next.new.self) _ (has_arc c.add_arc.new.rows j m) (c.in_ok-add_arc.ensures.arcs j m)
      (subst (λ (xs : List ℕ). (has_arc c.loop-event.rows j m || (nat_eq c.resource_end-from.result j && list_any (λ x. nat_eq (resource_of c.args.setting.now x) m) xs)) ≡ (has_arc c.args.rows.now j m || (nat_eq c.resource_end-from.result j && list_any (λ x. nat_eq (resource_of c.args.setting.now x) m) c.args.held.now))) c.in-Some.ensures.steps (c.loop-event.invariant.arcs j m));
}
