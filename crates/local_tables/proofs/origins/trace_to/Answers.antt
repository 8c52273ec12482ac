use Rattle.local_tables.proofs.Prelude.{◌≡◌, ◌-◌, ◌<◌, ◌≤◌, ℕ, List, [], ◌++◌, Some, length, sym, ap, subst, ◌∙◌, arith, reverse, slice_get, slice_index_or, get_or_default, slice_get-get_or, LeadsToTerm, Origin, step_events}
use Rattle.local_tables.proofs.Walking.{back_one, leads_nowhere}
use Rattle.local_tables.proofs.origins.trace_to.Goals as goal

pub loop-at-preserved : goal.loop-at-preserved
loop-at-preserved c =
    let origins = c.args.origins.now in
    let o : Origin = slice_index_or c.args.origins.now (c.loop-at.at - 1) c.index-origins-at.result in
    let inside : c.loop-at.at ≤ length c.args.origins.now = c.loop-at.invariant.within in
    let some : 0 < c.loop-at.at = c.loop-at-test.true in
    let is : slice_get c.args.origins.now (c.loop-at.at - 1) ≡ Some (slice_index_or c.args.origins.now (c.loop-at.at - 1) c.index-origins-at.result) = slice_get-get_or origins (c.loop-at.at - 1) c.index-origins-at.result (omega arith) in
    let earlier : (slice_index_or c.args.origins.now (c.loop-at.at - 1) c.index-origins-at.result).0 ≤ c.loop-at.at - 1 = c.requires.earlier (c.loop-at.at - 1) o is in
    record {
      within = omega arith;
      leads = λ task terms led s l.
          subst (λ (zs : List ℕ). LeadsToTerm task terms (s ++ reverse zs) c.args.number) (sym (c.in_ok-push_event.ensures ∙ ap (λ (z : Origin). c.loop-at.events.items ++ step_events z.1) (get_or_default origins (c.loop-at.at - 1) c.index-origins-at-in-loop-at.result c.index-origins-at.result (omega arith))))
          (back_one task terms origins led c.loop-at.at o c.loop-at.events.items c.args.number some is (c.loop-at.invariant.leads task terms led) s l);
    }

pub returns : goal.returns
returns c = λ task terms led.
    let none : c.loop-at.at ≡ 0 = omega arith in
    let all = c.loop-at.invariant.leads task terms led [] (subst (λ k. LeadsToTerm task terms [] k) (sym none) (leads_nowhere task terms c.args.origins.now led)) in
    subst (λ zs. LeadsToTerm task terms zs c.args.number) (sym (c.in_ok-trace.ensures ∙ c.as_slice.ensures.value ∙ c.reverse.ensures.items)) all
