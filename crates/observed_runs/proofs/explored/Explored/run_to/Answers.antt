use Rattle.observed_runs.proofs.Prelude.{◌≡◌, ◌<◌, ◌++◌, ◌∙◌, ℕ, List, [], length, arith, subst, sym, reverse, LeadsTo, pair_at}
use Rattle.observed_runs.proofs.Leading.{back_one, leads_nowhere}
use Rattle.observed_runs.proofs.Finding.{first_is}
use Rattle.observed_runs.proofs.explored.Explored.run_to.Goals as goal

pub loop-at-preserved : goal.loop-at-preserved
loop-at-preserved c =
    let pairs = c.args.self.now.pairs in
    let from = c.origin-earlier in
    let inside : c.loop-at.at < length c.args.self.now.pairs = c.loop-at.invariant.within in
    let earlier : c.origin-earlier.result.0 < c.loop-at.at = from.ensures.earlier in
    record {
      within = omega arith;
      leads = λ table step start f s l.
          subst (λ (zs : List ℕ). LeadsTo table step start (s ++ reverse zs) (pair_at pairs c.args.place)) (sym c.in_ok-push.ensures.items)
          (back_one table step start pairs c.loop-at.at from.result c.loop-at.events.items (pair_at pairs c.args.place) (from.ensures.leads table step start f) (c.loop-at.invariant.leads table step start f) s l);
    }

pub returns : goal.returns
returns c table step start f =
    let pairs = c.args.self.now.pairs in
    let none : c.loop-at.at ≡ 0 = omega arith in
    let all = c.loop-at.invariant.leads table step start f [] (subst (λ k. LeadsTo table step start [] (pair_at pairs k)) (sym none) (leads_nowhere table step start (pair_at pairs 0) (first_is table step start c.args.self.now f))) in
    subst (λ (zs : List ℕ). LeadsTo table step start zs (pair_at pairs c.args.place)) (sym c.as_slice.ensures.value ∙ sym c.in_ok-run.ensures)
    (subst (λ (zs : List ℕ). LeadsTo table step start zs (pair_at pairs c.args.place)) (sym c.reverse.ensures.items) all)
