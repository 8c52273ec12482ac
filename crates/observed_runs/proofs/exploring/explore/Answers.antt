use Rattle.observed_runs.proofs.Prelude.{◌≡◌, ◌<◌, length, subst, arith, inl, inr, cases_lt, AreFollowed}
use Rattle.observed_runs.proofs.Finding.{is_exploration}
use Rattle.observed_runs.proofs.Growing.{followed_still}
use Rattle.observed_runs.proofs.exploring.explore.Goals as goal

pub loop-place-preserved : goal.loop-place-preserved
loop-place-preserved g c =
    let table = c.args.part.now.table in
    let step = g.O.Observer.step c.args.observer.now in
    let place = c.loop-place.place in
    let old = c.loop-place.found.pairs in
    let new = c.follow.new.found.pairs in
    let grows = c.in_ok-follow.ensures.grows in
    let here : c.loop-place.place < length c.loop-place.found.pairs = omega (arith, c.len.ensures.count, c.loop-place-test.true) in
    record {
      explored = c.in_ok-follow.ensures.explored;
      followed = λ k h. elim (cases_lt k place) as (λ _. AreFollowed table step new k) [
        | inl earlier ↦ followed_still table step old new k grows (omega arith) (c.loop-place.invariant.followed k earlier)
        | inr now ↦ let same : c.loop-place.place ≡ k = omega arith in subst (AreFollowed table step new) same c.in_ok-follow.ensures.followed
      ];
      within = let less : c.loop-place.place < length c.follow.new.found.pairs = (grows place here).0 in omega arith;
    }

pub returns-clause-pairs : goal.returns-clause-pairs
returns-clause-pairs g c =
    let i = c.loop-place.invariant in
    is_exploration c.args.part.now.table (g.O.Observer.step c.args.observer.now) 0 c.loop-place.found i.explored.origins i.explored.found_are
    (λ k h. i.followed k (omega (arith, c.len.ensures.count, c.loop-place-test.false))) c.len.ensures.distinct
