use Rattle.digraph.proofs.Prelude.{ℕ, List, length, rules, Tells, All, AreHeights, HasArc, IsLeastCircle, IsLongestWalk, get_or_default}
use Rattle.digraph.proofs.Results.{tells_weaker}
use Rattle.digraph.proofs.WalkLaws.{no_longest}
use Rattle.digraph.proofs.HeightLaws.{heights_fall, heights_step, heights_at_sinks, no_heights}
use Rattle.digraph.proofs.walks.longest_walks.Goals as goal

pub returns-in_err-heights-clause-unbounded : goal.returns-in_err-heights-clause-unbounded
returns-in_err-heights-clause-unbounded c =
    let told : Tells (All (λ v. (n : ℕ) → ¬ IsLongestWalk (HasArc c.args.rows.now) v n)) c.in_err-heights.field-0.0 = tells_weaker (IsLeastCircle (HasArc c.args.rows.now)) (All (λ v. (n : ℕ) → ¬ IsLongestWalk (HasArc c.args.rows.now) v n)) (λ vs least k d h n high. no_longest (HasArc c.args.rows.now) vs least.circle k n h (rw (get_or_default vs k d 0 h) at high)) _ c.in_err-heights.ensures.circle in
    search rules

pub returns-in_err-heights-clause-no_heights : goal.returns-in_err-heights-clause-no_heights
returns-in_err-heights-clause-no_heights c =
    let told : Tells (λ _. (heights : List ℕ) → ¬ AreHeights (HasArc c.args.rows.now) (length c.args.rows.now) heights) c.in_err-heights.field-0.0 = tells_weaker _ _ (λ vs least. no_heights c.args.rows.now vs least.circle) _ c.in_err-heights.ensures.circle in
    search rules

pub returns-clause-no_circle : goal.returns-clause-no_circle
returns-clause-no_circle c vs circle = no_heights _ vs circle _ c.in_ok-heights.ensures.heights

pub returns-clause-falls : goal.returns-clause-falls
returns-clause-falls c = heights_fall _ _ c.in_ok-heights.ensures.in_range c.in_ok-heights.ensures.heights

pub returns-clause-steps : goal.returns-clause-steps
returns-clause-steps c = heights_step _ _ c.in_ok-heights.ensures.in_range c.in_ok-heights.ensures.heights

pub returns-clause-sinks : goal.returns-clause-sinks
returns-clause-sinks c = heights_at_sinks _ _ c.in_ok-heights.ensures.in_range c.in_ok-heights.ensures.heights
