use Rattle.tau_order.proofs.Prelude.{ℕ, length, rules, subst, Tells, SilentStep, RawStep, HasArc, AreHeights, IsLeastCircle, tells_weaker, same_heights, same_least_circle, same_no_circle, AreSilentRows}
use Rattle.tau_order.proofs.SilentWalks.{step_of, arc_of}
use Rattle.tau_order.proofs.silent_runs.heights.Goals as goal

pub returns-clause-heights : goal.returns-clause-heights
returns-clause-heights c =
    let raw = c.args.table.now in
    let rows : AreSilentRows raw c.in_ok-rows.rows = c.in_ok-rows.ensures in
    subst (λ (n : ℕ). AreHeights (SilentStep (RawStep raw)) n c.in_ok-found.found) rows.size
    (same_heights (HasArc c.in_ok-rows.rows) (SilentStep (RawStep raw)) (step_of raw c.in_ok-rows.rows rows) (arc_of raw c.in_ok-rows.rows rows) (length c.in_ok-rows.rows) c.in_ok-found.found c.in_ok-found.ensures.heights)

pub returns-clause-no_circle : goal.returns-clause-no_circle
returns-clause-no_circle c =
    let raw = c.args.table.now in
    let rows : AreSilentRows raw c.in_ok-rows.rows = c.in_ok-rows.ensures in
    same_no_circle (HasArc c.in_ok-rows.rows) (SilentStep (RawStep raw)) (arc_of raw c.in_ok-rows.rows rows) c.in_ok-found.ensures.no_circle

pub returns-in_err-found-clause-circle : goal.returns-in_err-found-clause-circle
returns-in_err-found-clause-circle c =
    let raw = c.args.table.now in
    let told : Tells (IsLeastCircle (SilentStep (RawStep raw))) c.in_err-found.field-0.0 = tells_weaker _ _ (same_least_circle (HasArc c.in_ok-rows.rows) (SilentStep (RawStep raw)) (step_of raw c.in_ok-rows.rows c.in_ok-rows.ensures)) _ c.in_err-found.ensures.circle in
    search rules
