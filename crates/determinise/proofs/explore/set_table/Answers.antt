use Rattle.determinise.proofs.Prelude.{◌+◌, ◌<◌, length, sym, subst, rules, arith, All, RawStep, IsBreadthFirst, HasAcceptances, IsRisingNode, Determinised, FollowsTraces, AreDifferentSets, ReachesSets, Tells, MOST_SETS}
use Rattle.determinise.proofs.Runs.{follows, different, accepts, in_order, breadth_first}
use Rattle.determinise.proofs.Counting.{many_told, no_more_sets}
use Rattle.determinise.proofs.explore.set_table.Goals as goal

pub returns-clause-traces : goal.returns-clause-traces
returns-clause-traces c =
    let found = c.in_ok-nodes.ensures in
    subst (FollowsTraces (RawStep c.args.table.now) 0) (sym c.new.ensures) (follows _ _ _ found.nodes found.all found.reached)

pub returns-clause-sets : goal.returns-clause-sets
returns-clause-sets c =
    let found = c.in_ok-nodes.ensures in
    subst AreDifferentSets (sym c.new.ensures) (different _ _ _ found.nodes found.all found.reached)

pub returns-clause-acceptances : goal.returns-clause-acceptances
returns-clause-acceptances c =
    let found = c.in_ok-nodes.ensures in
    subst (λ (d : Determinised). HasAcceptances (RawStep c.args.table.now) 0 d.nodes) (sym c.new.ensures) (accepts _ _ _ found.nodes found.all found.reached)

pub returns-clause-in_order : goal.returns-clause-in_order
returns-clause-in_order c =
    let found = c.in_ok-nodes.ensures in
    subst (λ (d : Determinised). All IsRisingNode d.nodes) (sym c.new.ensures) (in_order _ _ _ found.nodes found.all)

pub returns-clause-breadth_first : goal.returns-clause-breadth_first
returns-clause-breadth_first c =
    let found = c.in_ok-nodes.ensures in
    subst (λ (d : Determinised). IsBreadthFirst d.nodes) (sym c.new.ensures) (breadth_first _ _ _ found.nodes found.all)

pub returns-clause-within_limit : goal.returns-clause-within_limit
returns-clause-within_limit c many =
    let found = c.in_ok-nodes.ensures in
    let few : length c.in_ok-nodes.nodes.items < MOST_SETS + 1 = omega (arith, found.all, found.few) in
    no_more_sets _ _ _ _ found.nodes found.all found.reached few many

pub returns-in_err-nodes-clause-limit : goal.returns-in_err-nodes-clause-limit
returns-in_err-nodes-clause-limit c =
    let told : Tells (λ _. ReachesSets (RawStep c.args.table.now) 0 (MOST_SETS + 1)) c.in_err-nodes.field-0.0 = many_told _ _ c.in_err-nodes.ensures.reached _ c.in_err-nodes.ensures.limit in
    search rules
