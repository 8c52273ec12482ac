use Rattle.network_stages.proofs.Prelude.{subst, sym, IfErr-weaker, IsWellFormed, IsShapeOf, shapes_are_well_formed, ProcessStep}
use Rattle.network_stages.proofs.TrueStops.{can_stop, stays_busy}
use Rattle.network_stages.proofs.busy.check_busy.Goals as goal

pub busy-requires : goal.busy-requires
busy-requires c =
    let network = c.args.shaped.now.network in
    subst IsWellFormed (sym c.shape.ensures.shape) (shapes_are_well_formed (ProcessStep network.program) network.tree c.args.shaped.now.shape c.shape.ensures.apart.is)

pub returns-clause-busy : goal.returns-clause-busy
returns-clause-busy c =
    let network = c.args.shaped.now.network in
    stays_busy network c.shape.result.now c.busy.result (subst (IsShapeOf (ProcessStep network.program) network.tree) (sym c.shape.ensures.shape) c.shape.ensures.apart.is) c.busy.ensures.busy

pub returns-clause-told : goal.returns-clause-told
returns-clause-told c =
    let network = c.args.shaped.now.network in
    IfErr-weaker c.busy.result _ _
    (λ s. can_stop network c.shape.result.now s (subst (IsShapeOf (ProcessStep network.program) network.tree) (sym c.shape.ensures.shape) c.shape.ensures.apart.is)) c.busy.ensures.told
