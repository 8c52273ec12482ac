use Rattle.client_server_conditions.proofs.Prelude.{Some, None, subst, IfOk-weaker, Keeps, KeepsLinks, KeepsWhole, Decides}
use Rattle.client_server_conditions.proofs.Deciding.{keeps_whole, decided_links}
use Rattle.client_server_conditions.proofs.duty.Duty.failing_run.Goals as goal

pub returns-in-Some : goal.returns-in-Some
returns-in-Some c =
    let whole : Decides c.args.self.now KeepsWhole (Some c.in-Some.trace) = subst (Decides c.args.self.now KeepsWhole) c.in-Some.is c.in_ok-run.ensures in
    (whole.0, λ keeps. whole.1 (keeps_whole c.args.self.now.network.now c.args.self.now.part c.in-Some.trace c.args.self.now.condition keeps))

pub returns-in-None : goal.returns-in-None
returns-in-None c =
    let whole : Decides c.args.self.now KeepsWhole None = subst (Decides c.args.self.now KeepsWhole) c.in-None.is c.in_ok-run.ensures in
    IfOk-weaker c.links_run.result (Decides c.args.self.now KeepsLinks) (Decides c.args.self.now Keeps)
    (λ run links. decided_links c.args.self.now.network.now c.args.self.now.condition c.args.self.now.part run whole links) c.links_run.ensures
