use Rattle.client_server_conditions.proofs.Prelude.{◌∙◌, ap, IfOk-weaker, RoleSets}
use Rattle.client_server_conditions.proofs.Deciding.{decided_whole}
use Rattle.client_server_conditions.proofs.duty.Duty.split_run.Goals as goal

pub returns : goal.returns
returns c = IfOk-weaker c.failing_run.result _ _
    (λ run. decided_whole c.args.self.now.network.now c.args.self.now.part run c.component-component.result.shape.now c.component-component.result.number c.sreq.result.now c.component-component.ensures.shape c.component-component.ensures.number (c.sreq.ensures ∙ ap (λ (r : RoleSets). r.sreq) c.roles.ensures))
    c.failing_run.ensures
