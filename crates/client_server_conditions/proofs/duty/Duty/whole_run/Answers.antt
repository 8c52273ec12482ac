use Rattle.client_server_conditions.proofs.Prelude.{sym, subst, IfOk, IsDecided, KeepsWhole}
use Rattle.client_server_conditions.proofs.duty.Duty.whole_run.Goals as goal

pub returns-in-Service : goal.returns-in-Service
returns-in-Service c = subst (λ k. IfOk c.split_run.result (λ run. IsDecided c.args.self.now.network.now.shape c.args.self.now.part (KeepsWhole c.args.self.now.network.now k c.args.self.now.part) run)) (sym c.in-Service.is) c.split_run.ensures
