use Rattle.client_server_conditions.proofs.Prelude.{◌≤◌, ℕ, Some, subst, get_or, length, arith, KeepsOn, Decides, end_here}
use Rattle.client_server_conditions.proofs.Reading.{end_listed}
use Rattle.client_server_conditions.proofs.duty.Duty.links_run.Goals as goal

pub link_run-requires-clause-link : goal.link_run-requires-clause-link
link_run-requires-clause-link c = (end_here c.args.self.now.network.now.shape c.args.self.now.part c.links-link-items.result.now c.loop-link.link-index c.links-link-items.ensures c.loop-link-test.true).0

pub link_run-requires-clause-end : goal.link_run-requires-clause-end
link_run-requires-clause-end c = (end_here c.args.self.now.network.now.shape c.args.self.now.part c.links-link-items.result.now c.loop-link.link-index c.links-link-items.ensures c.loop-link-test.true).1

pub returns-in-Some : goal.returns-in-Some
returns-in-Some c =
    let e = end_here c.args.self.now.network.now.shape c.args.self.now.part c.links-link-items.result.now c.loop-link.link-index c.links-link-items.ensures c.loop-link-test.true in
    let broken : Decides c.args.self.now (λ network condition i. KeepsOn network condition i (get_or c.links-link-items.result.now c.loop-link.link-index 0)) (Some c.in-Some.trace)
    = subst (Decides c.args.self.now (λ network condition i. KeepsOn network condition i (get_or c.links-link-items.result.now c.loop-link.link-index 0))) c.in-Some.is c.in_ok-run.ensures in
    (broken.0, λ keeps. broken.1 (keeps (get_or c.links-link-items.result.now c.loop-link.link-index 0) e.0 e.1))

pub returns : goal.returns
returns c s ran l h end runs =
    let p = end_listed c.args.self.now.network.now.shape c.args.self.now.part l c.links-link-items.result.now c.links-link-items.ensures h end in
    let last : length c.links-link-items.result.now ≤ c.loop-link.link-index = c.loop-link-test.false in
    subst (λ (m : ℕ). KeepsOn c.args.self.now.network.now c.args.self.now.condition c.args.self.now.part m s) p.2 (c.loop-link.invariant p.0 s (omega (arith, p.1)) ran) runs
