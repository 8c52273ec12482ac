use Rattle.client_server_rule.proofs.Prelude.{◌∙◌, ℕ, length, sym, subst, HasArc, IsLeastCircle, AreHeights, same_heights, same_no_circle, same_least_circle, Serves, BreaksClientServer}
use Rattle.client_server_rule.proofs.arcs.heights.Goals as goal

pub returns-in-Ok-clause-heights : goal.returns-in-Ok-clause-heights
returns-in-Ok-clause-heights c =
    let arcs = Serves c.args.network.now.shape c.args.network.now.roles in
    subst (λ (n : ℕ). AreHeights arcs n c.in-Ok.heights) c.in_ok-rows.ensures.count
    (same_heights (HasArc c.in_ok-rows.rows) arcs c.in_ok-rows.ensures.sound c.in_ok-rows.ensures.complete (length c.in_ok-rows.rows) c.in-Ok.heights c.in-Ok.ensures.heights)

pub returns-in-Ok-clause-no_circle : goal.returns-in-Ok-clause-no_circle
returns-in-Ok-clause-no_circle c = same_no_circle (HasArc c.in_ok-rows.rows) (Serves c.args.network.now.shape c.args.network.now.roles) c.in_ok-rows.ensures.complete c.in-Ok.ensures.no_circle

pub returns-in-Err-Told-clause-fault : goal.returns-in-Err-Told-clause-fault
returns-in-Err-Told-clause-fault c =
    let serves = Serves c.args.network.now.shape c.args.network.now.roles in
    let it = rw c.in-Err-Told.field-0-is at c.in-Err-Told.ensures.circle in
    record {
      keep_roles = c.requires;
      circle = subst (IsLeastCircle serves) (sym (c.in_ok-clients-in-Err-Told.ensures ∙ c.members.ensures)) (same_least_circle (HasArc c.in_ok-rows.rows) serves c.in_ok-rows.ensures.sound c.in-Err-Told.circle it);
    }
