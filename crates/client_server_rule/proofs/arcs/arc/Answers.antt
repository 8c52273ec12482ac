use Rattle.client_server_rule.proofs.Prelude.{◌<◌, ◌∙◌, ℕ, ap, subst, sym, length, arith, Link, Shape, link_at, has_arc, Asks, Grants}
use Rattle.client_server_rule.proofs.Serving.{left_serves, right_serves, arc_there}
use Rattle.client_server_rule.proofs.arcs.arc.Goals as goal

pub returns-then-asks-clause-complete : goal.returns-then-asks-clause-complete
returns-then-asks-clause-complete c i j s =
    let network = c.args.network.now in
    let ends = c.link-ends.ensures ∙ ap (λ (x : Shape). link_at x c.args.link) c.sorted_shape.ensures in
    let left = c.left-left.ensures.value ∙ ap (λ (k : Link). k.left) ends in
    let right = c.right-right.ensures.value ∙ ap (λ (k : Link). k.right) ends in
    let joins = c.shape-linked.ensures.linked.form.linked.links c.args.link c.requires.link in
    let order : (link_at c.args.network.now.shape c.args.link).left < (link_at c.args.network.now.shape c.args.link).right = joins.ordered in
    let within : (link_at c.args.network.now.shape c.args.link).right < length c.args.network.now.shape.parts = joins.within in
    let e = left_serves network c.args.link i j c.shape-linked.ensures.linked (omega arith) (subst (λ (p : ℕ). Asks c.args.network.now p c.args.link) left (c.asks.ensures.client c.if-asks.true)) s in
    arc_there (has_arc c.args.rows.now i j) (has_arc c.add_arc.new.self i j) i j c.left-left.result c.right-right.result (c.in_ok-add_arc.ensures.arcs i j) (e.0 ∙ sym left) (e.1 ∙ sym right)

pub returns-clause-complete : goal.returns-clause-complete
returns-clause-complete c i j s =
    let network = c.args.network.now in
    let ends = c.link-ends.ensures ∙ ap (λ (x : Shape). link_at x c.args.link) c.sorted_shape.ensures in
    let left = c.left-left.ensures.value ∙ ap (λ (k : Link). k.left) ends in
    let right = c.right-right.ensures.value ∙ ap (λ (k : Link). k.right) ends in
    let joins = c.shape-linked.ensures.linked.form.linked.links c.args.link c.requires.link in
    let order : (link_at c.args.network.now.shape c.args.link).left < (link_at c.args.network.now.shape c.args.link).right = joins.ordered in
    let within : (link_at c.args.network.now.shape c.args.link).right < length c.args.network.now.shape.parts = joins.within in
    let e = right_serves network c.args.link i j c.shape-linked.ensures.linked (omega arith) (subst (λ (p : ℕ). Grants c.args.network.now p c.args.link) left (c.asks.ensures.server c.if-asks.false)) s in
    arc_there (has_arc c.args.rows.now i j) (has_arc c.add_arc-2.new.self i j) i j c.right-right.result c.left-left.result (c.in_ok-add_arc-2.ensures.arcs i j) (e.0 ∙ sym right) (e.1 ∙ sym left)
