use Rattle.resource_rule.proofs.Prelude.{◌∙◌, ◌||◌, ℕ, List, ap, get_or, nat_eq, sym, take, list_any_more, or_comm, has, has-with_member}
use Rattle.resource_rule.proofs.nodes.link_set.Goals as goal

pub loop-link-preserved : goal.loop-link-preserved
loop-link-preserved c x =
    let links = c.args.links.now in
    let i = c.loop-link.link-index in
    let here = get_or c.args.links.now c.loop-link.link-index 0 in
    ap (λ (xs : List ℕ). has xs x) c.in_ok-insert.ensures.ok ∙ has-with_member here c.loop-link.made x ∙ ap (λ b. nat_eq (get_or c.args.links.now c.loop-link.link-index 0) x || b) (c.loop-link.invariant x)
    ∙ or_comm (nat_eq here x) (has (take i links) x) ∙ sym (list_any_more (λ y. nat_eq y x) links i 0 c.loop-link-test.true)
