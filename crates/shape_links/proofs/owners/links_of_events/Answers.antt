use Rattle.shape_links.proofs.Prelude.{◌≡◌, ◌+◌, ◌<◌, ◌≤◌, ℕ, List, length, cond, sym, ap, subst, ◌∙◌, slice_index, has, Link, link_at}
use Rattle.shape_links.proofs.Links.{owners_more, all_owners, link_read}
use Rattle.shape_links.proofs.owners.links_of_events.Goals as goal

pub loop-l-preserved : goal.loop-l-preserved
loop-l-preserved c =
    let shape = c.args.shape.now in
    let items = c.links-link-items.result.now in
    let within : c.loop-l.l < length c.args.shape.now.links = subst (λ (ls : List Link). c.loop-l.l < length ls) c.links-link-items.ensures.value c.loop-l-test.true in
    let is = link_read shape items c.loop-l.l c.link-item.result c.links-link-items.ensures.value c.loop-l-test.true c.link-item.is in
    let shared : c.shared.result.now ≡ (link_at c.args.shape.now c.loop-l.l).shared = c.shared.ensures ∙ sym (ap (λ (k : Link). k.shared) is) in
    owners_more shape c.loop-l.l c.loop-l.owners.items c.set_owners.new.owners.items c.requires.form c.requires.apart within c.loop-l.invariant
    (λ e. c.in_ok-set_owners.ensures e ∙ ap (λ (xs : List ℕ). cond (has xs e) (c.loop-l.l + 1) (slice_index c.loop-l.owners.items e)) shared)

pub returns : goal.returns
returns c =
    let all : length c.args.shape.now.links ≤ c.loop-l.l = subst (λ (ls : List Link). length ls ≤ c.loop-l.l) c.links-link-items.ensures.value c.loop-l-test.false in
    all_owners c.args.shape.now c.loop-l.l c.loop-l.owners.items all c.loop-l.invariant
