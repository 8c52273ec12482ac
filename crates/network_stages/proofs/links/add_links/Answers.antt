use Rattle.network_stages.proofs.Prelude.{◌≡◌, ◌∙◌, ℕ, ◌++◌, ◌∷◌, [], List, get_or, sym, ap, subst, get_or_default, Link, pair_at}
use Rattle.network_stages.proofs.Linking.{AreLinksTo, IsGroup, last_links, group_added}
use Rattle.network_stages.proofs.links.add_links.Goals as goal

pub loop-start-preserved : goal.loop-start-preserved
loop-start-preserved c parts is_row before =
    let row = c.args.row.now in
    let start = c.loop-start.start in
    let end = c.group_end-end.result in
    let links = c.loop-start.links.items in
    let so_far = c.loop-start.invariant parts is_row before in
    let is_group : IsGroup c.args.row.now c.loop-start.start c.group_end-end.result = record {
      some = c.group_end-end.ensures.some;
      within = c.group_end-end.ensures.within;
      same = c.group_end-end.ensures.same;
      other = c.group_end-end.ensures.other;
    } in
    let more = group_added parts c.args.left row is_row start end c.loop-start-test.true is_group c.in_ok-shared.shared c.in_ok-shared.ensures (λ k less. so_far.begins k less c.loop-start-test.true) links so_far in
    let read : get_or c.args.row.now c.loop-start.start c.index-row-start.result ≡ pair_at c.args.row.now c.loop-start.start = get_or_default row start c.index-row-start.result (0, 0) c.loop-start-test.true in
    let is_link = c.new.ensures ∙ ap (λ (p : ℕ × ℕ). let link : Link = record { left = c.args.left; right = p.0; shared = c.in_ok-shared.shared } in link) read in
    subst (λ (ks : List Link). AreLinksTo parts c.args.left c.args.row.now c.group_end-end.result ks) (sym (c.in_ok-push.ensures ∙ ap (λ (k : Link). c.loop-start.links.items ++ k ∷ []) is_link)) more

pub returns : goal.returns
returns c parts is_row before = last_links parts c.args.left c.args.row.now is_row c.loop-start.start c.loop-start.links.items c.loop-start-test.false (c.loop-start.invariant parts is_row before)
