use Rattle.shape_links.proofs.Prelude.{◌≡◌, ◌-◌, ◌∙◌, ◌++◌, List, ℕ, length, drop, take, ap, reverse}
use Rattle.shape_links.proofs.Circles.{turned_by}
use Rattle.shape_links.proofs.circle.turn_circle.Goals as goal

pub returns : goal.returns
returns c =
    let last = c.len-last.result - 1 in
    let same = c.in_ok-vertices.ensures.items in
    let count : c.len-last.result - 1 ≡ length c.args.circle.now - 1 = ap (λ n. n - 1) (c.len-last.ensures ∙ c.in_ok-vertices.ensures.len) in
    let e = ap reverse same in
    c.from_vec.ensures ∙ (c.rotate_left.ensures.items ∙ (ap (λ (xs : List ℕ). drop last xs ++ take last xs) (c.reverse.ensures.items ∙ e) ∙ turned_by c.args.circle.now last c.requires count))
