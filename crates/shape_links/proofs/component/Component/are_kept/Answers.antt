use Rattle.shape_links.proofs.Prelude.{◌≡◌, ◌<◌, ◌≤◌, ◌∙◌, [], length, sym, arith, get_or_read, part_form, table_of}
use Rattle.shape_links.proofs.OddLinks.{odd_after}
use Rattle.shape_links.proofs.component.Component.are_kept.Goals as goal

pub returns : goal.returns
returns c _ =
    let w = c.shape-form.ensures.form in
    let last : length c.args.odd.now ≤ c.loop-node.node = c.loop-node-test.false in
    let count : length c.args.odd.now ≡ length (table_of c.args.self.now) = c.requires in
    let least : 1 ≤ length (table_of c.args.self.now) = (part_form c.args.self.now.shape.now.parts c.args.self.now.number c.args.self.now.within w.form).least in
    let some : 0 < length c.args.odd.now = omega arith in
    odd_after c.args.self.now w c.args.watched.now c.args.odd.now count
    (sym (get_or_read c.args.odd.now 0 c.index-odd-0.result some c.index-odd-0.is []) ∙ c.is_empty.ensures.0 c.if-not-is_empty.false)
    (λ n e h possible. c.loop-node.invariant n e (omega arith) possible)
