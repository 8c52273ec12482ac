use Rattle.digraph.proofs.Prelude.{◌≡◌, ◌∷◌, ◌++◌, [], length, set, rules, with_item, Open, targets_of}
use Rattle.digraph.proofs.Stepping.{entered, less_entering, step_of}
use Rattle.digraph.proofs.walks.Search.enter.Goals as goal

pub returns : goal.returns
returns c =
    let r = c.requires in
    let marks : (with_item c.args.self.now.marks c.args.w (Open (length c.targets.result.now) 0)).items ≡ set c.args.self.now.marks.items c.args.w (Open (length (targets_of c.args.rows.now c.args.w)) 0) = search rules in
    let trail : c.push.new.self.items ≡ c.args.self.now.trail.items ++ c.args.w ∷ [] = search rules in
    step_of _ _ _ _ _ marks trail (entered _ _ _ _ r.search _ r.vertex r.new r.follows) (less_entering _ _ _ _ r.search _ r.vertex r.new)
