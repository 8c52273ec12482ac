use Rattle.digraph.proofs.Prelude.{◌≡◌, ◌<◌, [], length, ◌∙◌, get_or_read, targets_of}
use Rattle.digraph.proofs.Arcs.{targets_below}
use Rattle.digraph.proofs.rows.Rows.targets.Goals as goal

pub returns-clause-in_range : goal.returns-clause-in_range
returns-clause-in_range c =
    let rows = c.self.inside.rows.items in
    let below : c.args.v < length rows = rw c.self.view_is c.requires in
    let is : c.as_slice.result.now ≡ targets_of rows c.args.v = c.as_slice.ensures ∙ get_or_read rows c.args.v c.index.result.now below c.index.ensures [] in
    rw (is, ← c.self.view_is) (targets_below rows c.args.v c.self.invariant.1)
