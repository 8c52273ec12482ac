use Rattle.std.proofs.Common.{arith, rules}
use Rattle.digraph.proofs.Arcs.{InRange-either}
use Rattle.digraph.proofs.rows.Rows.add_arc.Goals as goal

pub invariant_of-self : goal.invariant_of-self
invariant_of-self c =
    let p = c.push_target.ensures in
    (omega arith, InRange-either c.push_target.result _ _ c.args.from c.args.to (search rules) (search rules) c.self.invariant.1 p.ok p.err)
