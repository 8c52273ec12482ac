use Rattle.std.proofs.Common.{arith}
use Rattle.numbered_walks.proofs.Counting.{in_all, in_block, set_one}
use Rattle.numbered_walks.proofs.marks.CountedMarks.set.Goals as goal

pub changed_count-requires-clause-some : goal.changed_count-requires-clause-some
changed_count-requires-clause-some c =
    (in_block c.self.inside.marks.items c.self.inside.counts.items c.self.inside.total c.args.number c.self.invariant _ c.self.view_is c.requires c.index-old.result.now c.index-old.ensures c.index.result.now c.index.ensures).0

pub changed_count-requires-clause-room : goal.changed_count-requires-clause-room
changed_count-requires-clause-room c =
    let few = (in_block c.self.inside.marks.items c.self.inside.counts.items c.self.inside.total c.args.number c.self.invariant _ c.self.view_is c.requires c.index-old.result.now c.index-old.ensures c.index.result.now c.index.ensures).1 in
    omega (arith, few, c.self.inside.marks.ok.0, c.self.inside.marks.ok.1, c.self.inside.marks.small)

pub changed_count-self-inside-requires-clause-some : goal.changed_count-self-inside-requires-clause-some
changed_count-self-inside-requires-clause-some c =
    (in_all c.self.inside.marks.items c.self.inside.counts.items c.self.inside.total c.args.number c.self.invariant _ c.self.view_is c.requires c.index-old.result.now c.index-old.ensures).0

pub changed_count-self-inside-requires-clause-room : goal.changed_count-self-inside-requires-clause-room
changed_count-self-inside-requires-clause-room c =
    let few = (in_all c.self.inside.marks.items c.self.inside.counts.items c.self.inside.total c.args.number c.self.invariant _ c.self.view_is c.requires c.index-old.result.now c.index-old.ensures).1 in
    omega (arith, few, c.self.inside.marks.ok.0, c.self.inside.marks.ok.1, c.self.inside.marks.small)

pub invariant_of-self : goal.invariant_of-self
invariant_of-self c =
    set_one c.self.inside.marks.items c.self.inside.counts.items c.self.inside.total c.args.number c.self.invariant _ c.self.view_is c.requires c.index-old.result.now c.index-old.ensures c.args.mark c.index.result.now
    c.changed_count.result c.changed_count-self-inside.result c.index.ensures c.changed_count.ensures c.changed_count-self-inside.ensures
