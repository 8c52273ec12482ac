use Rattle.std.proofs.Common.{arith}
use Rattle.numbered_walks.proofs.Counting.{at_most}
use Rattle.numbered_walks.proofs.marks.CountedMarks.count.Goals as goal

pub returns-clause-few : goal.returns-clause-few
returns-clause-few c =
    let most = at_most c.self.inside.marks.items in
    let is = c.self.invariant.1 in
    omega (arith, most, is, c.self.inside.marks.ok.0, c.self.inside.marks.ok.1, c.self.inside.marks.small)
