use Rattle.std.proofs.Common.{◌≡◌, length, arith}
use Rattle.rule_rankings.proofs.ResourceRanking.{have_top, small_number, top_next}
use Rattle.rule_rankings.proofs.resource.top.Goals as goal

pub number_if-number-requires-clause-small : goal.number_if-number-requires-clause-small
number_if-number-requires-clause-small c = small_number c.args.heights.now (length c.args.setting.now.shape.parts) (omega arith) c.requires.below c.loop-part.part

pub loop-part-preserved : goal.loop-part-preserved
loop-part-preserved c =
    let x = top_next c.args.setting.now.uses c.args.heights.now c.loop-part.part c.loop-part.top c.number_if-number.result c.larger-top.result c.loop-part.invariant.is c.loop-part.invariant.few (small_number c.args.heights.now (length c.args.setting.now.shape.parts) (omega arith) c.requires.below c.loop-part.part) c.number_if-number.ensures c.larger-top.ensures in
    record { is = x.0; few = x.1 }

pub returns : goal.returns
returns c =
    let all : c.loop-part.part ≡ length c.args.setting.now.shape.parts = omega arith in
    have_top c.args.setting.now c.args.heights.now c.loop-part.part c.loop-part.top c.requires.count all c.loop-part.invariant.is c.loop-part.invariant.few (small_number c.args.heights.now (length c.args.setting.now.shape.parts) (omega arith) c.requires.below)
