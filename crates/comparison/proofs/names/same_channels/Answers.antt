use Rattle.std.proofs.Common.{arith}
use Rattle.comparison.proofs.Naming.{all_alike, one_more_alike}
use Rattle.comparison.proofs.names.same_channels.Goals as goal

pub loop-place-preserved : goal.loop-place-preserved
loop-place-preserved c =
    one_more_alike c.args.channels.now c.args.others.now c.loop-place.place c.index-channels-place.result c.index-others-place.result c.loop-place-test.true
    (omega (arith, c.loop-place-test.true, c.if-channels-others.false)) c.if-not-same_name.ensures c.loop-place.invariant

pub returns : goal.returns
returns c h =
    all_alike c.args.channels.now c.args.others.now c.loop-place.place (omega (arith, c.loop-place-test.false)) (omega (arith, c.loop-place-test.false, c.if-channels-others.false)) c.loop-place.invariant
