use Rattle.std.proofs.Common.{◌≡◌, length, ap, ◌∙◌, arith}
use Rattle.definition_kinds.proofs.SizeLaws.{one_first_each}
use Rattle.definition_kinds.proofs.kinds.classes_among.Goals as goal

pub mark_leading-requires-clause-few : goal.mark_leading-requires-clause-few
mark_leading-requires-clause-few c =
    let same : length c.as_slice.result.now ≡ length c.args.all.now = ap length c.as_slice.ensures.value ∙ one_first_each c.args.all.now c.in_ok-firsts.firsts.items c.in_ok-firsts.ensures in
    omega (arith, c.requires)

pub mark_leading-requires-2-clause-few : goal.mark_leading-requires-2-clause-few
mark_leading-requires-2-clause-few c =
    let same : length c.as_slice-2.result.now ≡ length c.args.all.now = ap length c.as_slice-2.ensures.value ∙ one_first_each c.args.all.now c.in_ok-firsts.firsts.items c.in_ok-firsts.ensures in
    omega (arith, c.requires)
