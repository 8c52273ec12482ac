use Rattle.csp_steps.proofs.Prelude.{◌<◌, List, length, subst, arith, AreAdded, StepTo, IfOk-weaker}
use Rattle.csp_steps.proofs.Doubles.{once_of}
use Rattle.csp_steps.proofs.Firsts.{firsts_few}
use Rattle.csp_steps.proofs.once.drop_repeats.Goals as goal

pub returns-then-len-lt2 : goal.returns-then-len-lt2
returns-then-len-lt2 c =
    let few : length c.args.steps < 2 = omega (arith, c.len.ensures, c.if-len-lt2.true) in
    firsts_few c.args.steps few

pub returns : goal.returns
returns c =
    IfOk-weaker c.numbered_steps.result _ _
    (λ made is. once_of c.new-numbered.result c.args.steps c.add_each.new.numbered made c.new-numbered.ensures
    (subst (λ (xs : List StepTo). AreAdded c.new-numbered.result xs c.add_each.new.numbered) c.as_slice.ensures c.in_ok-add_each.ensures) is)
    c.numbered_steps.ensures
