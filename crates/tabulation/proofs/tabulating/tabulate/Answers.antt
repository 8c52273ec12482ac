use Rattle.tabulation.proofs.Prelude.{rules, at_refusal, at_want, goes_on, passed, IsTabulated}
use Rattle.tabulation.proofs.tabulating.tabulate.Goals as goal

pub returns-in_err-chosen : goal.returns-in_err-chosen
unfolding IsTabulated
returns-in_err-chosen c = search (rules, at_refusal, at_want)

pub returns-in_err-part : goal.returns-in_err-part
unfolding IsTabulated
returns-in_err-part c = goes_on _ _ _ _ _ c.in_ok-chosen.ensures.there _ (search (rules, at_refusal, at_want))

pub returns : goal.returns
unfolding IsTabulated
returns c = passed c.in_ok-chosen.chosen.component c.in_ok-chosen.ensures.there (passed c.in_ok-part.part (search rules) (search rules))
