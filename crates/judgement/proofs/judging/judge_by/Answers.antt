use Rattle.judgement.proofs.Prelude.{◌∙◌, rules, subst, Network, StaysBusy, exits, goes_on, IsJudged, RuleDecides, Answers}
use Rattle.judgement.proofs.judging.judge_by.Goals as goal

pub returns-in_err-tabled : goal.returns-in_err-tabled
unfolding IsJudged
returns-in_err-tabled c = search (rules, exits)

pub returns-in_err-parted : goal.returns-in_err-parted
unfolding IsJudged
returns-in_err-parted c = goes_on _ _ _ _ _ c.in_ok-tabled.ensures.tables _ (search (rules, exits))

pub returns-in_err-shaped : goal.returns-in_err-shaped
unfolding IsJudged
returns-in_err-shaped c = goes_on _ _ _ _ _ c.in_ok-tabled.ensures.tables _ (goes_on _ _ _ _ c.in_ok-parted.parted.parts (search rules) _ (search (rules, exits)))

pub returns-in_err-check_busy : goal.returns-in_err-check_busy
unfolding IsJudged
returns-in_err-check_busy c =
    goes_on _ _ _ _ _ c.in_ok-tabled.ensures.tables _ (goes_on _ _ _ _ c.in_ok-parted.parted.parts (search rules) _ (goes_on _ _ _ _ c.in_ok-shaped.shaped.shape (search rules) _
    (search (rules, exits))))

pub returns : goal.returns
unfolding IsJudged
returns c =
    let same = c.in_ok-shaped.ensures.network ∙ c.in_ok-parted.ensures.network ∙ c.in_ok-tabled.ensures.network in
    goes_on _ _ _ _ _ c.in_ok-tabled.ensures.tables _ (goes_on _ _ _ _ c.in_ok-parted.parted.parts (search rules) _ (goes_on _ _ _ _ c.in_ok-shaped.shaped.shape (search rules) _
    (goes_on _ _ _ _ tt (subst StaysBusy same c.in_ok-check_busy.ensures.busy) _
    (subst (λ (n : Network). Answers (RuleDecides n c.args.rule c.in_ok-shaped.shaped.shape) c.apply_rule.result) same c.apply_rule.ensures))))
