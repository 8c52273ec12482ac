use Rattle.dl_top.proofs.Prelude.{List, [], ℕ, subst, ◌∙◌, arith, Check, Rule, TextsCallFor, TextCallsFor, trial_text}
use Rattle.command_words.specs.declared.request.Request.TheVariants as request
use Rattle.dl_top.proofs.Lengths.{trial_is_short}
use Rattle.dl_top.proofs.Walks.{at_short}
use Rattle.dl_top.proofs.load.answer_trial.Goals as goal

pub judge-requires : goal.judge-requires
judge-requires c = trial_is_short c.args.trial c.as_slice.result.now (c.as_slice.ensures ∙ c.in_ok-text.ensures) (omega arith)

pub returns-in_err-text : goal.returns-in_err-text
returns-in_err-text c = at_short (TextsCallFor (request.Trial c.args.trial) []) c.from_residual.result c.from_residual.ensures.1

pub returns-in_err-answer : goal.returns-in_err-answer
returns-in_err-answer c = at_short (TextsCallFor (request.Trial c.args.trial) []) c.from_residual-in_err-answer.result c.from_residual-in_err-answer.ensures.1

pub returns : goal.returns
returns c =
    let answer = c.in_ok-answer.answer in
    let read = subst (λ (t : List ℕ). TextCallsFor t (Check c.rule_of.result) answer) (c.as_slice.ensures ∙ c.in_ok-text.ensures) c.in_ok-answer.ensures.answer in
    subst (λ (r : Rule). TextCallsFor (trial_text c.args.trial) (Check r) answer) c.rule_of.ensures read
