use Rattle.std.proofs.lemmas.Result.{IfOk-weaker}
use Rattle.dl_top.proofs.Promising.{keeps_job, of_job, text_free, text_passes, text_runs, text_stuck}
use Rattle.dl_top.proofs.judge.judge.Goals as goal

pub returns-clause-free : goal.returns-clause-free
returns-clause-free c = of_job c.args.text.now c.args.job.now c.answer_text.result _ c.answer_text.ensures (λ a is rule same. text_free c.args.text.now rule a (is _ same))

pub returns-clause-promised : goal.returns-clause-promised
returns-clause-promised c = IfOk-weaker c.answer_text.result _ _ (λ a calls zero. keeps_job c.args.job.now c.args.text.now a calls zero) c.answer_text.ensures

pub returns-clause-complete : goal.returns-clause-complete
returns-clause-complete c = IfOk-weaker c.answer_text.result _ _ (λ a calls passing. text_passes c.args.job.now c.args.text.now a passing calls) c.answer_text.ensures

pub returns-clause-runs : goal.returns-clause-runs
returns-clause-runs c = of_job c.args.text.now c.args.job.now c.answer_text.result _ c.answer_text.ensures (λ a is seed steps same tables. text_runs c.args.text.now seed steps a tables (is _ same))

pub returns-clause-stuck : goal.returns-clause-stuck
returns-clause-stuck c = of_job c.args.text.now c.args.job.now c.answer_text.result _ c.answer_text.ensures (λ a is seed steps same. text_stuck c.args.text.now seed steps a (is _ same))
