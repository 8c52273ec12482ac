use Rattle.dl_top.proofs.Judging.{no_script_exit, spelled, unspelled}
use Rattle.dl_top.proofs.judge.spell.Goals as goal

pub returns-in_err-script-clause-told : goal.returns-in_err-script-clause-told
returns-in_err-script-clause-told c = no_script_exit c.args.side c.args.text.now c.from_residual.result _ c.from_residual.ensures.1 c.in_err-script.ensures.told

pub returns-clause-ok : goal.returns-clause-ok
returns-clause-ok c = spelled c.args.side c.args.text.now c.in_ok-script.script c.in_ok-script.ensures.ok c.spell_network.result c.spell_network.ensures.ok

pub returns-clause-told : goal.returns-clause-told
returns-clause-told c = unspelled c.args.side c.args.text.now c.in_ok-script.script c.in_ok-script.ensures.ok c.spell_network.result c.spell_network.ensures.told
