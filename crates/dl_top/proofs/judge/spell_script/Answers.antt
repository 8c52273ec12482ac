use Rattle.dl_top.proofs.Judging.{no_script_read, only_script}
use Rattle.dl_top.proofs.judge.spell_script.Goals as goal

pub returns-in-Ok-clause-ok : goal.returns-in-Ok-clause-ok
returns-in-Ok-clause-ok c = only_script c.args.text.now c.in-Ok.script c.in-Ok.ensures.found c.each_text_spells_one_script.ensures

pub returns-in-Err-clause-told : goal.returns-in-Err-clause-told
returns-in-Err-clause-told c = rw c.no_script.ensures (no_script_read c.args.side c.args.text.now c.in-Err.fault c.in-Err.ensures.none c.in-Err.ensures.place)
