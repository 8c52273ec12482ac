use Rattle.csp_parser.proofs.ScriptSizes.{read_small}
use Rattle.csp_parser.proofs.Scripts.{text_spells, text_spells_none, uncut_spells_none}
use Rattle.csp_parser.proofs.parser.read.Goals as goal

pub returns-in-Ok-clause-found : goal.returns-in-Ok-clause-found
returns-in-Ok-clause-found c = text_spells c.args.text.now c.in-Ok.tokens c.parse.result c.in-Ok.ensures.found c.parse.ensures.found

pub returns-in-Ok-clause-small : goal.returns-in-Ok-clause-small
returns-in-Ok-clause-small c = read_small c.args.text.now c.in-Ok.tokens c.parse.result c.in-Ok.ensures.found c.parse.ensures.found

pub returns-in-Ok-clause-none : goal.returns-in-Ok-clause-none
returns-in-Ok-clause-none c = text_spells_none c.args.text.now c.in-Ok.tokens c.parse.result c.in-Ok.ensures.found c.parse.ensures.none

pub returns-in-Err-clause-none : goal.returns-in-Err-clause-none
returns-in-Err-clause-none c = uncut_spells_none c.args.text.now c.in-Err.fault c.in-Err.ensures.none
