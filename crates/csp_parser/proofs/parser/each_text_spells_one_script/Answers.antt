use Rattle.csp_parser.proofs.Scripts.{one_spelled}
use Rattle.csp_parser.proofs.parser.each_text_spells_one_script.Goals as goal

pub returns : goal.returns
returns c = one_spelled
