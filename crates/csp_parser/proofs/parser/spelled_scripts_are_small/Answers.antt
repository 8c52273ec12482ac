use Rattle.csp_parser.proofs.ScriptSizes.{spelled_small}
use Rattle.csp_parser.proofs.parser.spelled_scripts_are_small.Goals as goal

pub returns : goal.returns
returns c = spelled_small
