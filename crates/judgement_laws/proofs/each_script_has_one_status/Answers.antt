use Rattle.judgement_laws.proofs.Complete.{each_script_has_one_status}
use Rattle.judgement_laws.proofs.each_script_has_one_status.Goals as goal

pub returns : goal.returns
returns c = each_script_has_one_status
