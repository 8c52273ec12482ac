use Rattle.judgement.proofs.OneNetwork.{one_network}
use Rattle.judgement.proofs.laws.each_script_has_one_network.Goals as goal

pub returns : goal.returns
returns c = one_network
