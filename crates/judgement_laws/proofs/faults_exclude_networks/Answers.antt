use Rattle.judgement_laws.proofs.Networks.{faults_exclude_networks}
use Rattle.judgement_laws.proofs.faults_exclude_networks.Goals as goal

pub returns : goal.returns
returns c = faults_exclude_networks
