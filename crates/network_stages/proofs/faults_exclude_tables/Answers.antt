use Rattle.network_stages.proofs.Excluded.{faults_exclude_tables}
use Rattle.network_stages.proofs.faults_exclude_tables.Goals as goal

pub returns : goal.returns
returns c = faults_exclude_tables
