use Rattle.local_tables.proofs.Excluding.{excluded}
use Rattle.local_tables.proofs.faults_exclude_tables.Goals as goal

pub returns : goal.returns
returns c = excluded
