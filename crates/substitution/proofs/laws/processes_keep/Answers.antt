use Rattle.substitution.proofs.Keeps.{proc_keeps_depth, proc_keeps_order}
use Rattle.substitution.proofs.Loses.{proc_loses}
use Rattle.substitution.proofs.Stays.{proc_stays}
use Rattle.substitution.proofs.laws.processes_keep.Goals as goal

pub returns-clause-depth : goal.returns-clause-depth
returns-clause-depth c = proc_keeps_depth

pub returns-clause-order : goal.returns-clause-order
returns-clause-order c = proc_keeps_order

pub returns-clause-free : goal.returns-clause-free
returns-clause-free c = proc_loses

pub returns-clause-closed : goal.returns-clause-closed
returns-clause-closed c = proc_stays
