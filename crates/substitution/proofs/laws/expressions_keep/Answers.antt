use Rattle.substitution.proofs.Keeps.{expr_keeps_depth, expr_keeps_order}
use Rattle.substitution.proofs.Loses.{expr_loses}
use Rattle.substitution.proofs.Stays.{expr_stays}
use Rattle.csp_program.specs.Value.{uses_within}
use Rattle.substitution.proofs.Worth.{keeps_worth}
use Rattle.substitution.proofs.laws.expressions_keep.Goals as goal

pub returns-clause-depth : goal.returns-clause-depth
returns-clause-depth c = expr_keeps_depth

pub returns-clause-order : goal.returns-clause-order
returns-clause-order c = expr_keeps_order

pub returns-clause-free : goal.returns-clause-free
returns-clause-free c = expr_loses

pub returns-clause-closed : goal.returns-clause-closed
returns-clause-closed c = expr_stays

pub returns-clause-worth : goal.returns-clause-worth
returns-clause-worth c = λ p n. keeps_worth (uses_within p n) p.channels
