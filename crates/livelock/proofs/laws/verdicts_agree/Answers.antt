use Rattle.livelock.proofs.Agreeing.{bounds_are_told, statuses_are_one, verdicts_are_one}
use Rattle.livelock.proofs.laws.verdicts_agree.Goals as goal

pub returns-clause-told : goal.returns-clause-told
returns-clause-told c = bounds_are_told

pub returns-clause-statuses : goal.returns-clause-statuses
returns-clause-statuses c = statuses_are_one

pub returns-clause-verdicts : goal.returns-clause-verdicts
returns-clause-verdicts c = verdicts_are_one
