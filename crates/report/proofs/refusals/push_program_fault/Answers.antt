use Rattle.report.proofs.refusals.push_program_fault.Goals as goal

pub returns-in-WrongCount : goal.returns-in-WrongCount
returns-in-WrongCount c = rw c.in-WrongCount.is (rw c.as_slice-in-WrongCount.ensures at c.push_text-in-WrongCount.ensures)

pub returns-in-ParallelInside : goal.returns-in-ParallelInside
returns-in-ParallelInside c = rw c.in-ParallelInside.is c.push_text-in-ParallelInside.ensures
