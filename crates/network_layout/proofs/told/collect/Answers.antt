use Rattle.std.proofs.Common.{ap, arith, sym, Ok}
use Rattle.network_layout.proofs.ToldSteps.{told_end, told_next, untold_first}
use Rattle.network_layout.proofs.told.collect.Goals as goal

pub loop-part-init : goal.loop-part-init
loop-part-init g c = ap (λ told. Ok told) (sym c.new-made.ensures)

pub returns-in-Err-clause-fault : goal.returns-in-Err-clause-fault
returns-in-Err-clause-fault g c =
    untold_first (g.T.Noted.told c.args.program.now) c.args.seats.now c.loop-part.part c.loop-part.made c.loop-part.invariant c.index-seats-part.result (omega arith) c.index-seats-part.is
    c.fault_at.result c.in-Err.fault c.in-Err.ensures c.fault_at.ensures

pub loop-part-preserved : goal.loop-part-preserved
loop-part-preserved g c =
    told_next (g.T.Noted.told c.args.program.now) c.args.seats.now c.loop-part.part c.loop-part.made c.loop-part.invariant c.index-seats-part.result (omega arith) c.index-seats-part.is
    c.push.new.self c.in-Ok.sets c.in-Ok.ensures c.in_ok-push-in-Ok.ensures.ok

pub returns-clause-told : goal.returns-clause-told
returns-clause-told g c = told_end (g.T.Noted.told c.args.program.now) c.args.seats.now c.loop-part.part c.loop-part.made c.loop-part.invariant (omega arith)
