-- Notes stay where the parts grow at their end.
use Rattle.pool_parts.proofs.StoreLemmas.{absent_on_err, noted_numbered, start_numbered}
use Rattle.pool_parts.proofs.store.number.Goals as goal

pub returns-clause-noted : goal.returns-clause-noted
returns-clause-noted g c =
    λ notes h. noted_numbered g.T.Part.depth g.T.Part.size g.T.Part.free g.T.PartialEq.eq notes c.args.parts.now c.number-number.new.self c.args.part c.number-number.result c.number-number.ensures.list c.number-number.ensures.err h

pub returns-clause-start : goal.returns-clause-start
returns-clause-start g c = start_numbered g.T.PartialEq.eq c.args.parts.now c.number-number.new.self c.args.part c.number-number.result c.number-number.ensures.list c.number-number.ensures.err

pub returns-in_err-number-clause-err_only_new : goal.returns-in_err-number-clause-err_only_new
returns-in_err-number-clause-err_only_new g c =
    absent_on_err g.T.PartialEq.eq g.met.T.Eq.laws.refl c.args.parts.now c.args.part c.from_residual.result c.in_err-number.ensures.err_only_new
