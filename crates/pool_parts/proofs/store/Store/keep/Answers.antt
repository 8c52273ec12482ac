-- A copy of the part is the part.
use Rattle.pool_parts.proofs.store.Store.keep.Goals as goal

pub returns-clause-place : goal.returns-clause-place
returns-clause-place g c = c.in_ok-place.ensures.place c.args.part.now c.copy.ensures
