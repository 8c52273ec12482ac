-- Parts that differ stand once.
use Rattle.pool_parts.proofs.StoreLemmas.{are_once}
use Rattle.pool_parts.proofs.store.slice_of.Goals as goal

pub returns-clause-once : goal.returns-clause-once
returns-clause-once g c = are_once g.T.PartialEq.eq g.met.T.Eq.laws.refl c.args.parts.now c.as_slice.ensures.distinct
