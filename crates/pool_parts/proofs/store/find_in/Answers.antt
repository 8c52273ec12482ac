-- What has no number stands nowhere.
use Rattle.pool_parts.proofs.StoreLemmas.{is_found}
use Rattle.pool_parts.proofs.store.find_in.Goals as goal

pub returns-clause-found : goal.returns-clause-found
returns-clause-found g c = is_found g.T.PartialEq.eq g.met.T.Eq.laws.refl c.args.parts.now c.args.part.now c.find.result c.find.ensures.known c.find.ensures.found
