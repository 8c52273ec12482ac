-- What is found is x itself, since `==` is exact.
use Rattle.std.proofs.Common.{sym}
use Rattle.containers.proofs.NumberingLemmas.{slice_get-from_find}
use Rattle.containers.proofs.numbering.find_in.Goals as goal

pub returns-in-Some-clause-found : goal.returns-in-Some-clause-found
returns-in-Some-clause-found g c =
    slice_get-from_find g.T.PartialEq.eq g.met.T.Exact.exact _ _ _ _ c.in-Some.ensures.stored (sym c.in-Some.ensures.key)
