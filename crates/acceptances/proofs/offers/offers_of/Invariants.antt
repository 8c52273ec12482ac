use Rattle.acceptances.proofs.Prelude.{◌≡◌, take, offers_at}
use Rattle.acceptances.proofs.offers.offers_of.Given as goal

abbrev pub invariant-loop-n : goal.invariant-loop-n
invariant-loop-n l = l.made.items ≡ offers_at l.unstable l.sets (take l.n-index l.terms)
