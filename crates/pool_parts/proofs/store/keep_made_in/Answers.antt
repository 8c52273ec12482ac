-- Where a part was made it is the one that is asked for.
use Rattle.pool_parts.proofs.Prelude.{◌≡◌, Some, slice_get, subst, IfOk}
use Rattle.pool_parts.proofs.store.keep_made_in.Goals as goal

pub returns-clause-place : goal.returns-clause-place
returns-clause-place g c = λ part h.
    let same : c.in_ok-part.part ≡ part = subst (λ r. IfOk r (λ it. it ≡ part)) c.in_ok-part.was h in
    subst (λ x. IfOk c.keep_own_in.result (λ place. slice_get c.keep_own_in.new.parts place ≡ Some x)) same c.keep_own_in.ensures.place
