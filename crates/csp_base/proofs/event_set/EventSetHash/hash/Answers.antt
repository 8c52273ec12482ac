use Rattle.csp_base.proofs.Prelude.{sym, ap, ◌∙◌, blocks_of}
use Rattle.csp_base.proofs.BlocksOf.{blocks_of-events_of}
use Rattle.csp_base.proofs.event_set.EventSetHash.hash.Goals as goal

pub returns : goal.returns
returns g c =
    let blocks = sym (ap blocks_of c.self.view_is) ∙ blocks_of-events_of 0 _ c.self.invariant in
    rw blocks c.hash.ensures
