use Rattle.term_sets.proofs.Prelude.{subst, RawTable, AreMinimalOffers}
use Rattle.term_sets.proofs.prepared.Prepared.acceptances.Goals as goal

pub returns : goal.returns
returns c =
    let offers = c.in_ok-sets.ensures in
    subst (λ (r : RawTable). AreMinimalOffers r c.args.terms.now c.in_ok-sets.sets.items) c.self.view_is (record { sound = offers.sound; complete = offers.complete; covered = offers.covered; rising = offers.rising; order = offers.order })
