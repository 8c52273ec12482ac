use Rattle.std.proofs.lemmas.Result.{IfOk-weaker}
use Rattle.acceptances.proofs.SmallestSets.{minimal_offers}
use Rattle.acceptances.proofs.offers.Offers.minimal.Goals as goal

pub returns-clause-sound : goal.returns-clause-sound
returns-clause-sound c = IfOk-weaker _ _ _ (λ made l. (minimal_offers _ _ _ _ _ _ _ _ _ c.self.view_is c.requires c.self.invariant.0 c.self.invariant.1 c.in_ok-offers.ensures c.deref.ensures.value c.deref-2.ensures.value l).sound) c.sorted_least.ensures

pub returns-clause-complete : goal.returns-clause-complete
returns-clause-complete c = IfOk-weaker _ _ _ (λ made l. (minimal_offers _ _ _ _ _ _ _ _ _ c.self.view_is c.requires c.self.invariant.0 c.self.invariant.1 c.in_ok-offers.ensures c.deref.ensures.value c.deref-2.ensures.value l).complete) c.sorted_least.ensures

pub returns-clause-covered : goal.returns-clause-covered
returns-clause-covered c = IfOk-weaker _ _ _ (λ made l. (minimal_offers _ _ _ _ _ _ _ _ _ c.self.view_is c.requires c.self.invariant.0 c.self.invariant.1 c.in_ok-offers.ensures c.deref.ensures.value c.deref-2.ensures.value l).covered) c.sorted_least.ensures

pub returns-clause-rising : goal.returns-clause-rising
returns-clause-rising c = IfOk-weaker _ _ _ (λ made l. (minimal_offers _ _ _ _ _ _ _ _ _ c.self.view_is c.requires c.self.invariant.0 c.self.invariant.1 c.in_ok-offers.ensures c.deref.ensures.value c.deref-2.ensures.value l).rising) c.sorted_least.ensures

pub returns-clause-order : goal.returns-clause-order
returns-clause-order c = IfOk-weaker _ _ _ (λ made l. (minimal_offers _ _ _ _ _ _ _ _ _ c.self.view_is c.requires c.self.invariant.0 c.self.invariant.1 c.in_ok-offers.ensures c.deref.ensures.value c.deref-2.ensures.value l).order) c.sorted_least.ensures
