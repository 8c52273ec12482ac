-- When a table has the behaviour of a component.
use Rattle.std.specs.Prelude.{◌≡◌, ℕ, List, [], ◌∷◌, Some, slice_get, IsTrue}
use Rattle.csp_base.specs.Members.{has}
use Rattle.csp_tables.specs.Label.{Label}
use Rattle.csp_tables.specs.Path.{Stable}
use Rattle.csp_tables.specs.Network.{Component, ComponentStep}
use Rattle.csp_tables.specs.Trace.{After, IsTrace, Offers}
use Rattle.csp_tables.specs.Table.{IsRun, acceptances_after}
use Rattle.csp_tables.specs.Part.{Part, IsNonEmpty}

-- the state offers every event of an acceptance in the list
pub record OffersAcceptance {S : Type 0} (Step : S → Label → S → Type 0) (t : S) (acceptances : List (List ℕ)) : Type 0 where
  pub place : ℕ
  pub acceptance : List ℕ
  pub listed : slice_get acceptances place ≡ Some acceptance
  pub offered : (e : ℕ) → IsTrue (has acceptance e) → Offers Step t e

-- Every trace is a run of the table. A stable state after a trace offers every event of an acceptance of the node that
-- the trace leads to, and the acceptances of such a node are not empty.
pub record HasBehaviour {T : Type 0} (Step : T → Label → T → Type 0) (c : Component T) (p : Part) : Type 0 where
  pub alphabet : c.alphabet ≡ p.alphabet
  pub traces : (s : List ℕ) → IsTrace (ComponentStep Step) c s → IsRun p.table s
  pub accepts : (s : List ℕ) (d : Component T) → After (ComponentStep Step) c s d → Stable (ComponentStep Step) d → OffersAcceptance (ComponentStep Step) d (acceptances_after p.table s)
  pub busy : (s M : List ℕ) (k : ℕ) → IsTrace (ComponentStep Step) c s → slice_get (acceptances_after p.table s) k ≡ Some M → IsNonEmpty M

-- one part for each component, in the same order
abbrev pub HaveBehaviours : {T : Type 0} → (T → Label → T → Type 0) → List (Component T) → List Part → Type 0
HaveBehaviours Step [] [] = Unit {0}
HaveBehaviours Step (c ∷ cs) (p ∷ ps) = HasBehaviour Step c p × HaveBehaviours Step cs ps
HaveBehaviours _ _ _ = ⊥
