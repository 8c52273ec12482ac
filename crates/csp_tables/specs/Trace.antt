-- What a labelled transition system does from where it starts, as it is seen from outside (Roscoe 1997, chapters 3 and 7;
-- the failures model): silent steps are not seen. The system is a component by itself, whose events are those of its
-- alphabet, or the numbered table of one.
use Rattle.std.specs.Prelude.{◌≡◌, ◌↔◌, ℕ, List, [], ◌∷◌, ◌++◌, IsTrue}
use Rattle.csp_base.specs.Members.{has}
use Rattle.csp_tables.specs.Label.{Label}
use Rattle.csp_tables.specs.Label.Label.{silent, visible}
use Rattle.csp_tables.specs.Path.{Path, Stable}

-- the events of a list of labels, in order
abbrev pub visible_events : List Label → List ℕ
visible_events [] = []
visible_events (silent ∷ ls) = visible_events ls
visible_events (visible e ∷ ls) = e ∷ visible_events ls

-- After Step start s t: silent steps and events lead from start to t, and the events in order are s.
abbrev pub After : {S : Type 0} → (S → Label → S → Type 0) → S → List ℕ → S → Type 0
After Step start s t = (ls : List Label) × Path Step start ls t × (visible_events ls ≡ s)

-- these events can be done in this order
abbrev pub IsTrace : {S : Type 0} → (S → Label → S → Type 0) → S → List ℕ → Type 0
IsTrace {S} Step start s = (t : S) × After Step start s t

-- the state has the event, without a silent step before it
abbrev pub Offers : {S : Type 0} → (S → Label → S → Type 0) → S → ℕ → Type 0
Offers {S} Step t e = (u : S) × Step t (visible e) u

-- After s the system can come to a stable state that offers the members of M and nothing else.
pub record IsStableOffer {S : Type 0} (Step : S → Label → S → Type 0) (start : S) (s M : List ℕ) : Type 0 where
  pub state : S
  pub reached : After Step start s state
  pub stable : Stable Step state
  pub offered : (e : ℕ) → IsTrue (has M e) ↔ Offers Step state e

-- each member of M is one of N
abbrev pub IsWithin : List ℕ → List ℕ → Type 0
IsWithin M N = (e : ℕ) → IsTrue (has M e) → IsTrue (has N e)

-- An acceptance after s is a stable offer that contains no smaller one.
pub record IsAcceptance {S : Type 0} (Step : S → Label → S → Type 0) (start : S) (s M : List ℕ) : Type 0 where
  pub offer : IsStableOffer Step start s M
  pub least : (N : List ℕ) → IsStableOffer Step start s N → IsWithin N M → IsWithin M N

-- After s and after t the future is the same: the same lists follow, with the same acceptances after each.
pub record HaveSameFuture {S : Type 0} (Step : S → Label → S → Type 0) (start : S) (s t : List ℕ) : Type 0 where
  pub traces : (w : List ℕ) → IsTrace Step start (s ++ w) ↔ IsTrace Step start (t ++ w)
  pub acceptances : (w M : List ℕ) → IsAcceptance Step start (s ++ w) M ↔ IsAcceptance Step start (t ++ w) M

-- No acceptance is empty: the system is never empty-handed.
abbrev pub IsBusy : {S : Type 0} → (S → Label → S → Type 0) → S → Type 0
IsBusy Step start = (s : List ℕ) → IsAcceptance Step start s [] → ⊥
