-- Where a component does not conform to its specification: it does what the specification can't do, or it comes to rest where it offers too little.
use Rattle.std.specs.Prelude.{◌≡◌, ℕ, List, [], ◌∷◌, ◌++◌}
use Rattle.csp_tables.specs.Prelude.{Label, Component, ComponentStep, Part, IsPartOf, IsAcceptance, IsTrace}
use Rattle.conformance.specs.Conforms.{AcceptsWithin, Conforms}
use Rattle.conformance.specs.Conforming.{RefusesAfter, RunsOutside, TableConforms}

module _ {T U : Type 0} (Step : T → Label → T → Type 0) (Specified : U → Label → U → Type 0) (c : Component T) (d : Component U) where
  -- The component does the trace, and its specification does not. Without its last event both do it.
  pub record GoesOutside (s : List ℕ) : Type 0 where
    pub front : List ℕ
    pub last : ℕ
    pub is : s ≡ front ++ last ∷ []
    pub inside : IsTrace (ComponentStep Specified) d front
    pub does : IsTrace (ComponentStep Step) c s
    pub outside : IsTrace (ComponentStep Specified) d s → ⊥

  -- Every trace of the component is one of its specification, and after this one an acceptance contains none of the specification.
  pub record RefusesTooMuch (s : List ℕ) : Type 0 where
    pub inside : (t : List ℕ) → IsTrace (ComponentStep Step) c t → IsTrace (ComponentStep Specified) d t
    pub acceptance : List ℕ
    pub accepts : IsAcceptance (ComponentStep Step) c s acceptance
    pub refuses : AcceptsWithin (ComponentStep Specified) d s acceptance → ⊥

-- What is found out about normal tables is true of the components whose tables they are.
pub record TablesTell {T U : Type 0} (Step : T → Label → T → Type 0) (Specified : U → Label → U → Type 0) : Type 0 where
  pub conforms : (c : Component T) (d : Component U) (p q : Part) → IsPartOf Step c p → IsPartOf Specified d q → c.alphabet ≡ d.alphabet
      → TableConforms p.table q.table → Conforms Step Specified c d
  pub outside : (c : Component T) (d : Component U) (p q : Part) (s : List ℕ) → IsPartOf Step c p → IsPartOf Specified d q
      → RunsOutside p.table q.table s → GoesOutside Step Specified c d s
  pub refuses : (c : Component T) (d : Component U) (p q : Part) (s : List ℕ) → IsPartOf Step c p → IsPartOf Specified d q
      → RefusesAfter p.table q.table s → RefusesTooMuch Step Specified c d s

-- A component that conforms to its specification has neither of the two faults, and none has both.
pub record FaultsRefute {T U : Type 0} (Step : T → Label → T → Type 0) (Specified : U → Label → U → Type 0) : Type 0 where
  pub outside : (c : Component T) (d : Component U) (s : List ℕ) → Conforms Step Specified c d → GoesOutside Step Specified c d s → ⊥
  pub refuses : (c : Component T) (d : Component U) (s : List ℕ) → Conforms Step Specified c d → RefusesTooMuch Step Specified c d s → ⊥
  pub both : (c : Component T) (d : Component U) (s t : List ℕ) → GoesOutside Step Specified c d s → RefusesTooMuch Step Specified c d t → ⊥
