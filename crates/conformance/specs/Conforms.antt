-- When a component conforms to another one, its specification (Roscoe 1997, chapters 3 and 7: refinement in the failures model, said
-- by minimal acceptances): it does nothing that the other can't do, and wherever it comes to rest it offers enough.
use Rattle.std.specs.Prelude.{◌≡◌, ℕ, List, [], ◌∷◌}
use Rattle.csp_tables.specs.Prelude.{Label, Component, ComponentStep, IsAcceptance, IsTrace, IsWithin}

-- after the list s the system d has an acceptance within M
pub record AcceptsWithin {S : Type 0} (Step : S → Label → S → Type 0) (d : S) (s M : List ℕ) : Type 0 where
  pub set : List ℕ
  pub acceptance : IsAcceptance Step d s set
  pub within : IsWithin set M

-- Every trace of c is one of d, and after it every acceptance of c contains an acceptance of d. Both have the same events.
pub record Conforms {T U : Type 0} (Step : T → Label → T → Type 0) (Specified : U → Label → U → Type 0) (c : Component T) (d : Component U) : Type 0 where
  pub alphabet : c.alphabet ≡ d.alphabet
  pub traces : (s : List ℕ) → IsTrace (ComponentStep Step) c s → IsTrace (ComponentStep Specified) d s
  pub acceptances : (s M : List ℕ) → IsAcceptance (ComponentStep Step) c s M → AcceptsWithin (ComponentStep Specified) d s M

-- each component conforms to the one in its place
abbrev pub AllConform : {T U : Type 0} → (T → Label → T → Type 0) → (U → Label → U → Type 0) → List (Component T) → List (Component U) → Type 0
AllConform Step Specified [] [] = Unit {0}
AllConform Step Specified [] (d ∷ ds) = ⊥
AllConform Step Specified (c ∷ cs) [] = ⊥
AllConform Step Specified (c ∷ cs) (d ∷ ds) = Conforms Step Specified c d × AllConform Step Specified cs ds
