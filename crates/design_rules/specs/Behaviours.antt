-- What a rule reads of the components of a network, beside their alphabets and the links and the vocabulary that follow from these: which traces each
-- has, what is possible after a trace, and what it can come to accept after it. (The failures model: Roscoe 1997, chapters 3 and 8.) A rule's conditions are
-- written over any such reading. There are two: by the components' own steps, which is the network's, and by the tables of its shape (ByTables), which
-- the deciders go by. Over the shape of a network the two agree (Agreement).
use Rattle.std.specs.Prelude.{◌≡◌, ℕ, List, [], ◌∷◌, ◌++◌, Some, slice_get}
use Rattle.csp_tables.specs.Prelude.{Label, Component, ComponentStep, IsTrace, IsAcceptance, IsWithin}

pub record Behaviours : Type 1 where
  -- the component in place i has the trace s
  pub trace : ℕ → List ℕ → Type 0
  -- after the trace s of the component in place i the event e is possible
  pub possible : ℕ → List ℕ → ℕ → Type 0
  -- after the trace s the component in place i can come to accept exactly M, which lies in the vocabulary
  pub accepts : ℕ → List ℕ → List ℕ → Type 0

-- the component in place i has the trace s, by its steps
pub record HasTrace {T : Type 0} (Step : T → Label → T → Type 0) (cs : List (Component T)) (i : ℕ) (s : List ℕ) : Type 0 where
  pub component : Component T
  pub listed : slice_get cs i ≡ Some component
  pub trace : IsTrace (ComponentStep Step) component s

-- M is an acceptance of the component in place i after the trace s, by its steps, and each event of M is in the vocabulary
pub record HasAcceptance {T : Type 0} (Step : T → Label → T → Type 0) (cs : List (Component T)) (vocabulary : List ℕ) (i : ℕ) (s M : List ℕ) : Type 0 where
  pub component : Component T
  pub listed : slice_get cs i ≡ Some component
  pub accepts : IsAcceptance (ComponentStep Step) component s M
  pub shared : IsWithin M vocabulary

-- the components by their own steps: an event is possible after a trace that it continues
abbrev pub by_steps : {T : Type 0} → (T → Label → T → Type 0) → List (Component T) → List ℕ → Behaviours
by_steps Step cs vocabulary = record {
  trace = HasTrace Step cs;
  possible = λ i s e. HasTrace Step cs i (s ++ e ∷ []);
  accepts = HasAcceptance Step cs vocabulary;
}
