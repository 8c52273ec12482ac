-- Nesting does not matter: in a well-nested tree the steps of the tree are exactly the steps of the list of its leaves.
--
-- Both are by cases on the label. A silent step is one leaf's in both. For an event, an operand without the event in its
-- alphabet stays in the tree; by well nesting none of its leaves has the event, so they stay in the list. The converse goes
-- the same way, and a step leaves every alphabet as it was, so the nesting is kept.
use Rattle.std.specs.Prelude.{◌≡◌, List, map}
use Rattle.csp_tables.specs.Prelude.{Label, Component, Tree, NetworkStep, leaves, FlatStep, WellNested}

-- the tree has a step with this label to a tree with these leaves
pub record StepsToLeaves {T : Type 0} (Step : T → Label → T → Type 0) (t : Tree T) (l : Label) (cs : List (Component T)) : Type 0 where
  pub tree : Tree T
  pub whole : leaves tree ≡ cs
  pub step : NetworkStep Step t l tree

-- a step of the tree is a flat step of its leaves
abbrev pub TreeStepsAreFlat : {T : Type 0} → (T → Label → T → Type 0) → Type 0
TreeStepsAreFlat {T} Step = (t u : Tree T) (l : Label) → WellNested t → NetworkStep Step t l u → FlatStep Step (leaves t) l (leaves u)

-- a flat step of the leaves is a step of the tree
abbrev pub FlatStepsAreTreeSteps : {T : Type 0} → (T → Label → T → Type 0) → Type 0
FlatStepsAreTreeSteps {T} Step = (t : Tree T) (l : Label) (cs : List (Component T)) → WellNested t → FlatStep Step (leaves t) l cs → StepsToLeaves Step t l cs

-- the tree with these leaves to which it steps is one
abbrev pub StepsAreToldByLeaves : {T : Type 0} → (T → Label → T → Type 0) → Type 0
StepsAreToldByLeaves {T} Step = (t u v : Tree T) (l m : Label) → NetworkStep Step t l u → NetworkStep Step t m v → leaves u ≡ leaves v → u ≡ v

-- a step keeps well nesting
abbrev pub StepsKeepNesting : {T : Type 0} → (T → Label → T → Type 0) → Type 0
StepsKeepNesting {T} Step = (t u : Tree T) (l : Label) → WellNested t → NetworkStep Step t l u → WellNested u

-- a step keeps the alphabets of the leaves
abbrev pub StepsKeepAlphabets : {T : Type 0} → (T → Label → T → Type 0) → Type 0
StepsKeepAlphabets {T} Step = (t u : Tree T) (l : Label) → WellNested t → NetworkStep Step t l u → map (λ c. c.alphabet) (leaves t) ≡ map (λ c. c.alphabet) (leaves u)
