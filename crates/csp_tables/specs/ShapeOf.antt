-- The shape of a network of components: each part is a component's alphabet with its normal table.
use Rattle.std.specs.Prelude.{◌≡◌, ◌↔◌, ◌<◌, ◌≤◌, ℕ, List, [], ◌∷◌, Some, length, slice_get}
use Rattle.dl_limits.specs.declared.TheConstants.{MOST_SETS, MOST_TERMS}
use Rattle.csp_tables.specs.Label.{Label}
use Rattle.csp_tables.specs.Network.{Component, ComponentStep, Tree, leaves}
use Rattle.csp_tables.specs.Trace.{IsBusy}
use Rattle.csp_tables.specs.Part.{Part, part_at}
use Rattle.csp_tables.specs.NormalTable.{IsNormalTable}
use Rattle.csp_tables.specs.Shape.{Shape, IsLinked}
use Rattle.csp_tables.specs.Standing.{IsBusyShape}

-- the component's alphabet and its normal table, with at most 16,384 acceptances at a node
pub record IsPartOf {T : Type 0} (Step : T → Label → T → Type 0) (c : Component T) (p : Part) : Type 0 where
  pub alphabet : c.alphabet ≡ p.alphabet
  pub table : IsNormalTable (ComponentStep Step) c MOST_TERMS p.table

-- one part for each component, in the same order
abbrev pub ArePartsOf : {T : Type 0} → (T → Label → T → Type 0) → List (Component T) → List Part → Type 0
ArePartsOf Step [] [] = Unit {0}
ArePartsOf Step (c ∷ cs) (p ∷ ps) = IsPartOf Step c p × ArePartsOf Step cs ps
ArePartsOf _ _ _ = ⊥

-- The parts are those of the network's components, with at most 2,048 nodes each, and the links and the vocabulary are those of their alphabets.
pub record IsShapeOf {T : Type 0} (Step : T → Label → T → Type 0) (tree : Tree T) (shape : Shape) : Type 0 where
  pub linked : IsLinked shape
  pub nodes : (i : ℕ) → i < length shape.parts → length (part_at shape.parts i).table ≤ MOST_SETS
  pub parts : ArePartsOf Step (leaves tree) shape.parts

-- no component is ever empty-handed
abbrev pub AreBusy : {T : Type 0} → (T → Label → T → Type 0) → List (Component T) → Type 0
AreBusy {T} Step cs = (i : ℕ) (c : Component T) → slice_get cs i ≡ Some c → IsBusy (ComponentStep Step) c

-- the shape of a network is busy exactly where its components are
abbrev pub ShapesAreBusy : {T : Type 0} → (T → Label → T → Type 0) → Type 0
ShapesAreBusy {T} Step = (tree : Tree T) (shape : Shape) → IsShapeOf Step tree shape → IsBusyShape shape ↔ AreBusy Step (leaves tree)
