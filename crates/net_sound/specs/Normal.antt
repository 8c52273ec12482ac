-- From the numbered table of a component to the component.
--
-- The numbered table does what the component does: a run of one is a run of the other, and a stable term of the one offers
-- what the stable state of the other does. So the normal table of the one is that of the other. Where the component is never
-- empty-handed, this table has its behaviour: its traces are the runs, a stable state offers an acceptance whole, and no
-- acceptance is empty.
use Rattle.std.specs.Prelude.{ℕ, List}
use Rattle.csp_tables.specs.Prelude.{Label, Component, ComponentStep, Tree, leaves, IsBusy, RawTable, RawStep, IsTableOf, Node, IsNormalTable, HasBehaviour, HaveBehaviours, Shape, IsWellFormed, IsShapeOf, AreBusy}

-- the normal table of a component's numbered table is the component's
abbrev pub NormalTablesCarryOver : {T : Type 0} → (T → Label → T → Type 0) → Type 0
NormalTablesCarryOver {T} Step = (c : Component T) (terms : List T) (raw : RawTable) (most : ℕ) (table : List Node) → IsTableOf Step c terms raw → IsNormalTable (RawStep raw) 0 most table → IsNormalTable (ComponentStep Step) c most table

-- the normal table of a component that is never empty-handed has its behaviour
abbrev pub NormalTablesBehave : {T : Type 0} → (T → Label → T → Type 0) → Type 0
NormalTablesBehave {T} Step = (c : Component T) (most : ℕ) (table : List Node) → IsBusy (ComponentStep Step) c → IsNormalTable (ComponentStep Step) c most table → HasBehaviour Step c (record { alphabet = c.alphabet; table = table })

-- so have the parts of the shape of such components
abbrev pub ShapesBehave : {T : Type 0} → (T → Label → T → Type 0) → Type 0
ShapesBehave {T} Step = (tree : Tree T) (shape : Shape) → IsShapeOf Step tree shape → AreBusy Step (leaves tree) → HaveBehaviours Step (leaves tree) shape.parts

-- the shape of a network is well formed, since its tables are normal
abbrev pub ShapesAreWellFormed : {T : Type 0} → (T → Label → T → Type 0) → Type 0
ShapesAreWellFormed {T} Step = (tree : Tree T) (shape : Shape) → IsShapeOf Step tree shape → IsWellFormed shape
