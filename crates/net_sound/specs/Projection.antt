-- What a run of the network is for its components.
--
-- By induction over the run: a silent step is a silent step of one component, and the others stay; an event is one step of
-- each component that has it, and is dropped from the projections of the others.
use Rattle.std.specs.Prelude.{◌≡◌, ◌<◌, ◌≤◌, ℕ, List, Some, length, slice_get}
use Rattle.csp_tables.specs.Prelude.{Label, Path, Reached, Silently, Component, ComponentStep, Tree, NetworkStep, leaves, WellNested, IsSilentBound, visible_events, After, Part, part_at, project, IsJointRun, HaveBehaviours}

-- the component in place i of the network, after a run: by its events of the run it comes to a state, where the network has it
pub record ComesAlong {T : Type 0} (Step : T → Label → T → Type 0) (c : Component T) (ls : List Label) (u : Tree T) (i : ℕ) : Type 0 where
  pub state : Component T
  pub placed : slice_get (leaves u) i ≡ Some state
  pub after : After (ComponentStep Step) c (project c.alphabet (visible_events ls)) state

-- a run of the tree, projected on a component's alphabet, is a trace of that component
abbrev pub RunsAreTraces : {T : Type 0} → (T → Label → T → Type 0) → Type 0
RunsAreTraces {T} Step = (t u : Tree T) (ls : List Label) (i : ℕ) (c : Component T) → WellNested t → Path (NetworkStep Step) t ls u → slice_get (leaves t) i ≡ Some c → ComesAlong Step c ls u i

-- one run of the tree is a joint run of any two tables with the components' behaviour
abbrev pub RunsAreJoint : {T : Type 0} → (T → Label → T → Type 0) → Type 0
RunsAreJoint {T} Step = (t u : Tree T) (ls : List Label) (parts : List Part) (i j : ℕ) → WellNested t → Path (NetworkStep Step) t ls u → HaveBehaviours Step (leaves t) parts → i < length parts → j < length parts → IsJointRun (part_at parts i) (part_at parts j) (visible_events ls)

-- From a reached state at most as many silent steps follow one another as the silent bound says: each is a step of one
-- component, and those of one component follow one another in it too.
abbrev pub SilenceIsBounded : {T : Type 0} → (T → Label → T → Type 0) → Type 0
SilenceIsBounded {T} Step = (t u v : Tree T) (n bound : ℕ) → WellNested t → IsSilentBound Step (leaves t) bound → Reached (NetworkStep Step) t u → Silently (NetworkStep Step) n u v → n ≤ bound
