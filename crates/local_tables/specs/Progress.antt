-- What stands while a component is explored. (No public contract cites this.)
use Rattle.std.specs.Prelude.{◌≡◌, ◌⊎◌, ℕ, ◌+◌, ◌<◌, ◌≤◌, if◌then◌else◌, Option, Some, None, Ok, List, [], ◌∷◌, ◌++◌, drop, length, map, slice_get, take}
use Rattle.std.specs.Set.{is_member}
use Rattle.csp_base.specs.Lists.{StandsIn, total}
use Rattle.dl_limits.specs.declared.TheConstants.{MOST_TERMS, MOST_TERM_DEPTH}
use Rattle.csp_program.specs.Prelude.{proc_depth, proc_size}
use Rattle.csp_program.specs.declared.processes.Proc.{Proc}
use Rattle.csp_steps.specs.Prelude.{seen, AreFirsts, goals}
use Rattle.csp_steps.specs.declared.step.StepTo.{StepTo}
use Rattle.csp_tables.specs.Prelude.{Label, silent, visible, ComponentStep, IsStepOf, RawTable, standing_at, targets_in, After}
use Rattle.process_steps.specs.Prelude.{ProcessStep, Move, steps_of}
use Rattle.process_steps.specs.declared.label.Label.TheVariants.{Silent, Visible, Tick}
use Rattle.process_steps.specs.declared.label.Label.{Label as ProcessLabel}
use Rattle.pool_parts.specs.Prelude.{capped, eq_id}
use Rattle.pool_parts.specs.declared.place.ProcId.{ProcId}
use Rattle.term_pool.specs.Trees.{tree_at}
use Rattle.local_tables.specs.Component.{IsInside, part_of, step_count}
use Rattle.local_tables.specs.Room.{Room}
use Rattle.local_tables.specs.declared.found.Found.{Found}
use Rattle.local_tables.specs.declared.task.Task.{Task}

-- the number of a term, with the event of a step from it, if it has one
abbrev pub Origin : Type 0
Origin = ℕ × Option ℕ

abbrev pub label_of : Option ℕ → Label
label_of None = silent
label_of (Some e) = visible e

abbrev pub process_label : Label → ProcessLabel
process_label silent = Silent
process_label (visible e) = Visible e

-- the size of a term, whose counting stops at 4,294,967,295
abbrev pub counted_size : Proc → ℕ
counted_size x = capped (proc_size x)

-- the terms at the places of a pool
abbrev pub terms_at : List Proc → List ProcId → List Proc
terms_at trees ids = map (tree_at trees) ids

-- ---- what is found

-- the term at a place of the pool, without steps
abbrev pub first_found : ProcId → ℕ → Found
first_found id size = record { terms = id ∷ []; origins = []; table = record { silent = []; steps = []; count = 1 }; nodes = size }

-- the same with the term at a place of the pool, where it is new, and the step by which it was found
abbrev pub with_term : List Proc → Found → Origin → ProcId → Found
with_term trees found origin to = if is_member eq_id found.terms to then found else record {
  terms = found.terms ++ to ∷ [];
  origins = found.origins ++ origin ∷ [];
  table = record found.table { count = found.table.count + 1 };
  nodes = found.nodes + counted_size (tree_at trees to);
}

-- the table with one step more
abbrev pub step_more : RawTable → ℕ → Label → ℕ → RawTable
step_more raw m silent n = record raw { silent = raw.silent ++ (m, n) ∷ [] }
step_more raw m (visible e) n = record raw { steps = raw.steps ++ (m, e, n) ∷ [] }

-- ---- what is true of it

-- Each term but the first was found by a step from an earlier one.
pub record AreLed (task : Task) (terms : List Proc) (origins : List Origin) : Type 0 where
  pub first : slice_get terms 0 ≡ Some task.start.now
  pub as_many : length terms ≡ length origins + 1
  pub earlier : (k : ℕ) (o : Origin) → slice_get origins k ≡ Some o → o.0 ≤ k
  pub led : (k : ℕ) (o : Origin) → slice_get origins k ≡ Some o
      → IsStepOf (ProcessStep task.program.now) (part_of task) terms o.0 (label_of o.1) (k + 1)

-- The terms are found, and counted, and their sizes together.
pub record AreFound (task : Task) (trees : List Proc) (so_far : Found) : Type 0 where
  pub places : (k : ℕ) (id : ProcId) → slice_get so_far.terms k ≡ Some id → id.0 < length trees
  pub led : AreLed task (terms_at trees so_far.terms) so_far.origins
  pub count : so_far.table.count ≡ length so_far.terms
  pub sizes : total (map counted_size (terms_at trees so_far.terms)) ≡ so_far.nodes

-- they and their steps are within the limits and the room
pub record IsWithin (room : Room) (trees : List Proc) (so_far : Found) : Type 0 where
  pub few : length so_far.terms ≤ MOST_TERMS
  pub shallow : (n : ℕ) (x : Proc) → slice_get (terms_at trees so_far.terms) n ≡ Some x → proc_depth x ≤ MOST_TERM_DEPTH
  pub nodes : so_far.nodes ≤ room.nodes
  pub steps : step_count so_far.table ≤ room.steps

-- these are the terms with the numbers
abbrev pub IsRow : List Proc → List ℕ → List Proc → Type 0
IsRow terms numbers targets = map (λ n. slice_get terms n) numbers ≡ map (λ t. Some t) targets

-- From the term with this number the table has these moves within the alphabet, in their order, and no others.
pub record AreRows (task : Task) (terms : List Proc) (raw : RawTable) (m : ℕ) (moves : List Move) : Type 0 where
  pub inside : (l : Label) → IsInside task.alphabet.now l → IsRow terms (targets_in raw m l) (goals l moves)
  pub outside : (l : Label) → (IsInside task.alphabet.now l → ⊥) → targets_in raw m l ≡ []

-- Of the moves of the term with this number, each once, the table has those that are taken, none of which is a tick, and the rest is still to come.
pub record IsFollowed (task : Task) (terms : List Proc) (raw : RawTable) (m : ℕ) (taken rest : List Move) : Type 0 where
  pub term : Proc
  pub listed : slice_get terms m ≡ Some term
  pub moves : List Move
  pub has : steps_of task.program.now term ≡ Ok moves
  pub firsts : AreFirsts moves (taken ++ rest)
  pub goes_on : (u : Proc) → StandsIn taken (Tick, u) → ⊥
  pub rows : AreRows task terms raw m taken

-- The table has moves of the term with this number, or none.
abbrev pub IsTabled : Task → List Proc → RawTable → ℕ → Type 0
IsTabled task terms raw m =
    ((taken : List Move) × (rest : List Move) × IsFollowed task terms raw m taken rest) ⊎ AreRows task terms raw m []

-- some of the terms and steps of the component
pub record AreTabled (task : Task) (trees : List Proc) (so_far : Found) : Type 0 where
  pub found : AreFound task trees so_far
  pub rows : (m : ℕ) → IsTabled task (terms_at trees so_far.terms) so_far.table m

-- the terms before the number `at` are followed
abbrev pub AreFollowed : Task → List Proc → Found → ℕ → Type 0
AreFollowed task trees so_far at =
    (k : ℕ) → k < at → (moves : List Move) × IsFollowed task (terms_at trees so_far.terms) so_far.table k moves []

-- They are, and no others.
pub record IsUpTo (task : Task) (trees : List Proc) (so_far : Found) (at : ℕ) : Type 0 where
  pub found : AreFound task trees so_far
  pub within : IsWithin task.room trees so_far
  pub before : AreFollowed task trees so_far at
  pub later : (k : ℕ) → at ≤ k → AreRows task (terms_at trees so_far.terms) so_far.table k []

-- They are, and of the steps of that term the first i are taken.
pub record AreTaken (task : Task) (trees : List Proc) (so_far : Found) (at : ℕ) (steps : List StepTo) (i : ℕ) : Type 0 where
  pub found : AreFound task trees so_far
  pub before : AreFollowed task trees so_far at
  pub here : IsFollowed task (terms_at trees so_far.terms) so_far.table at (map (seen trees) (take i steps)) (map (seen trees) (drop i steps))
  pub later : (k : ℕ) → at < k → AreRows task (terms_at trees so_far.terms) so_far.table k []
  pub places : (k : ℕ) (s : StepTo) → slice_get steps k ≡ Some s → s.to.0 < length trees

pub record IsAt (task : Task) (trees : List Proc) (so_far : Found) (at : ℕ) (steps : List StepTo) (i : ℕ) : Type 0 where
  pub taken : AreTaken task trees so_far at steps i
  pub within : IsWithin task.room trees so_far

-- ---- traces

-- the trace leads to the term with this number
pub record LeadsToTerm (task : Task) (terms : List Proc) (trace : List ℕ) (n : ℕ) : Type 0 where
  pub term : Proc
  pub listed : slice_get terms n ≡ Some term
  pub after : After (ComponentStep (ProcessStep task.program.now)) (part_of task) trace (standing_at (part_of task) term)

-- the events of a step
abbrev pub step_events : Option ℕ → List ℕ
step_events None = []
step_events (Some e) = e ∷ []
