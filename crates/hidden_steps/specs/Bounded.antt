-- Where all components are taken, hidden events that follow one another, with silent steps between, are bounded.
--
-- Each step of that kind belongs to one component: a silent one to that which moves, an event to the first in the order that has it. Between
-- two steps that it shares with earlier ones, a component walks its own graph. So it has at most as many steps of its own as its height, once and
-- once more for each step of an earlier one that it shares; and there are at most as many of those as their bounds say, by induction over the order.
use Rattle.std.specs.Prelude.{◌≤◌, ◌⊎◌, ℕ, List, IsTrue}
use Rattle.digraph.specs.Walk.{Walk}
use Rattle.csp_base.specs.Members.{has}
use Rattle.csp_tables.specs.Prelude.{Label, silent, visible, NetworkStep, Tree, leaves, Reached, WellNested}
use Rattle.hidden_steps.specs.Order.{IsOrder, Taken, hidden_bound}

-- a step that is silent or by a hidden event
abbrev pub HiddenStep : {S : Type 0} → (S → Label → S → Type 0) → List ℕ → S → S → Type 0
HiddenStep Step hidden s t = Step s silent t ⊎ ((e : ℕ) × IsTrue (has hidden e) × Step s (visible e) t)

abbrev pub HiddenStepsAreBounded : {T : Type 0} → (T → Label → T → Type 0) → Type 0
HiddenStepsAreBounded {T} Step =
    (tree u v : Tree T) (hidden : List ℕ) (order : List Taken) (n : ℕ) → WellNested tree → IsOrder Step hidden (leaves tree) order
    → Reached (NetworkStep Step) tree u → Walk (HiddenStep (NetworkStep Step) hidden) n u v → n ≤ hidden_bound hidden order
