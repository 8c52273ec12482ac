-- U2 and U3 as tests of a node and of a state that an observer has there. (No rule's decider cites this.)
use Rattle.std.specs.Prelude.{◌-◌, ℕ, List, Bool, true, not, ◌&&◌, ◌||◌, nat_eq, if◌then◌else◌}
use Rattle.std.specs.List.{list_all}
use Rattle.csp_base.specs.Prelude.{has, is_subset_of, inter_of}
use Rattle.csp_tables.specs.Prelude.{use_at, link_at}
use Rattle.design_rules.specs.Resource.{GrantsAll, IsUsedInTurn}
use Rattle.resource_conditions.specs.declared.resources.Asked.{Asked}
use Rattle.resource_conditions.specs.declared.resources.Asked.TheVariants as asked
use Rattle.shape_links.specs.Setting.{Setting, node_of}

-- U2: whether an event that is possible in the resource i is in turn, in the state of its holder: 0 where it is free, else
-- 1 + the holder's link
abbrev pub is_turn : Setting → ℕ → ℕ → ℕ → Bool
is_turn g i state e = if has g.shape.vocabulary e then (if nat_eq state 0 then has (use_at g.uses i).acquire e else has (use_at g.uses i).release e && has (link_at g.shape (state - 1)).shared e) else true

abbrev pub are_turns : Setting → ℕ → ℕ × ℕ → Bool
are_turns g i pair = list_all (λ (step : ℕ × ℕ). is_turn g i pair.1 step.0) (node_of g i pair.0).next

-- U3: what an acceptance of the resource i must have in this state of its holder
abbrev pub wanted_in : Setting → ℕ → ℕ → List ℕ
wanted_in g i state = if nat_eq state 0 then (use_at g.uses i).acquire else inter_of (use_at g.uses i).release (link_at g.shape (state - 1)).shared

-- whether each acceptance in the vocabulary has all that is wanted
abbrev pub are_granted : List ℕ → List ℕ → List (List ℕ) → Bool
are_granted vocabulary wanted accept = list_all (λ M. not (is_subset_of M vocabulary) || is_subset_of wanted M) accept

abbrev pub are_grants : Setting → ℕ → ℕ × ℕ → Bool
are_grants g i pair = are_granted g.shape.vocabulary (wanted_in g i pair.1) (node_of g i pair.0).accept

-- what is asked of the resource i after the run s, and whether it meets that at this node
abbrev pub Keeps : Asked → Setting → ℕ → List ℕ → Type 0
Keeps asked.Turns g i s = IsUsedInTurn g.shape g.uses i s
Keeps asked.Grants g i s = GrantsAll g.shape g.uses i s

abbrev pub meets : Asked → Setting → ℕ → ℕ → ℕ → Bool
meets asked.Turns g i node state = are_turns g i (node, state)
meets asked.Grants g i node state = are_grants g i (node, state)
