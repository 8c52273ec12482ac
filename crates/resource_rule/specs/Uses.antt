-- U4, and what a user offers while it holds a resource, on its runs and as tests of a node and of the parity of a link's events.
-- (For private contracts: no public one cites this.)
use Rattle.std.specs.Prelude.{◌<◌, ℕ, List, length, Bool, true, ◌&&◌, IsTrue, nat_eq, if◌then◌else◌}
use Rattle.std.specs.List.{list_all, list_any}
use Rattle.csp_base.specs.Prelude.{has, is_subset_of}
use Rattle.csp_tables.specs.Prelude.{Joins, part_at, use_at, link_at, IsPossible, Accepts, accepted}
use Rattle.observed_runs.specs.Prelude.{pair_at, parity_step, IsExploration}
use Rattle.design_rules.specs.Resource.{holds}
use Rattle.shape_links.specs.Setting.{Setting, node_of}

-- the exploration of the part i with the parity of the link l
abbrev pub WatchesLink : Setting → ℕ → ℕ → List (ℕ × ℕ) → Type 0
WatchesLink g i l pairs = IsExploration (part_at g.shape.parts i).table (parity_step (link_at g.shape l).shared) 0 pairs

-- U4 on one link: after the run s the part i uses the resource j there in turn
abbrev pub UsesLink : Setting → ℕ → ℕ → ℕ → List ℕ → Type 0
UsesLink g i l j s = (e : ℕ) → IsPossible g.shape i s e → IsTrue (has (link_at g.shape l).shared e) → IsTrue (if holds g.shape l s then has (use_at g.uses j).release e else has (use_at g.uses j).acquire e)

-- U4 at one event, by the links on which the part i holds a resource
abbrev pub IsInTurn : Setting → ℕ → List ℕ → ℕ → Type 0
IsInTurn g i held e = (j l : ℕ) → Joins g.shape i j l → IsTrue (has (link_at g.shape l).shared e) → IsTrue (if has held l then has (use_at g.uses j).release e else has (use_at g.uses j).acquire e)

-- the part i offers the event in an acceptance in the vocabulary, while it holds the resource of its link l
pub record IsOfferedHolding (g : Setting) (i l e : ℕ) : Type 0 where
  pub run : List ℕ
  pub place : ℕ
  pub accepts : Accepts g.shape i run place
  pub holding : IsTrue (holds g.shape l run)
  pub offered : IsTrue (has (accepted g.shape i run place) e)

-- U4: whether an event that is possible in a user is in turn on the link l to the resource j, in the state 1 where the user
-- holds it and 0 where it does not
abbrev pub is_use : Setting → ℕ → ℕ → ℕ → ℕ → Bool
is_use g l j state e = if has (link_at g.shape l).shared e then (if nat_eq state 0 then has (use_at g.uses j).acquire e else has (use_at g.uses j).release e) else true

abbrev pub are_uses : Setting → ℕ → ℕ → ℕ → ℕ × ℕ → Bool
are_uses g i l j pair = list_all (λ (step : ℕ × ℕ). is_use g l j pair.1 step.0) (node_of g i pair.0).next

-- whether one of the acceptances that lie in the vocabulary has the event
abbrev pub is_offered : List ℕ → List (List ℕ) → ℕ → Bool
is_offered vocabulary accept e = list_any (λ M. is_subset_of M vocabulary && has M e) accept

-- whether the event is offered by the part i at one of the pairs with the state 1
abbrev pub is_offered_at : Setting → ℕ → List (ℕ × ℕ) → ℕ → Bool
is_offered_at g i pairs e = list_any (λ (pair : ℕ × ℕ). nat_eq pair.1 1 && is_offered g.shape.vocabulary (node_of g i pair.0).accept e) pairs

-- each pair has a node of the part i
abbrev pub HaveNodes : Setting → ℕ → List (ℕ × ℕ) → Type 0
HaveNodes g i pairs = (k : ℕ) → k < length pairs → (pair_at pairs k).0 < length (part_at g.shape.parts i).table
