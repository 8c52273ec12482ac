-- Of which links a run has an odd number of events. (No rule's decider cites this.)
use Rattle.std.specs.Prelude.{◌≡◌, ℕ, List, [], not, ◌&&◌, length, get_or, if◌then◌else◌}
use Rattle.csp_base.specs.Prelude.{has}
use Rattle.csp_tables.specs.Prelude.{IsRun, Shape, end_of, link_at}
use Rattle.design_rules.specs.Prelude.{count_in, is_odd}
use Rattle.shape_links.specs.Component.{table_of}
use Rattle.shape_links.specs.declared.component.Component.{Component}

-- one set becomes the other by this event: if it is on a watched link, the link comes or goes
abbrev pub IsTurned : Shape → List ℕ → ℕ → List ℕ → List ℕ → Type 0
IsTurned shape watched e odd more = (l : ℕ) → has more l ≡ (if has watched l && has (link_at shape l).shared e then not (has odd l) else has odd l)

-- a set for each node: after each run that of its node has exactly the watched links of which the run has an odd number of events
pub record AreOddLinks (c : Component) (watched : List ℕ) (odd : List (List ℕ)) : Type 0 where
  pub count : length odd ≡ length (table_of c)
  pub each : (s : List ℕ) (l : ℕ) → IsRun (table_of c) s → has (get_or odd (end_of (table_of c) 0 s) []) l ≡ (has watched l && is_odd (count_in (link_at c.shape.now l).shared s))
