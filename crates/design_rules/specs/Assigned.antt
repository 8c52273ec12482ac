-- How a script assigns a component's events: sets of them that part what the component shares with others.
use Rattle.std.specs.Prelude.{◌≡◌, ℕ, List, ◌&&◌, if◌then◌else◌}
use Rattle.csp_base.specs.Members.{has}
use Rattle.csp_tables.specs.Prelude.{part_at, sharers, Shape}

-- Each shared event of the component is in exactly one of the sets, and no other event is in any: the sets are disjoint, and
-- together they are the component's events in the vocabulary.
abbrev pub PartShared : Shape → ℕ → List (List ℕ) → Type 0
PartShared shape i sets = (e : ℕ) → sharers sets e ≡ (if has (part_at shape.parts i).alphabet e && has shape.vocabulary e then 1 else 0)
