-- Who is acquired by an event. (No rule's decider cites this.)
use Rattle.std.specs.Prelude.{ℕ, Bool, ◌&&◌}
use Rattle.csp_base.specs.Members.{has}
use Rattle.csp_tables.specs.Roles.{use_at}
use Rattle.shape_links.specs.Setting.{Setting}

-- whether the event acquires the resource j
abbrev pub is_acquired_by : Setting → ℕ → ℕ → Bool
is_acquired_by g j e = (use_at g.uses j).resource && has (use_at g.uses j).acquire e
