-- Where a walk over trees stands: what names are declared as, what the definitions are, which names are bound there
-- with their numbers, and the number of the next binding token.
use Rattle.std.specs.Prelude.{◌+◌, ℕ, List}
use Rattle.csp_text.specs.declared.tree.Tree.{Tree}
use Rattle.script_names.specs.Prelude.{Entities, first_of, Reading, Scope, reading}
use Rattle.script_names.specs.declared.kinds.Kind.{Kind}

pub record Walked : Type 0 where
  pub names : Entities
  pub kinds : List Kind
  pub scope : Scope
  pub next : ℕ

abbrev pub standing : Entities → List Kind → Scope → ℕ → Walked
standing names kinds scope next = record { names = names; kinds = kinds; scope = scope; next = next }

-- so many binding tokens on
abbrev pub past : Walked → ℕ → Walked
past w count = record w { next = w.next + count }

-- what a tree is there
abbrev pub read_at : Walked → Tree → Reading
read_at w t = reading (first_of w.names) w.kinds t
