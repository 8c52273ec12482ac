-- The alphabets of components together, and where an alphabet differs from them.
use Rattle.std.specs.Prelude.{ℕ, min, Option, Some, None, List, [], ◌∷◌}
use Rattle.csp_base.specs.Events.{diff_of, union_of}
use Rattle.csp_tables.specs.Network.{Component}

-- the events of all the components, rising
abbrev pub joint : {T : Type 0} → List (Component T) → List ℕ
joint [] = []
joint (c ∷ cs) = union_of c.alphabet (joint cs)

-- the first event of a rising list, which is the least
abbrev pub first_event : List ℕ → Option ℕ
first_event [] = None
first_event (e ∷ es) = Some e

abbrev pub lesser : Option ℕ → Option ℕ → Option ℕ
lesser None d = d
lesser (Some e) None = Some e
lesser (Some e) (Some d) = Some (min e d)

-- the least event that is in exactly one of two sets
abbrev pub odd_event : List ℕ → List ℕ → Option ℕ
odd_event xs ys = lesser (first_event (diff_of xs ys)) (first_event (diff_of ys xs))
