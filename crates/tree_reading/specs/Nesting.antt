-- The limits of what is nested: how many brackets may still be opened, and how deep a tree may be.
use Rattle.std.specs.Prelude.{ℕ, zero, suc, Bool, true, false, nat_le, Option, Some, None}
use Rattle.csp_text.specs.Prelude.{tree_depth}
use Rattle.csp_text.specs.declared.tree.Tree.{Tree}
use Rattle.csp_grammar.specs.Reader.{and_then}
use Rattle.tree_reading.specs.declared.limits.Limits.{Limits}
use Rattle.dl_limits.specs.declared.TheConstants.{MOST_BRACKETS, MOST_TREE_DEPTH}

-- goes on only where the test holds
abbrev pub sure : Bool → Option (Unit {0})
sure false = None
sure true = Some tt

-- the limits with so many brackets and this depth
abbrev pub limits : ℕ → ℕ → Limits
limits brackets depth = record { brackets = brackets; depth = depth }

-- those of a tree that stands in no other
abbrev pub whole : Limits
whole = limits MOST_BRACKETS MOST_TREE_DEPTH

abbrev pub less : ℕ → Option ℕ
less zero = None
less (suc n) = Some n

-- the limits below one more bracket, if it may be opened
abbrev pub bracketed : Limits → Option Limits
bracketed l = and_then (less l.brackets) λ n. Some (record { brackets = n; depth = l.depth })

-- the limits of the parts of a node, if there may be one
abbrev pub inside : Limits → Option Limits
inside l = and_then (less l.depth) λ d. Some (record { brackets = l.brackets; depth = d })

-- the limits of the parts of a node that opens a bracket
abbrev pub opened : Limits → Option Limits
opened l = and_then (bracketed l) λ m. inside m

-- the limits of the parts of a node, if the tree may be one of them
abbrev pub around : Limits → Tree → Option Limits
around l t = and_then (inside l) λ e. and_then (sure (nat_le (tree_depth t) e.depth)) λ _. Some e
