-- The words of which a reader of the grammar is made: it reads a tree from the front of a list of tokens and answers it with what is left, or nothing.
-- It never goes back: it decides by the next token.
use Rattle.std.specs.Prelude.{ℕ, Bool, nat_eq, Option, Some, None, List, [], ◌∷◌}
use Rattle.csp_text.specs.declared.token.Token.{Token}
use Rattle.csp_text.specs.declared.tree.Tree.{Tree}
use Rattle.csp_text.specs.declared.tree.Tree.TheVariants as tree
use Rattle.csp_grammar.specs.Tokens.{begins, behind_name}

-- what is read from the front of a list, with what is left of it
abbrev pub Reading : Type 0 → Type 0
Reading A = Option (A × List Token)

-- goes on with what was read
abbrev pub and_then : {A B : Type 0} → Option A → (A → Option B) → Option B
and_then None next = None
and_then (Some a) next = next a

-- one way where something is there, and another where nothing is
abbrev pub case : {A B : Type 0} → Option A → (A → Option B) → (Unit {0} → Option B) → Option B
case None there not_there = not_there tt
case (Some a) there not_there = there a

-- whether a name stands in front of what goes on with the name of an event: `->`, `.`, `!` or `?`
abbrev pub begins_event : List Token → Bool
begins_event ts = nat_eq (begins (behind_name ts)) 10

-- a dotted event, which has a field
abbrev pub dotted_tree : List ℕ → List Tree → Option Tree
dotted_tree c [] = None
dotted_tree c (a ∷ fields) = Some (tree.Dot c (a ∷ fields))

-- the one tree of a list
abbrev pub only : List Tree → Option Tree
only [] = None
only (a ∷ []) = Some a
only (a ∷ b ∷ more) = None

abbrev pub with_first : Tree → Option (List Tree) → Option (List Tree)
with_first a None = None
with_first a (Some fields) = Some (a ∷ fields)
