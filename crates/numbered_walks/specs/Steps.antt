-- What the steps of a walk do to where components stand. (For private contracts: no public one cites this.)
use Rattle.std.specs.Prelude.{◌≡◌, ℕ, Bool, List, [], ◌∷◌, ◌++◌, map, slice_index, slice_set}
use Rattle.numbered_walks.specs.Marks.{marked}
use Rattle.csp_tables.specs.Prelude.{Label, targets_in}
use Rattle.numbered_walks.specs.Agreements.{component_at}
use Rattle.numbered_walks.specs.Draws.{IsDrawn}
use Rattle.numbered_walks.specs.Numbered.{Goes, Has, Numbered}
use Rattle.numbered_walks.specs.Numbers.{next_number}
use Rattle.numbered_walks.specs.Walks.{Chooses, HasNone, IsWalk}
use Rattle.numbered_walks.specs.declared.moves.Move.{Move}
use Rattle.numbered_walks.specs.declared.moves.Move.TheVariants as move
use Rattle.numbered_walks.specs.declared.standing.Standing.{Standing}

-- the component in this place does a step with this label, to the target that is drawn, and the others stay
pub record Does (cs : List Numbered) (i : ℕ) (l : Label) (old new : Standing) : Type 0 where
  pub next : ℕ
  pub drawn : IsDrawn (targets_in (component_at cs i).table (slice_index old.terms.items i) l) old.drawn next new.drawn
  pub others : new.terms.items ≡ slice_set old.terms.items i next

-- the components in these places do so, one after another
abbrev pub AllGo : List Numbered → Label → List ℕ → List ℕ → ℕ → List ℕ → ℕ → Type 0
AllGo cs l [] xs y ys z = (xs ≡ ys) × (y ≡ z)
AllGo cs l (i ∷ places) xs y ys z = (n : ℕ) × (w : ℕ) × IsDrawn (targets_in (component_at cs i).table (slice_index xs i) l) y n w × AllGo cs l places (slice_set xs i n) w ys z

abbrev pub AllGoOn : List Numbered → Label → List ℕ → Standing → Standing → Type 0
AllGoOn cs l places old new = AllGo cs l places old.terms.items old.drawn new.terms.items new.drawn

-- the option is taken
abbrev pub GoesOn : List Numbered → Move → Standing → Standing → Type 0
GoesOn cs option old new = Goes cs old.terms.items old.drawn option new.terms.items new.drawn

-- the moves lead from one to the other, where this number is the one before them
abbrev pub WalksOn : List Numbered → ℕ → List Move → Standing → Standing → Type 0
WalksOn cs number moves old new = IsWalk (Has cs) (Goes cs) number old.drawn old.terms.items moves new.terms.items new.drawn

-- the marked components silently, then the marked events
abbrev pub options : List Bool → List Bool → List Move
options restless agreed = map (λ i. move.Silent i) (marked restless) ++ map (λ e. move.Event e) (marked agreed)

-- the number after so many
abbrev pub number_after : ℕ → List Move → ℕ
number_after x [] = x
number_after x (m ∷ ms) = number_after (next_number x) ms

-- there is no option, and nothing moves
pub record IsAtEnd (cs : List Numbered) (old new : Standing) : Type 0 where
  pub stays : new.terms.items ≡ old.terms.items
  pub keeps : new.drawn ≡ old.drawn
  pub none : HasNone (Has cs new.terms.items)

-- the option is chosen by the number and taken
pub record IsStep (cs : List Numbered) (number : ℕ) (old new : Standing) (option : Move) : Type 0 where
  pub chosen : Chooses (Has cs old.terms.items) number option
  pub goes : GoesOn cs option old new
