-- Components given by their alphabets and their numbered tables. A state is the list of the terms where they stand.
use Rattle.std.specs.Prelude.{◌≡◌, ℕ, ◌+◌, Bool, Some, List, [], ◌∷◌, IsTrue, MatchBool, slice_get, slice_set, map}
use Rattle.std.specs.List.{list_any}
use Rattle.csp_base.specs.Members.{has}
use Rattle.csp_tables.specs.Prelude.{Label, silent, visible, RawStep, RawTable, targets_in}
use Rattle.numbered_walks.specs.Draws.{IsDrawn, label, takes_part}
use Rattle.numbered_walks.specs.declared.moves.Move.{Move}
use Rattle.numbered_walks.specs.declared.moves.Move.TheVariants as move

pub record Numbered : Type 0 where
  pub alphabet : List ℕ
  pub table : RawTable

-- each event of the table's steps is in the alphabet
abbrev pub OwnsItsSteps : List ℕ → RawTable → Type 0
OwnsItsSteps alphabet table = (m e n : ℕ) → RawStep table m (visible e) n → IsTrue (has alphabet e)

-- the component has a step with this label where it stands
abbrev pub Can : Label → Numbered → ℕ → Type 0
Can l c x = (y : ℕ) × RawStep c.table x l y

-- whether a component has the event in its alphabet
abbrev pub has_owner : List Numbered → ℕ → Bool
has_owner cs e = list_any (λ c. has c.alphabet e) cs

-- each component with the event in its alphabet can do it
abbrev pub AllCan : ℕ → List Numbered → List ℕ → Type 0
AllCan e [] [] = Unit {0}
AllCan e [] (x ∷ xs) = ⊥
AllCan e (c ∷ cs) [] = ⊥
AllCan e (c ∷ cs) (x ∷ xs) = (IsTrue (has c.alphabet e) → Can (visible e) c x) × AllCan e cs xs

-- each component with the event in its alphabet does it, and the others stay
abbrev pub AllDo : ℕ → List Numbered → List ℕ → List ℕ → Type 0
AllDo e [] [] [] = Unit {0}
AllDo e (c ∷ cs) (x ∷ xs) (y ∷ ys) = MatchBool (has c.alphabet e) (RawStep c.table x (visible e) y) (x ≡ y) × AllDo e cs xs ys
AllDo e cs xs ys = ⊥

-- the component in this place can move silently
pub record OneCan (cs : List Numbered) (xs : List ℕ) (i : ℕ) : Type 0 where
  pub component : Numbered
  pub there : slice_get cs i ≡ Some component
  pub term : ℕ
  pub at : slice_get xs i ≡ Some term
  pub can : Can silent component term

-- the component in this place moves silently, and the others stay
pub record OneDoes (cs : List Numbered) (xs : List ℕ) (i : ℕ) (ys : List ℕ) : Type 0 where
  pub component : Numbered
  pub there : slice_get cs i ≡ Some component
  pub term : ℕ
  pub at : slice_get xs i ≡ Some term
  pub next : ℕ
  pub step : RawStep component.table term silent next
  pub others : ys ≡ slice_set xs i next

-- the options of a state
abbrev pub Has : List Numbered → List ℕ → Move → Type 0
Has cs xs (move.Silent i) = OneCan cs xs i
Has cs xs (move.Event e) = IsTrue (has_owner cs e) × AllCan e cs xs

-- the state to which an option leads
abbrev pub Takes : List Numbered → List ℕ → Move → List ℕ → Type 0
Takes cs xs (move.Silent i) ys = OneDoes cs xs i ys
Takes cs xs (move.Event e) ys = IsTrue (has_owner cs e) × AllDo e cs xs ys

-- one component takes part in a move, and goes where it is drawn, or stays
abbrev pub OneDraws : Move → ℕ → Numbered → ℕ → ℕ → ℕ → ℕ → Type 0
OneDraws m i c y x n z = MatchBool (takes_part m i c.alphabet) (IsDrawn (targets_in c.table x (label m)) y n z) ((x ≡ n) × (y ≡ z))

-- so each component from the place i on, one after another
abbrev pub AllDraw : Move → ℕ → List Numbered → ℕ → List ℕ → List ℕ → ℕ → Type 0
AllDraw m i [] y [] [] z = y ≡ z
AllDraw m i (c ∷ cs) y (x ∷ xs) (n ∷ ns) z = (w : ℕ) × OneDraws m i c y x n w × AllDraw m (i + 1) cs w xs ns z
AllDraw m i cs y xs ns z = ⊥

-- the state to which an option leads by the numbers after y, of which z is the last that is drawn
pub record Goes (cs : List Numbered) (xs : List ℕ) (y : ℕ) (m : Move) (ys : List ℕ) (z : ℕ) : Type 0 where
  pub takes : Takes cs xs m ys
  pub draws : AllDraw m 0 cs y xs ys z

-- each component at the first term of its table
abbrev pub first_terms : List Numbered → List ℕ
first_terms cs = map (λ c. 0) cs
