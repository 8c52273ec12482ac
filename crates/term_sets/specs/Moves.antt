-- Steps as lists of events with their targets, and the sets of terms to which they lead.
use Rattle.std.specs.Prelude.{◌≡◌, ◌↔◌, ℕ, nat_eq, Bool, ◌&&◌, List, [], length, get_or, IsTrue}
use Rattle.std.specs.List.{list_any}
use Rattle.csp_base.specs.Members.{has}
use Rattle.csp_tables.specs.Prelude.{After, RawTable, RawStep, has_step}

-- whether the event is listed, and whether it is listed with the target
abbrev pub has_event : List (ℕ × ℕ) → ℕ → Bool
has_event steps e = list_any (λ step. nat_eq e step.0) steps

abbrev pub has_move : List (ℕ × ℕ) → ℕ → ℕ → Bool
has_move steps e t = list_any (λ step. nat_eq e step.0 && nat_eq t step.1) steps

-- the two lists have the same steps
abbrev pub HaveSameMoves : List (ℕ × ℕ) → List (ℕ × ℕ) → Type 0
HaveSameMoves steps others = (e t : ℕ) → has_move steps e t ≡ has_move others e t

-- for each event the list of the targets of its steps
abbrev pub AreTargetLists : List (ℕ × ℕ) → List (List ℕ) → Type 0
AreTargetLists steps lists = (e t : ℕ) → has (get_or lists e []) t ≡ has_move steps e t

-- for each term the list of its steps by events
pub record AreMoveRows (raw : RawTable) (rows : List (List (ℕ × ℕ))) : Type 0 where
  pub size : length rows ≡ raw.count
  pub same : (s e t : ℕ) → has_move (get_or rows s []) e t ≡ has_step raw s e t

-- the listed steps are those of the terms
pub record AreMovesOf (raw : RawTable) (terms : List ℕ) (steps : List (ℕ × ℕ)) : Type 0 where
  pub sound : (e u : ℕ) → IsTrue (has_move steps e u) → (x : ℕ) × IsTrue (has terms x) × IsTrue (has_step raw x e u)
  pub complete : (x e u : ℕ) → IsTrue (has terms x) → IsTrue (has_step raw x e u) → IsTrue (has_move steps e u)

-- silent steps lead from one of the starts to t
pub record IsSilentlyReached (raw : RawTable) (starts : List ℕ) (t : ℕ) : Type 0 where
  pub start : ℕ
  pub listed : IsTrue (has starts start)
  pub silently : After (RawStep raw) start [] t

-- The set has exactly the terms to which a listed step by the event, and then silent steps, lead.
abbrev pub IsNextSet : RawTable → List (ℕ × ℕ) → ℕ → List ℕ → Type 0
IsNextSet raw steps e set = (t : ℕ) → IsTrue (has set t) ↔ ((u : ℕ) × IsTrue (has_move steps e u) × After (RawStep raw) u [] t)
