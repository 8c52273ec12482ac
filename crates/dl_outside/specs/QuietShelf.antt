-- A shelf that hands out given strings, and tells nothing of them.
use Rattle.std.specs.Prelude.{ℕ, ◌≡◌, ◌+◌, ◌^◌, ◌<◌, ◌≤◌, List, [], ◌∷◌, length, Result, Ok, Err}
use Rattle.dl_outside.specs.Count.{one_more}
use Rattle.dl_outside.specs.declared.shelf.LoadFault.{LoadFault}
use Rattle.dl_outside.specs.declared.shelf.LoadFault.TheVariants.{Missing, TooLong, Failed, NoMemory}

-- The strings that are left, and the counts of its faults and of the bytes that it took.
pub record QuietShelfState : Type 0 where
  pub answers : List (List ℕ)
  pub faults : ℕ
  pub taken : ℕ

-- There is no string to turn to: none is left, or its length would take the count of bytes past 64 bits.
abbrev pub HasNoNext : List (List ℕ) → ℕ → Type 0
HasNoNext [] taken = Unit {0}
HasNoNext (text ∷ others) taken = 2 ^ 64 ≤ taken + length text

-- It turns to this string, and counts its whole length.
pub record TurnsTo (old new : QuietShelfState) (text : List ℕ) : Type 0 where
  pub next : old.answers ≡ text ∷ new.answers
  pub counted : new.taken ≡ old.taken + length text
  pub unfailed : new.faults ≡ old.faults

-- It has nothing to turn to, and counts that as a fault.
pub record FailsToTurn (old new : QuietShelfState) : Type 0 where
  pub none : HasNoNext old.answers old.taken
  pub counted : new.faults ≡ one_more old.faults
  pub answers_stay : new.answers ≡ old.answers
  pub taken_stays : new.taken ≡ old.taken

-- What it answers: the next string, whatever the name is. It needs no memory.
abbrev pub QuietAnswers : QuietShelfState → QuietShelfState → ℕ → Result (List ℕ) LoadFault → Type 0
QuietAnswers old new limit (Ok bytes) = TurnsTo old new bytes × (length bytes ≤ limit)
QuietAnswers old new limit (Err TooLong) = (text : List ℕ) × TurnsTo old new text × (limit < length text)
QuietAnswers old new limit (Err Failed) = FailsToTurn old new
QuietAnswers old new limit (Err Missing) = ⊥
QuietAnswers old new limit (Err NoMemory) = ⊥
