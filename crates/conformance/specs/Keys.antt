-- A table and one of a specification as a list of numbers, in which the events of an alphabet have numbers of their own. (For private contracts: no
-- public one cites this.)
use Rattle.std.specs.Prelude.{◌≡◌, ◌++◌, ◌∷◌, [], ℕ, List, Some, IsTrue, length, slice_get}
use Rattle.csp_base.specs.Standard.{flat_map}
use Rattle.csp_base.specs.Members.{has}
use Rattle.csp_tables.specs.Prelude.{Part, Node}
use Rattle.conformance.specs.Conforming.{AreMatched, TableConforms}

-- how many there are, and what is coded of each
abbrev pub listed : {X : Type 0} → (X → List ℕ) → List X → List ℕ
listed code xs = length xs ∷ flat_map code xs

module _ (number : ℕ → ℕ) where
  abbrev pub step_code : ℕ × ℕ → List ℕ
  step_code step = number step.0 ∷ step.1 ∷ []

  abbrev pub event_code : ℕ → List ℕ
  event_code e = number e ∷ []

  abbrev pub set_code : List ℕ → List ℕ
  set_code set = listed event_code set

  abbrev pub node_code : Node → List ℕ
  node_code node = listed step_code node.next ++ listed set_code node.accept

  abbrev pub table_code : List Node → List ℕ
  table_code table = listed node_code table

-- no two events of the alphabet have one number
abbrev pub IsOneToOne : List ℕ → (ℕ → ℕ) → Type 0
IsOneToOne alphabet number = (e f : ℕ) → IsTrue (has alphabet e) → IsTrue (has alphabet f) → number e ≡ number f → e ≡ f

-- the tables of both parts, with numbers for the events of the first one's alphabet
pub record IsKey (part specified : Part) (key : List ℕ) : Type 0 where
  pub number : ℕ → ℕ
  pub one : IsOneToOne part.alphabet number
  pub is : key ≡ table_code number part.table ++ table_code number specified.table

-- it is the key of a part that conforms to its specification
pub record KeyConforms (key : List ℕ) : Type 0 where
  pub part : Part
  pub specified : Part
  pub are : AreMatched part specified
  pub is : IsKey part specified key
  pub conforms : TableConforms part.table specified.table

abbrev pub AllKeysConform : List (List ℕ) → Type 0
AllKeysConform keys = (k : ℕ) (key : List ℕ) → slice_get keys k ≡ Some key → KeyConforms key
