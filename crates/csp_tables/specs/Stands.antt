-- Where parts stand after events of the network: each follows those of the events that are in its alphabet. A list that two
-- parts can follow so is a joint run of the two.
use Rattle.std.specs.Prelude.{◌<◌, ℕ, List, [], length, get_or, IsTrue}
use Rattle.csp_base.specs.Members.{has}
use Rattle.csp_tables.specs.Table.{IsRun, acceptances_after}
use Rattle.csp_tables.specs.Part.{Part, part_at, project, IsNonEmpty}

-- the part can follow its events of the list
abbrev pub Follows : Part → List ℕ → Type 0
Follows p s = IsRun p.table (project p.alphabet s)

-- each of the two can
pub record IsJointRun (p q : Part) (s : List ℕ) : Type 0 where
  pub left : Follows p s
  pub right : Follows q s

-- the acceptances of the node to which the part comes
abbrev pub acceptances_of : Part → List ℕ → List (List ℕ)
acceptances_of p s = acceptances_after p.table (project p.alphabet s)

-- the acceptance in place k of that node
abbrev pub acceptance : Part → List ℕ → ℕ → List ℕ
acceptance p s k = get_or (acceptances_of p s) k []

-- The part follows the events, and stands then at the acceptance in place k, which is not empty.
pub record Stands (p : Part) (s : List ℕ) (k : ℕ) : Type 0 where
  pub follows : Follows p s
  pub listed : k < length (acceptances_of p s)
  pub some : IsNonEmpty (acceptance p s k)

-- each part stands so, at the acceptance whose place is told
abbrev pub AllStand : List Part → List ℕ → (ℕ → ℕ) → Type 0
AllStand parts s places = (i : ℕ) → i < length parts → Stands (part_at parts i) s (places i)

-- The event is in the alphabet of a part, and each part with this event in its alphabet has it in its acceptance.
pub record IsAgreed (parts : List Part) (s : List ℕ) (places : ℕ → ℕ) (e : ℕ) : Type 0 where
  pub owner : ℕ
  pub within : owner < length parts
  pub owned : IsTrue (has (part_at parts owner).alphabet e)
  pub agreed : (j : ℕ) → j < length parts → IsTrue (has (part_at parts j).alphabet e) → IsTrue (has (acceptance (part_at parts j) s (places j)) e)
