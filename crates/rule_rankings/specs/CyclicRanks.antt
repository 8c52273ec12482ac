-- The ranks and laps of a part. (No rule's decider cites this.)
use Rattle.std.specs.Prelude.{◌≡◌, ◌<◌, ◌≤◌, ℕ, ℤ, pos, List, IsTrue, length, nat_eq, slice_index, if◌then◌else◌}
use Rattle.csp_base.specs.Members.{has}
use Rattle.csp_tables.specs.Prelude.{Meet, Shape, link_at}
use Rattle.shape_links.specs.Links.{IsOwner, IsOnOne, ends_of}

-- the rank of an acceptance: the number of the link on which it lies
abbrev pub IsRank : Shape → (ℕ → ℕ) → List ℕ → ℤ → Type 0
IsRank shape number M rank = (l : ℕ) → IsOnOne shape M → l < length shape.links → Meet M (link_at shape l).shared → rank ≡ pos (number l)

-- the greatest number of a link of the list, 0 if there is none
pub record IsGreatest (number : ℕ → ℕ) (links : List ℕ) (top : ℕ) : Type 0 where
  pub above : (l : ℕ) → IsTrue (has links l) → number l ≤ top
  pub attained : (l : ℕ) → IsTrue (has links l) → (m : ℕ) × IsTrue (has links m) × (number m ≡ top)

-- the lap of an event: 1 where it lies on a link with the greatest number, else 0
pub record IsLap (shape : Shape) (number : ℕ → ℕ) (top : ℕ) (event lap : ℕ) : Type 0 where
  pub on_link : (l : ℕ) → IsOwner shape l event → lap ≡ (if nat_eq (number l) top then 1 else 0)
  pub other : ((l : ℕ) → IsOwner shape l event → ⊥) → lap ≡ 0
  pub at_most : lap ≤ 1

-- for each of the first n parts the greatest number of its links
pub record AreTops (shape : Shape) (number : ℕ → ℕ) (n : ℕ) (tops : List ℕ) : Type 0 where
  pub count : length tops ≡ n
  pub greatest : (i : ℕ) → i < n → IsGreatest number (ends_of shape i) (slice_index tops i)
