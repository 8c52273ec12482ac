-- Which events all of their owners offer, by counting. (For private contracts: no public one cites this.)
use Rattle.std.specs.Prelude.{◌≡◌, ℕ, ◌+◌, ◌<◌, ◌≤◌, ◌^◌, nat_eq, Bool, true, false, not, ◌&&◌, List, [], ◌∷◌, length, map, slice_index, slice_index_or}
use Rattle.acceptances.specs.OfferTests.{can_do, is_unstable}
use Rattle.numbered_walks.specs.Marks.{bit, marked}
use Rattle.csp_base.specs.Members.{has}
use Rattle.numbered_walks.specs.Numbered.{Numbered, OwnsItsSteps}
use Rattle.numbered_walks.specs.declared.agreement.Agreement.{Agreement}
use Rattle.numbered_walks.specs.declared.standing.Standing.{Standing}

-- how many components have the event, and how many offer it
abbrev pub owners_of : Agreement → ℕ → ℕ
owners_of a e = slice_index a.owners.items e

abbrev pub offers_of : Agreement → ℕ → ℕ
offers_of a e = slice_index a.offering.items e

-- whether an event with so many owners, of which so many offer it, is offered by all of them
abbrev pub is_agreed : ℕ → ℕ → Bool
is_agreed owners offering = nat_eq offering owners && not (nat_eq owners 0)

-- the marks are those of the events that all of their owners offer
pub record IsAgreement (a : Agreement) : Type 0 where
  pub offering : length a.offering.items ≡ length a.owners.items
  pub agreed : length a.agreed ≡ length a.owners.items
  pub marks : (e : ℕ) → slice_index_or a.agreed e false ≡ is_agreed (owners_of a e) (offers_of a e)

-- the components that have the event, by their places
abbrev pub owner_marks : ℕ → List Numbered → List Bool
owner_marks e cs = map (λ (c : Numbered). has c.alphabet e) cs

-- how many have it
abbrev pub owner_count : ℕ → List Numbered → ℕ
owner_count e [] = 0
owner_count e (c ∷ cs) = bit (has c.alphabet e) + owner_count e cs

-- how many offer it where they stand
abbrev pub offer_count : ℕ → List Numbered → List ℕ → ℕ
offer_count e [] xs = 0
offer_count e (c ∷ cs) [] = 0
offer_count e (c ∷ cs) (x ∷ xs) = bit (can_do c.table x e) + offer_count e cs xs

-- for each event the row of its owners
abbrev pub AreOwnerRows : List Numbered → List (List ℕ) → Type 0
AreOwnerRows cs rows = (e : ℕ) → slice_index_or rows e [] ≡ marked (owner_marks e cs)

-- past the end stands a component without events and without terms
abbrev pub component_at : List Numbered → ℕ → Numbered
component_at cs i = slice_index_or cs i (record { alphabet = []; table = record { silent = []; steps = []; count = 0 } })

-- the terms where components stand, what is marked of them, and what is counted
pub record IsStanding (cs : List Numbered) (s : Standing) : Type 0 where
  pub one_each : length s.terms.items ≡ length cs
  pub within : (i : ℕ) → i < length cs → slice_index s.terms.items i < (component_at cs i).table.count
  pub own : (i : ℕ) → i < length cs → OwnsItsSteps (component_at cs i).alphabet (component_at cs i).table
  pub marks : length s.restless ≡ length cs
  pub restless : (i : ℕ) → i < length cs → slice_index_or s.restless i false ≡ is_unstable (component_at cs i).table (slice_index s.terms.items i)
  pub agreement : IsAgreement s.agreement
  pub owners : (e : ℕ) → owners_of s.agreement e ≡ owner_count e cs
  pub offering : (e : ℕ) → offers_of s.agreement e ≡ offer_count e cs s.terms.items
  pub small : length s.agreement.owners.items ≤ 2 ^ 32
