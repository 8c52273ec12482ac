-- Events in three alphabets, and the components that have them.
use Rattle.std.specs.Prelude.{◌≡◌, ◌<◌, ◌≤◌, ◌+◌, ℕ, nat_le, if◌then◌else◌, List, [], ◌∷◌, map, take}
use Rattle.csp_base.specs.Members.{has}
use Rattle.csp_program.specs.declared.processes.Proc.{Proc}
use Rattle.csp_tables.specs.Prelude.{Component, sharers}
use Rattle.network_layout.specs.declared.triple.Counted.{Counted}
use Rattle.network_layout.specs.declared.triple.TripleFault.{TripleFault}

abbrev pub alphabets : List (Component Proc) → List (List ℕ)
alphabets seats = map (λ c. c.alphabet) seats

-- the places of the alphabets that have the event, the first of which has the place n
abbrev pub holders : ℕ → List (List ℕ) → ℕ → List ℕ
holders n [] e = []
holders n (alphabet ∷ alphabets) e = if has alphabet e then n ∷ holders (n + 1) alphabets e else holders (n + 1) alphabets e

-- The event is the least in three alphabets or more, and the parts are the first three components that have it.
pub record SharesEvent (alphabets : List (List ℕ)) (fault : TripleFault) : Type 0 where
  pub least : (e : ℕ) → e < fault.event → sharers alphabets e ≤ 2
  pub first : take 3 (holders 0 alphabets fault.event) ≡ fault.parts.0 ∷ fault.parts.1 ∷ fault.parts.2 ∷ []

-- The rest serves private calls.

-- the set has the events that are in so many alphabets or more
abbrev pub AreIn : ℕ → List (List ℕ) → List ℕ → Type 0
AreIn n alphabets events = (e : ℕ) → has events e ≡ nat_le n (sharers alphabets e)

abbrev pub AreCrowded : List (List ℕ) → List ℕ → Type 0
AreCrowded = AreIn 3

pub record IsCounted (alphabets : List (List ℕ)) (counted : Counted) : Type 0 where
  pub one : AreIn 1 alphabets counted.once
  pub two : AreIn 2 alphabets counted.twice
  pub three : AreIn 3 alphabets counted.thrice
