-- Sets of terms of a raw table, written as rising lists.
use Rattle.std.specs.Prelude.{◌↔◌, ◌<◌, ℕ, List, IsTrue, All}
use Rattle.csp_base.specs.Standard.{IsStrictlyIncreasing, IsStrictlySortedBy, slice_cmp, nat_cmp}
use Rattle.csp_base.specs.Members.{has}
use Rattle.csp_tables.specs.Prelude.{Stable, After, IsTrace, RawTable, RawStep, IsMinimalOffer, OffersAcceptance, IsListed}
use Rattle.term_sets.specs.Moves.{IsSilentlyReached}

-- of the sets that stable terms among these offer, those that contain no smaller one
pub record AreMinimalOffers (raw : RawTable) (terms : List ℕ) (sets : List (List ℕ)) : Type 0 where
  pub sound : All (IsMinimalOffer raw terms) sets
  pub complete : (M : List ℕ) → IsMinimalOffer raw terms M → IsListed sets M
  pub covered : (n : ℕ) → IsTrue (has terms n) → Stable (RawStep raw) n → OffersAcceptance (RawStep raw) n sets
  pub rising : All IsStrictlyIncreasing sets
  pub order : IsStrictlySortedBy (slice_cmp nat_cmp) sets

-- a set of terms of the table, written as a rising list
pub record IsTermSet (raw : RawTable) (set : List ℕ) : Type 0 where
  pub rising : IsStrictlyIncreasing set
  pub within : All (λ t. t < raw.count) set

-- silent steps from the starts lead to exactly the terms of the set
pub record IsSilentClosure (raw : RawTable) (starts set : List ℕ) : Type 0 where
  pub members : (t : ℕ) → IsTrue (has set t) ↔ IsSilentlyReached raw starts t
  pub form : IsTermSet raw set

-- The trace leads to the terms of the set, and to one at least.
pub record IsSetAfter (raw : RawTable) (s set : List ℕ) : Type 0 where
  pub terms : (t : ℕ) → IsTrue (has set t) ↔ After (RawStep raw) 0 s t
  pub some : IsTrace (RawStep raw) 0 s
