-- What terms of a numbered table offer: a stable term offers the events of its steps.
use Rattle.std.specs.Prelude.{◌↔◌, ℕ, List, IsTrue}
use Rattle.csp_base.specs.Members.{has}
use Rattle.csp_tables.specs.Path.{Stable}
use Rattle.csp_tables.specs.Trace.{Offers, IsWithin}
use Rattle.csp_tables.specs.RawTable.{RawTable, RawStep}

-- one of the terms is stable, and offers the members of M and nothing else
pub record IsOfferOf (raw : RawTable) (terms M : List ℕ) : Type 0 where
  pub term : ℕ
  pub listed : IsTrue (has terms term)
  pub stable : Stable (RawStep raw) term
  pub offered : (e : ℕ) → IsTrue (has M e) ↔ Offers (RawStep raw) term e

-- an offer of the terms that contains no smaller one
pub record IsMinimalOffer (raw : RawTable) (terms M : List ℕ) : Type 0 where
  pub offer : IsOfferOf raw terms M
  pub least : (N : List ℕ) → IsOfferOf raw terms N → IsWithin N M → IsWithin M N
