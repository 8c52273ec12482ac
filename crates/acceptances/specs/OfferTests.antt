-- What each term of a table offers, as tests that compute.
use Rattle.std.specs.Prelude.{◌≡◌, ◌↔◌, ℕ, ◌<◌, nat_eq, Bool, false, ◌&&◌, not, if◌then◌else◌, List, [], ◌∷◌, length, slice_index_or}
use Rattle.csp_base.specs.Standard.{Contains, filter, list_any, flat_map, IsStrictlyIncreasing, IsStrictlySortedBy, slice_cmp, nat_cmp}
use Rattle.csp_base.specs.Events.{has, is_subset_of}
use Rattle.csp_tables.specs.RawTable.{RawTable}

-- whether a silent step leads from the term
abbrev pub is_unstable : RawTable → ℕ → Bool
is_unstable raw n = list_any (λ step. nat_eq n step.0) raw.silent

-- whether the term has a step by the event
abbrev pub can_do : RawTable → ℕ → ℕ → Bool
can_do raw n e = list_any (λ step. nat_eq n step.0 && nat_eq e step.1) raw.steps

-- a mark at each term that is not stable
pub record AreMarks (raw : RawTable) (unstable : List Bool) : Type 0 where
  pub one_each : length unstable ≡ raw.count
  pub marks : (n : ℕ) → n < raw.count → slice_index_or unstable n false ≡ is_unstable raw n

-- for each term the set of the events of its steps
pub record AreOffers (raw : RawTable) (sets : List (List ℕ)) : Type 0 where
  pub one_each : length sets ≡ raw.count
  pub events : (n e : ℕ) → n < raw.count → has (slice_index_or sets n []) e ≡ can_do raw n e
  pub rising : (n : ℕ) → n < raw.count → IsStrictlyIncreasing (slice_index_or sets n [])

-- the set of a term, unless it has a mark
abbrev pub offer_at : List Bool → List (List ℕ) → ℕ → List (List ℕ)
offer_at unstable sets n = if slice_index_or unstable n false then [] else slice_index_or sets n [] ∷ []

-- the sets of those of the terms that have no mark, in the order of the terms
abbrev pub offers_at : List Bool → List (List ℕ) → List ℕ → List (List ℕ)
offers_at unstable sets terms = flat_map (offer_at unstable sets) terms

-- whether N lies within M, and M not within it
abbrev pub is_smaller : List ℕ → List ℕ → Bool
is_smaller N M = is_subset_of N M && not (is_subset_of M N)

-- whether one of the sets lies within M, and M not within it
abbrev pub has_smaller : List (List ℕ) → List ℕ → Bool
has_smaller sets M = list_any (λ N. is_smaller N M) sets

-- Those of the offers that contain no smaller one: `all` are the offers in order, each once.
pub record AreLeastOf (offers kept : List (List ℕ)) : Type 0 where
  pub all : List (List ℕ)
  pub sorted : IsStrictlySortedBy (slice_cmp nat_cmp) all
  pub same : (M : List ℕ) → Contains all M ↔ Contains offers M
  pub least : kept ≡ filter (λ M. not (has_smaller all M)) all
