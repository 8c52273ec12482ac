-- What the pairs of a part's laps show: at a place some link's event is possible. (No public contract cites this.)
use Rattle.std.specs.Prelude.{◌≡◌, ◌<◌, ◌⊎◌, ℕ, List, [], ◌∷◌, Option, Some, None, Bool, false, nat_eq, IsTrue, length, get_or, slice_set}
use Rattle.csp_tables.specs.Prelude.{node_at, is_possible}
use Rattle.observed_runs.specs.Prelude.{pair_at}
use Rattle.shape_links.specs.Links.{IsOwner}
use Rattle.shape_links.specs.Component.{table_of}
use Rattle.cyclic_conditions.specs.Laps.{links_along, shape_of}
use Rattle.cyclic_conditions.specs.declared.laps.Laps.{Laps}
use Rattle.cyclic_conditions.specs.declared.facts.Fact.{Fact}

-- the event is possible at the pair in this place
abbrev pub IsPossibleAt : Laps → ℕ → ℕ → Type 0
IsPossibleAt laps p e = IsTrue (is_possible (node_at (table_of laps.component) (pair_at laps.explored.pairs p).0).next e)

-- at the pair in this place the event of this link is possible, and the link's place is q
pub record IsFact (laps : Laps) (q : ℕ) (f : Fact) : Type 0 where
  pub within : f.pair < length laps.explored.pairs
  pub place : (pair_at laps.explored.pairs f.pair).1 ≡ q
  pub possible : IsPossibleAt laps f.pair f.event
  pub owner : IsOwner (shape_of laps) f.link f.event

abbrev pub first_at : List (Option Fact) → ℕ → Option Fact
first_at firsts q = get_or firsts q None

-- the link is kept at the place
pub record HasFirst (firsts : List (Option Fact)) (q l : ℕ) : Type 0 where
  pub fact : Fact
  pub kept : first_at firsts q ≡ Some fact
  pub link : fact.link ≡ l

-- for each place a fact, if there is one, and no link at two places
pub record AreFirsts (laps : Laps) (firsts : List (Option Fact)) : Type 0 where
  pub count : length firsts ≡ links_along laps
  pub sound : (q : ℕ) (f : Fact) → first_at firsts q ≡ Some f → IsFact laps q f
  pub apart : (q r l : ℕ) → HasFirst firsts q l → HasFirst firsts r l → q ≡ r

-- the same, and what was kept still is
pub record AreMore (laps : Laps) (old new : List (Option Fact)) : Type 0 where
  pub firsts : AreFirsts laps new
  pub keeps : (q l : ℕ) → HasFirst old q l → HasFirst new q l

-- the link of the event, if it has one, is kept at the place of the pair p
abbrev pub IsEventNoted : Laps → List (Option Fact) → ℕ → ℕ → Type 0
IsEventNoted laps firsts p e = (l : ℕ) → IsOwner (shape_of laps) l e → HasFirst firsts (pair_at laps.explored.pairs p).1 l

-- all that is possible at the pair p is kept
abbrev pub IsNoted : Laps → List (Option Fact) → ℕ → Type 0
IsNoted laps firsts p = (e l : ℕ) → IsPossibleAt laps p e → IsOwner (shape_of laps) l e → HasFirst firsts (pair_at laps.explored.pairs p).1 l

abbrev pub AreNoted : Laps → List (Option Fact) → Type 0
AreNoted laps firsts = (p : ℕ) → p < length laps.explored.pairs → IsNoted laps firsts p

-- one place has two links, or one link two places
abbrev pub Disagree : ℕ → Fact → ℕ → Fact → Type 0
Disagree q f r g = ((q ≡ r) × (f.link ≡ g.link → ⊥)) ⊎ ((f.link ≡ g.link) × (q ≡ r → ⊥))

pub record AreClashing (laps : Laps) (f g : Fact) : Type 0 where
  pub first_place : ℕ
  pub second_place : ℕ
  pub first : IsFact laps first_place f
  pub second : IsFact laps second_place g
  pub apart : Disagree first_place f second_place g

-- the fact's link is kept at the place already; or nothing is kept there, and the link nowhere, and the fact comes to the place
abbrev pub IsNotedAt : ℕ → Fact → List (Option Fact) → List (Option Fact) → Type 0
IsNotedAt place fact old new =
    (HasFirst old place fact.link × (new ≡ old))
    ⊎ ((first_at old place ≡ None) × ((r : ℕ) → HasFirst old r fact.link → ⊥) × (new ≡ slice_set old place (Some fact)))

-- the fact, at this place, clashes with one that is kept
abbrev pub ClashesWith : ℕ → Fact → List (Option Fact) → Fact → Type 0
ClashesWith place fact firsts other = (r : ℕ) × (first_at firsts r ≡ Some other) × Disagree place fact r other

-- whether the fact is of this link
abbrev pub is_of_link : ℕ → Option Fact → Bool
is_of_link l None = false
is_of_link l (Some f) = nat_eq f.link l

-- the links in the order of their places, up to the first place without one
abbrev pub links_in_order : List (Option Fact) → List ℕ
links_in_order [] = []
links_in_order (None ∷ firsts) = []
links_in_order (Some f ∷ firsts) = f.link ∷ links_in_order firsts
