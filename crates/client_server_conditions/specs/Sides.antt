-- The sets of one component, and the two ends of one link. (No rule's decider cites this.)
use Rattle.std.specs.Prelude.{◌≡◌, ◌<◌, ℕ, List, [], ◌∷◌, Bool, false, Option, Some, None, IsTrue, MatchBool, length, get_or, if◌then◌else◌}
use Rattle.csp_base.specs.Members.{has}
use Rattle.csp_tables.specs.Prelude.{sharers, Shape, link_at, RoleSets}
use Rattle.design_rules.specs.ClientServer.{IsClientOn, HasClient}

-- the four sets part these events
abbrev pub PartOwn : List ℕ → RoleSets → Type 0
PartOwn own roles = (e : ℕ) → sharers (roles.creq ∷ roles.cack ∷ roles.sreq ∷ roles.sack ∷ []) e ≡ (if has own e then 1 else 0)

-- the two sets have the same of these events
abbrev pub AgreeOn : List ℕ → List ℕ → List ℕ → Type 0
AgreeOn events a b = (e : ℕ) → IsTrue (has events e) → has a e ≡ has b e

-- the set has none of these events
abbrev pub LacksAll : List ℕ → List ℕ → Type 0
LacksAll events a = (e : ℕ) → IsTrue (has events e) → has a e ≡ false

-- the client serves by none of these events, and the server asks by none
pub record HaveNoOther (events : List ℕ) (client server : RoleSets) : Type 0 where
  pub requests_taken : LacksAll events client.sreq
  pub acknowledged : LacksAll events client.sack
  pub requests_made : LacksAll events server.creq
  pub awaited : LacksAll events server.cack

-- of these events, those of a link, the first is the client and the second the server
pub record IsClient (events : List ℕ) (client server : RoleSets) : Type 0 where
  pub requests : AgreeOn events client.creq server.sreq
  pub acknowledgements : AgreeOn events client.cack server.sack
  pub no_other : HaveNoOther events client server

-- the left end of the link is the client where the test is true, else the right end
abbrev pub IsSide : Shape → List RoleSets → ℕ → Bool → Type 0
IsSide shape roles l left_asks = MatchBool left_asks (IsClientOn shape roles l (link_at shape l).left (link_at shape l).right) (IsClientOn shape roles l (link_at shape l).right (link_at shape l).left)

-- which end it is, or none
abbrev pub IsSideOrNone : Shape → List RoleSets → ℕ → Option Bool → Type 0
IsSideOrNone shape roles l None = HasClient shape roles l → ⊥
IsSideOrNone shape roles l (Some left_asks) = IsSide shape roles l left_asks

-- the sides of the first n links
pub record AreSides (shape : Shape) (roles : List RoleSets) (n : ℕ) (sides : List Bool) : Type 0 where
  pub count : length sides ≡ n
  pub each : (l : ℕ) → l < n → IsSide shape roles l (get_or sides l false)
