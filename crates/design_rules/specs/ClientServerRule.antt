-- The rule of clients and servers (after Martin 1996, Martin and Jassim 1997 and chapter 13 of Roscoe 1997; this exact form is
-- the project's own). On each link one end is the client and the other the server. The client requests; where the link has
-- acknowledgements, the server acknowledges before the next request. A server that takes requests takes all of them, and it
-- takes none while it owes an acknowledgement; a client that awaits an acknowledgement takes each. No component is its own
-- client, by however many others. (What is read of the shape is its alphabets, links and vocabulary alone.)
use Rattle.std.specs.Prelude.{◌≡◌, ◌<◌, ◌⊎◌, ℕ, List, [], ◌∷◌, Bool, true, false, ◌||◌, ◌&&◌, IsTrue, length, if◌then◌else◌}
use Rattle.std.specs.List.{list_any}
use Rattle.csp_base.specs.Members.{has}
use Rattle.csp_tables.specs.Prelude.{AreApart, IsWithin, Shape, Joins, link_at, IsOn, RoleSets, role_at}
use Rattle.design_rules.specs.Counts.{count_in, is_odd}
use Rattle.digraph.specs.Circle.{HasNoCircle}
use Rattle.design_rules.specs.Assigned.{PartShared}
use Rattle.design_rules.specs.Behaviours.{Behaviours}

-- S1: the four sets of the component part the events that it shares
abbrev pub HasRoles : Shape → List RoleSets → ℕ → Type 0
HasRoles shape roles i = PartShared shape i ((role_at roles i).creq ∷ (role_at roles i).cack ∷ (role_at roles i).sreq ∷ (role_at roles i).sack ∷ [])

-- On the link l the component i is the client and the component j the server: both tell the same requests and the same
-- acknowledgements, and of the other roles nothing is on the link.
pub record IsClientOn (shape : Shape) (roles : List RoleSets) (l i j : ℕ) : Type 0 where
  pub requests : (e : ℕ) → IsTrue (has (link_at shape l).shared e) → has (role_at roles i).creq e ≡ has (role_at roles j).sreq e
  pub acknowledgements : (e : ℕ) → IsTrue (has (link_at shape l).shared e) → has (role_at roles i).cack e ≡ has (role_at roles j).sack e
  pub no_service : (e : ℕ) → IsTrue (has (link_at shape l).shared e) → (has (role_at roles i).sreq e ≡ false) × (has (role_at roles i).sack e ≡ false)
  pub no_asking : (e : ℕ) → IsTrue (has (link_at shape l).shared e) → (has (role_at roles j).creq e ≡ false) × (has (role_at roles j).cack e ≡ false)

-- S2: one end of the link is the client, and the other the server
abbrev pub HasClient : Shape → List RoleSets → ℕ → Type 0
HasClient shape roles l = IsClientOn shape roles l (link_at shape l).left (link_at shape l).right ⊎ IsClientOn shape roles l (link_at shape l).right (link_at shape l).left

-- whether the link has acknowledgements: one of its events is an acknowledgement for the client
abbrev pub has_acknowledgements : Shape → List RoleSets → ℕ → Bool
has_acknowledgements shape roles l = list_any (λ e. has (role_at roles (link_at shape l).left).cack e || has (role_at roles (link_at shape l).right).cack e) (link_at shape l).shared

-- A link with acknowledgements is open after an odd number of its events. A link without is never open.
abbrev pub is_open : Shape → List RoleSets → ℕ → List ℕ → Bool
is_open shape roles l s = has_acknowledgements shape roles l && is_odd (count_in (link_at shape l).shared s)

abbrev pub is_request : List RoleSets → ℕ → ℕ → Bool
is_request roles i e = has (role_at roles i).creq e || has (role_at roles i).sreq e

abbrev pub is_acknowledgement : List RoleSets → ℕ → ℕ → Bool
is_acknowledgement roles i e = has (role_at roles i).cack e || has (role_at roles i).sack e

-- S3: after the trace s, what is possible on a link of the component is a request where the link is closed, and an acknowledgement
-- where it is open
abbrev pub TakesTurns : Shape → Behaviours → List RoleSets → ℕ → List ℕ → Type 0
TakesTurns shape b roles i s = (l e : ℕ) → b.possible i s e → IsOn shape i l e → IsTrue (if is_open shape roles l s then is_acknowledgement roles i e else is_request roles i e)

-- S4: after the trace s, an acceptance in the vocabulary has all requests to the component or none of them, and none while a link on
-- which the component is the server is open
pub record ServesAll (shape : Shape) (b : Behaviours) (roles : List RoleSets) (i : ℕ) (s : List ℕ) : Type 0 where
  pub all_or_none : (M : List ℕ) → b.accepts i s M → IsWithin (role_at roles i).sreq M ⊎ AreApart M (role_at roles i).sreq
  pub none_while_open : (j l : ℕ) (M : List ℕ) → b.accepts i s M → Joins shape j i l → IsClientOn shape roles l j i → is_open shape roles l s ≡ true → AreApart M (role_at roles i).sreq

-- S5: after the trace s, while a link on which the component is the client is open, an acceptance in the vocabulary has all
-- acknowledgements of that link
abbrev pub TakesAnswers : Shape → Behaviours → List RoleSets → ℕ → List ℕ → Type 0
TakesAnswers shape b roles i s = (j l : ℕ) (M : List ℕ) (e : ℕ) → b.accepts i s M → Joins shape i j l → IsClientOn shape roles l i j → is_open shape roles l s ≡ true → IsTrue (has (link_at shape l).shared e) → IsTrue (has (role_at roles i).cack e) → IsTrue (has M e)

-- an arc leads from each client to its servers
pub record Serves (shape : Shape) (roles : List RoleSets) (i j : ℕ) : Type 0 where
  pub link : ℕ
  pub joins : Joins shape i j link
  pub client : IsClientOn shape roles link i j

-- S1 to S5
pub record KeepRoles (shape : Shape) (b : Behaviours) (roles : List RoleSets) : Type 0 where
  pub parted : (i : ℕ) → i < length shape.parts → HasRoles shape roles i
  pub linked : (l : ℕ) → l < length shape.links → HasClient shape roles l
  pub turns : (i : ℕ) (s : List ℕ) → TakesTurns shape b roles i s
  pub serving : (i : ℕ) (s : List ℕ) → ServesAll shape b roles i s
  pub answers : (i : ℕ) (s : List ℕ) → TakesAnswers shape b roles i s

pub record IsClientServer (shape : Shape) (b : Behaviours) (roles : List RoleSets) : Type 0 where
  pub keep_roles : KeepRoles shape b roles
  -- S6: the arcs from clients to their servers make no circle
  pub no_circle : HasNoCircle (Serves shape roles)
