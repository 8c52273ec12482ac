-- The rule of users and resources (after Martin 1996 and chapter 13 of Roscoe 1997; this exact form is the project's own). Each
-- link joins a user and a resource. A resource that is free can be acquired by any of its users, and one that is held can be
-- released by the user that holds it. A user acquires and releases each of its resources in turn. The resources can be
-- numbered so that users acquire in rising order. (What is read of the shape is its alphabets, links and vocabulary alone.)
use Rattle.std.specs.Prelude.{◌≡◌, ◌<◌, ℕ, List, [], ◌∷◌, Bool, true, false, not, ◌&&◌, IsTrue, Option, Some, None, length, if◌then◌else◌}
use Rattle.std.specs.List.{list_any}
use Rattle.csp_base.specs.Members.{has}
use Rattle.csp_tables.specs.Prelude.{IsWithin, Shape, Joins, is_end, link_at, UseSets, use_at}
use Rattle.design_rules.specs.Counts.{count_in, is_odd}
use Rattle.design_rules.specs.Assigned.{PartShared}
use Rattle.design_rules.specs.Behaviours.{Behaviours}

-- the link joins a user and a resource
abbrev pub JoinsKinds : Shape → List UseSets → ℕ → Type 0
JoinsKinds shape uses l = (use_at uses (link_at shape l).left).resource ≡ not (use_at uses (link_at shape l).right).resource

-- the two sets of a resource part the events that it shares
abbrev pub HasUses : Shape → List UseSets → ℕ → Type 0
HasUses shape uses i = (use_at uses i).resource ≡ true → PartShared shape i ((use_at uses i).acquire ∷ (use_at uses i).release ∷ [])

-- U1: links join users and resources, and the sets of resources part what they share
pub record HaveKinds (shape : Shape) (uses : List UseSets) : Type 0 where
  pub linked : (l : ℕ) → l < length shape.links → JoinsKinds shape uses l
  pub parted : (i : ℕ) → i < length shape.parts → HasUses shape uses i

-- a resource is held after an odd number of its shared events, else free
abbrev pub is_held : Shape → List ℕ → Bool
is_held shape s = is_odd (count_in shape.vocabulary s)

-- the last event of the list that is in the set, where there is one, and else what is given
abbrev pub last_from : Option ℕ → List ℕ → List ℕ → Option ℕ
last_from before set [] = before
last_from before set (e ∷ s) = last_from (if has set e then Some e else before) set s

-- The link is the one of the resource's last shared event: where the resource is held, it is held by the user on this link.
pub record IsHolder (shape : Shape) (i : ℕ) (s : List ℕ) (l : ℕ) : Type 0 where
  pub within : l < length shape.links
  pub end : IsTrue (is_end shape i l)
  pub event : ℕ
  pub last : last_from None shape.vocabulary s ≡ Some event
  pub on : IsTrue (has (link_at shape l).shared event)

-- U2: after the trace s, of the resource's shared events those alone are possible that acquire it where it is free, and those
-- alone that release it on the holder's link where it is held
pub record IsUsedInTurn (shape : Shape) (b : Behaviours) (uses : List UseSets) (i : ℕ) (s : List ℕ) : Type 0 where
  pub turn : (e : ℕ) → b.possible i s e → IsTrue (has shape.vocabulary e) → IsTrue (if is_held shape s then has (use_at uses i).release e else has (use_at uses i).acquire e)
  pub by_holder : (l e : ℕ) → b.possible i s e → IsTrue (has shape.vocabulary e) → is_held shape s ≡ true → IsHolder shape i s l → IsTrue (has (link_at shape l).shared e)

-- U3: after the trace s, an acceptance of the resource in the vocabulary has all events that acquire it where it is free, and
-- all that release it on the holder's link where it is held
pub record GrantsAll (shape : Shape) (b : Behaviours) (uses : List UseSets) (i : ℕ) (s : List ℕ) : Type 0 where
  pub when_free : (M : List ℕ) → b.accepts i s M → is_held shape s ≡ false → IsWithin (use_at uses i).acquire M
  pub when_held : (l : ℕ) (M : List ℕ) (e : ℕ) → b.accepts i s M → is_held shape s ≡ true → IsHolder shape i s l → IsTrue (has (use_at uses i).release e) → IsTrue (has (link_at shape l).shared e) → IsTrue (has M e)

-- a user holds the resource of a link after an odd number of the link's events
abbrev pub holds : Shape → ℕ → List ℕ → Bool
holds shape l s = is_odd (count_in (link_at shape l).shared s)

-- U4: after the trace s, what is possible on a link of the user releases the resource j there where the user holds it, and else
-- acquires it
abbrev pub UsesInTurn : Shape → Behaviours → List UseSets → ℕ → List ℕ → Type 0
UsesInTurn shape b uses i s = (j l e : ℕ) → Joins shape i j l → b.possible i s e → IsTrue (has (link_at shape l).shared e) → IsTrue (if holds shape l s then has (use_at uses j).release e else has (use_at uses j).acquire e)

-- U1 to U4
pub record KeepUses (shape : Shape) (b : Behaviours) (uses : List UseSets) : Type 0 where
  pub kinds : HaveKinds shape uses
  pub used : (i : ℕ) (s : List ℕ) → (use_at uses i).resource ≡ true → IsUsedInTurn shape b uses i s
  pub grants : (i : ℕ) (s : List ℕ) → (use_at uses i).resource ≡ true → GrantsAll shape b uses i s
  pub turns : (i : ℕ) (s : List ℕ) → (use_at uses i).resource ≡ false → UsesInTurn shape b uses i s

-- the set has an event that acquires the resource in place j
abbrev pub acquires : List UseSets → List ℕ → ℕ → Bool
acquires uses M j = (use_at uses j).resource && list_any (λ e. has (use_at uses j).acquire e) M

-- The resource m is held while the resource j is offered for acquisition: after a trace a user holds m, and has an acceptance
-- in the vocabulary that acquires j. So m must be numbered below j.
pub record IsHeldWhile (shape : Shape) (b : Behaviours) (uses : List UseSets) (m j : ℕ) : Type 0 where
  pub user : ℕ
  pub link : ℕ
  pub run : List ℕ
  pub acceptance : List ℕ
  pub is_user : (use_at uses user).resource ≡ false
  pub accepts : b.accepts user run acceptance
  pub within : j < length shape.parts
  pub acquiring : IsTrue (acquires uses acceptance j)
  pub joins : Joins shape user m link
  pub holding : IsTrue (holds shape link run)

-- what a user offers to acquire is numbered above all that it holds
abbrev pub ResourcesRise : Shape → Behaviours → List UseSets → (ℕ → ℕ) → Type 0
ResourcesRise shape b uses number = (m j : ℕ) → IsHeldWhile shape b uses m j → number m < number j

-- U5: the resources can be numbered so
pub record CanBeOrdered (shape : Shape) (b : Behaviours) (uses : List UseSets) : Type 0 where
  pub number : ℕ → ℕ
  pub rise : ResourcesRise shape b uses number

pub record IsResource (shape : Shape) (b : Behaviours) (uses : List UseSets) : Type 0 where
  pub keep_uses : KeepUses shape b uses
  pub ordered : CanBeOrdered shape b uses
