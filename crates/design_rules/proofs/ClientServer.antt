-- The ranking of a client-server network falls along ungranted requests.
use Rattle.design_rules.proofs.Prelude.{◌≡◌, ℕ, ◌*◌, ◌<◌, ◌⊎◌, inl, inr, ℤ, pos, ◌+ℤ◌, ◌-ℤ◌, ◌*ℤ◌, ◌<ℤ◌, List, length, true, false, ◌&&◌, sym, ap, subst, ◌∙◌, arith, cases_Bool, or_cases, both_ways, cond-true, cond-false, ints, zero-*ℤ, has, is_odd, IsClientOn, has_acknowledgements, is_open, is_request, is_acknowledgement, Serves, KeepRoles, IsClientServerRanking, ClientServerRanksFall, part_at, Meet, AreApart, Shape, Joins, link_at, IsWellFormed, accepted, IsPossible, IsOn, RoleSets, role_at, Ranking, rank_after, lead, search_list}
use Rattle.design_rules.proofs.Walks.{Graph, falls, height_below}
use Rattle.design_rules.proofs.Shapes.{turned, first_end, joins_within, link_events, own_run, own_end, Side, Request, request}
use Rattle.design_rules.proofs.Accepting.{at_place}

pub meet_or_apart : (M N : List ℕ) → Meet M N ⊎ AreApart M N
meet_or_apart M N =
    elim (search_list (λ e. has N e ≡ true) (λ e. has N e ≡ false) (λ e. cases_Bool (has N e)) M) [
      | inl found ↦ inl (record { event = found.0; first = found.1; second = found.2 })
      | inr none ↦ inr (λ e m n. both_ways (has N e) (none e m) n)
    ]

pub graph : (shape : Shape) (roles : List RoleSets) (ranking : Ranking) → IsWellFormed shape → (r : IsClientServerRanking shape roles ranking) → Graph (Serves shape roles) r.height (length shape.parts)
graph shape roles ranking w r = record { within = λ i j a. joins_within shape i j a.link w a.joins; longest = r.heights }

-- the rank of one side: twice the number of parts less the height, or the height
abbrev high : Shape → (ℕ → ℕ) → ℕ → ℤ
high shape height i = pos (2 * length shape.parts) -ℤ pos (height i)

record Ranked (shape : Shape) (roles : List RoleSets) (height : ℕ → ℕ) (s : List ℕ) (i k : ℕ) (rank : ℤ) : Type 0 where
  when_meets : Meet (accepted shape i (own_run shape s i) k) (role_at roles i).sreq → rank ≡ high shape height i
  when_apart : AreApart (accepted shape i (own_run shape s i) k) (role_at roles i).sreq → rank ≡ pos (height i)

either_rank : (shape : Shape) (roles : List RoleSets) (height : ℕ → ℕ) (s : List ℕ) (i k : ℕ) (rank : ℤ) → Ranked shape roles height s i k rank → (rank ≡ high shape height i) ⊎ (rank ≡ pos (height i))
either_rank shape roles height s i k rank r =
    elim (meet_or_apart (accepted shape i (own_run shape s i) k) (role_at roles i).sreq) [ inl m ↦ inl (r.when_meets m) | inr a ↦ inr (r.when_apart a) ]

-- the ranks of a request where i is the client
client_falls : (shape : Shape) (height : ℕ → ℕ) (i j : ℕ) (x y : ℤ) → height i < length shape.parts → height j < height i → (x ≡ high shape height i) ⊎ (x ≡ pos (height i)) → y ≡ pos (height j) → y <ℤ x
client_falls shape height i j x y h less (inl a) b = omega (arith, ints)
client_falls shape height i j x y h less (inr a) b = omega (arith, ints)

-- and where i is the server
server_falls : (shape : Shape) (height : ℕ → ℕ) (i j : ℕ) (x y : ℤ) → height j < length shape.parts → height i < height j → x ≡ high shape height i → (y ≡ high shape height j) ⊎ (y ≡ pos (height j)) → y <ℤ x
server_falls shape height i j x y h less a (inl b) = omega (arith, ints)
server_falls shape height i j x y h less a (inr b) = omega (arith, ints)

-- without laps the rank alone decides
pub no_scale : (x y c d : ℤ) → c ≡ pos 0 → y <ℤ x → y <ℤ (x +ℤ (c *ℤ d))
no_scale x y c d e h =
    let none : (c *ℤ d) ≡ pos 0 = ap (λ z. z *ℤ d) e ∙ zero-*ℤ d in
    subst (λ z. y <ℤ (x +ℤ z)) (sym none) (omega (arith, ints))

-- both ends see the link open, or both see it closed
same_open : (shape : Shape) (roles : List RoleSets) (s : List ℕ) (i j l : ℕ) → IsWellFormed shape → Joins shape i j l → is_open shape roles l (own_run shape s i) ≡ is_open shape roles l (own_run shape s j)
same_open shape roles s i j l w joins =
    ap (λ c. has_acknowledgements shape roles l && is_odd c)
    (link_events shape i l s w joins.within (first_end shape i j l joins) ∙ sym (link_events shape j l s w joins.within (first_end shape j i l (turned shape i j l joins))))

-- what is possible on a closed link and on an open one
closed_requests : (shape : Shape) (roles : List RoleSets) (i l : ℕ) (s : List ℕ) (e : ℕ) → KeepRoles shape roles → IsPossible shape i s e → IsOn shape i l e → is_open shape roles l s ≡ false → is_request roles i e ≡ true
closed_requests shape roles i l s e c possible on closed = sym (cond-false (is_open shape roles l s) (is_acknowledgement roles i e) (is_request roles i e) closed) ∙ c.turns i s l e possible on

open_acknowledges : (shape : Shape) (roles : List RoleSets) (i l : ℕ) (s : List ℕ) (e : ℕ) → KeepRoles shape roles → IsPossible shape i s e → IsOn shape i l e → is_open shape roles l s ≡ true → is_acknowledgement roles i e ≡ true
open_acknowledges shape roles i l s e c possible on opened = sym (cond-true (is_open shape roles l s) (is_acknowledgement roles i e) (is_request roles i e) opened) ∙ c.turns i s l e possible on

-- a request's server takes no requests
takes_none : (shape : Shape) (roles : List RoleSets) (s : List ℕ) (i j k l : ℕ) → IsWellFormed shape → KeepRoles shape roles → (r : Request shape s i j k l) → IsClientOn shape roles r.link i j → AreApart (accepted shape j (own_run shape s j) l) (role_at roles j).sreq
takes_none shape roles s i j k l w c r client =
    elim (cases_Bool (is_open shape roles r.link (own_run shape s i))) [
      | inl opened ↦ (c.serving j (own_run shape s j)).none_while_open i r.link _ (at_place shape j (own_run shape s j) l r.there.accepts) r.joins client (sym (same_open shape roles s i j r.link w r.joins) ∙ opened)
      | inr closed ↦
          elim (or_cases (has (role_at roles i).creq r.event) (has (role_at roles i).sreq r.event) (closed_requests shape roles i r.link (own_run shape s i) r.event c (r.here.possible r.event r.asked) r.on_here closed)) [
            | inl asks ↦ elim ((c.serving j (own_run shape s j)).all_or_none _ (at_place shape j (own_run shape s j) l r.there.accepts)) [
              | inl all ↦ absurd (r.apart r.event r.asked (all r.event (sym (client.requests r.event r.on_here.event) ∙ asks)))
              | inr none ↦ none
            ]
            | inr serves ↦ absurd (both_ways (has (role_at roles i).sreq r.event) (client.no_service r.event r.on_here.event).0 serves)
          ]
    ]

-- a request's server that asks the client offers to take requests
offers_requests : (shape : Shape) (roles : List RoleSets) (s : List ℕ) (i j k l : ℕ) → IsWellFormed shape → KeepRoles shape roles → (r : Request shape s i j k l) → IsClientOn shape roles r.link j i → Meet (accepted shape i (own_run shape s i) k) (role_at roles i).sreq
offers_requests shape roles s i j k l w c r client =
    elim (cases_Bool (is_open shape roles r.link (own_run shape s i))) [
      | inl opened ↦
          elim (or_cases (has (role_at roles i).cack r.event) (has (role_at roles i).sack r.event) (open_acknowledges shape roles i r.link (own_run shape s i) r.event c (r.here.possible r.event r.asked) r.on_here opened)) [
            | inl asks ↦ absurd (both_ways (has (role_at roles i).cack r.event) (client.no_asking r.event r.on_here.event).1 asks)
            | inr answers ↦
                absurd (r.apart r.event r.asked (c.answers j (own_run shape s j) i r.link _ r.event (at_place shape j (own_run shape s j) l r.there.accepts) (turned shape i j r.link r.joins) client (sym (same_open shape roles s i j r.link w r.joins) ∙ opened) r.on_here.event (client.acknowledgements r.event r.on_here.event ∙ answers)))
          ]
      | inr closed ↦
          elim (or_cases (has (role_at roles i).creq r.event) (has (role_at roles i).sreq r.event) (closed_requests shape roles i r.link (own_run shape s i) r.event c (r.here.possible r.event r.asked) r.on_here closed)) [
            | inl asks ↦ absurd (both_ways (has (role_at roles i).creq r.event) (client.no_asking r.event r.on_here.event).0 asks)
            | inr serves ↦ record { event = r.event; first = r.asked; second = serves }
          ]
    ]

-- one end is the client
who : (shape : Shape) (roles : List RoleSets) (i j l : ℕ) → KeepRoles shape roles → Joins shape i j l → IsClientOn shape roles l i j ⊎ IsClientOn shape roles l j i
who shape roles i j l c joins =
    elim joins.ends [
      | inl e ↦ subst (λ a. IsClientOn shape roles l a j ⊎ IsClientOn shape roles l j a) e.0 (subst (λ b. IsClientOn shape roles l (link_at shape l).left b ⊎ IsClientOn shape roles l b (link_at shape l).left) e.1 (c.linked l joins.within))
      | inr e ↦ swapped (subst (λ a. IsClientOn shape roles l a i ⊎ IsClientOn shape roles l i a) e.0 (subst (λ b. IsClientOn shape roles l (link_at shape l).left b ⊎ IsClientOn shape roles l b (link_at shape l).left) e.1 (c.linked l joins.within)))
    ]
  where
    swapped : IsClientOn shape roles l j i ⊎ IsClientOn shape roles l i j → IsClientOn shape roles l i j ⊎ IsClientOn shape roles l j i
    swapped (inl a) = inr a
    swapped (inr b) = inl b

ranked : (shape : Shape) (roles : List RoleSets) (ranking : Ranking) (s : List ℕ) (i k : ℕ) → (r : IsClientServerRanking shape roles ranking) → Side shape s i k → Ranked shape roles r.height s i k (rank_after ranking i (part_at shape.parts i) s k)
ranked shape roles ranking s i k r side = record { when_meets = λ m. r.serving i (own_end shape s i) k side.vertex m; when_apart = λ a. r.asking i (own_end shape s i) k side.vertex a }

pub client_server_ranks_fall : ClientServerRanksFall
client_server_ranks_fall shape roles ranking w rule ranks s i j k l u =
    let c = rule.keep_roles in
    let r = request shape s i j k l w u in
    let g = graph shape roles ranking w ranks in
    let x = rank_after ranking i (part_at shape.parts i) s k in
    let y = rank_after ranking j (part_at shape.parts j) s l in
    let ri = ranked shape roles ranking s i k ranks r.here in
    let rj = ranked shape roles ranking s j l ranks r.there in
    no_scale x y ranking.scale (lead shape.parts ranking s i j) ranks.scale
    (elim (who shape roles i j r.link c r.joins) [
      | inl client ↦
          client_falls shape ranks.height i j x y (height_below (Serves shape roles) ranks.height (length shape.parts) g i r.here.part)
          (falls (Serves shape roles) ranks.height (length shape.parts) g i j r.here.part (record { link = r.link; joins = r.joins; client = client }))
          (either_rank shape roles ranks.height s i k x ri) (rj.when_apart (takes_none shape roles s i j k l w c r client))
      | inr client ↦
          server_falls shape ranks.height i j x y (height_below (Serves shape roles) ranks.height (length shape.parts) g j r.there.part)
          (falls (Serves shape roles) ranks.height (length shape.parts) g j i r.there.part (record { link = r.link; joins = turned shape i j r.link r.joins; client = client }))
          (ri.when_meets (offers_requests shape roles s i j k l w c r client)) (either_rank shape roles ranks.height s j l y rj)
    ])
