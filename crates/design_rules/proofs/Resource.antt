-- The ranking of a network of users and resources falls along ungranted requests.
use Rattle.design_rules.proofs.Prelude.{◌≡◌, ℕ, zero, suc, ◌+◌, ◌-◌, ◌*◌, ◌<◌, ◌≤◌, ◌⊎◌, inl, inr, ℤ, pos, ◌<ℤ◌, List, length, Bool, true, false, not, cond, IsTrue, refl, sym, ap, subst, ◌∙◌, arith, cases_Bool, cases_lt, cases_eq, both_ways, and_parts, and_from, cond-true, cond-false, ints, list_any, has, is_odd, is_held, holds, acquires, KeepUses, IsHeldWhile, ResourcesRise, AreResourceNumbers, top_number, rank_there, AcceptsSome, AreResourceRanks, ResourceRanksFall, OrderedRanksFall, part_at, alphabets_of, TripleDisjoint, Shape, Joins, link_at, IsWellFormed, accepted, UseSets, use_at, Ranking, rank_after, lead, below_suc, any_of}
use Rattle.design_rules.proofs.Shapes.{turned, first_end, joins_within, link_events, own_run, Side, Request, request}
use Rattle.design_rules.proofs.Holders.{Resource, turns, one_link}
use Rattle.design_rules.proofs.ClientServer.{no_scale}
use Rattle.design_rules.proofs.Accepting.{at_place}

-- ---- what is acquired

acquires_by : (uses : List UseSets) (M : List ℕ) (j e : ℕ) → (use_at uses j).resource ≡ true → IsTrue (has M e) → IsTrue (has (use_at uses j).acquire e) → IsTrue (acquires uses M j)
acquires_by uses M j e r h a = and_from _ _ r (any_of (λ x. has (use_at uses j).acquire x) M e h a)

pub acquired_resource : (uses : List UseSets) (M : List ℕ) (j : ℕ) → IsTrue (acquires uses M j) → (use_at uses j).resource ≡ true
acquired_resource uses M j h = (and_parts (use_at uses j).resource (list_any (λ x. has (use_at uses j).acquire x) M) h).0

pub record LeastOf (test : ℕ → Bool) (number : ℕ → ℕ) (n : ℕ) : Type 0 where
  pub place : ℕ
  pub within : place < n
  pub passes : IsTrue (test place)
  pub least : (m : ℕ) → m < n → IsTrue (test m) → number place ≤ number m

with_one_more : (test : ℕ → Bool) (number : ℕ → ℕ) (n : ℕ) → IsTrue (test n) → LeastOf test number n → LeastOf test number (suc n)
with_one_more test number n t r =
    elim (cases_lt (number r.place) (number n)) [
      | inl less ↦ record { place = r.place; within = let h : r.place < n = r.within in omega arith; passes = r.passes; least = below_suc (λ m. IsTrue (test m) → number r.place ≤ number m) n r.least (λ _. omega arith) }
      | inr more ↦ record { place = n; within = omega arith; passes = t; least = below_suc (λ m. IsTrue (test m) → number n ≤ number m) n (λ m h k. let le : number r.place ≤ number m = r.least m h k in omega arith) (λ _. omega arith) }
    ]

pub least_of : (test : ℕ → Bool) (number : ℕ → ℕ) (n : ℕ) → LeastOf test number n ⊎ ((m : ℕ) → m < n → test m ≡ false)
least_of test number zero = inr (λ m h. absurd (omega arith))
least_of test number (suc n) =
    elim (cases_Bool (test n)) [
      | inl t ↦ elim (least_of test number n) [
        | inl r ↦ inl (with_one_more test number n t r)
        | inr nothing ↦ inl (record { place = n; within = omega arith; passes = t; least = below_suc (λ m. IsTrue (test m) → number n ≤ number m) n (λ m h k. absurd (both_ways (test m) (nothing m h) k)) (λ _. omega arith) })
      ]
      | inr f ↦ elim (least_of test number n) [
        | inl r ↦ inl (record { place = r.place; within = let h : r.place < n = r.within in omega arith; passes = r.passes; least = below_suc (λ m. IsTrue (test m) → number r.place ≤ number m) n r.least (λ k. absurd (both_ways (test n) f k)) })
        | inr nothing ↦ inr (below_suc (λ m. test m ≡ false) n nothing f)
      ]
    ]

pub below_top : (uses : List UseSets) (number : ℕ → ℕ) (n j : ℕ) → j < n → (use_at uses j).resource ≡ true → number j ≤ top_number uses number n
below_top uses number zero j h r = absurd (omega arith)
below_top uses number (suc n) j h r =
    elim (cases_eq j n) [
      | inl e ↦ let is : (use_at uses n).resource ≡ true = subst (λ k. (use_at uses k).resource ≡ true) e r in grind (arith)
      | inr ne ↦ let rest : number j ≤ top_number uses number n = below_top uses number n j (omega arith) r in omega arith
    ]

-- ---- ranks

by_numbers : (x y : ℤ) (a b : ℕ) → x ≡ pos a → y ≡ pos b → b < a → y <ℤ x
by_numbers x y a b e f h = omega (arith, ints)

-- what a user's acceptance acquires, with its rank
record Acquiring (shape : Shape) (uses : List UseSets) (number : ℕ → ℕ) (top : ℕ) (M : List ℕ) (rank : ℤ) : Type 0 where
  part : ℕ
  within : part < length shape.parts
  acquired : IsTrue (acquires uses M part)
  least : (m : ℕ) → m < length shape.parts → IsTrue (acquires uses M m) → number part ≤ number m
  rank_is : rank ≡ pos (2 * (top - number part) + 2)

record Idle (shape : Shape) (uses : List UseSets) (M : List ℕ) (rank : ℤ) : Type 0 where
  nothing : (m : ℕ) → m < length shape.parts → acquires uses M m ≡ false
  rank_is : rank ≡ pos 0

-- what stands throughout
record Given (shape : Shape) (uses : List UseSets) (number : ℕ → ℕ) (top : ℕ) (ranking : Ranking) : Type 0 where
  form : IsWellFormed shape
  triple : TripleDisjoint (alphabets_of shape.parts)
  uses_are : KeepUses shape uses
  rise : ResourcesRise shape uses number
  positive : (i : ℕ) → i < length shape.parts → (use_at uses i).resource ≡ true → 1 ≤ number i
  ranks : AreResourceRanks shape uses number top ranking

accepts_some : (shape : Shape) (s : List ℕ) (i k : ℕ) → Side shape s i k → AcceptsSome shape i (own_run shape s i) k
accepts_some shape s i k side = record { accepts = side.accepts; some = side.vertex.some }

user_rank : (shape : Shape) (uses : List UseSets) (number : ℕ → ℕ) (top : ℕ) (ranking : Ranking) (s : List ℕ) (i k : ℕ) → Given shape uses number top ranking → Side shape s i k → (use_at uses i).resource ≡ false → Acquiring shape uses number top (accepted shape i (own_run shape s i) k) (rank_there shape ranking i (own_run shape s i) k) ⊎ Idle shape uses (accepted shape i (own_run shape s i) k) (rank_there shape ranking i (own_run shape s i) k)
user_rank shape uses number top ranking s i k g side user =
    elim (least_of (acquires uses (accepted shape i (own_run shape s i) k)) number (length shape.parts)) [
      | inl r ↦ inl (record { part = r.place; within = r.within; acquired = r.passes; least = r.least; rank_is = g.ranks.acquiring i (own_run shape s i) k r.place user (accepts_some shape s i k side) r.within r.passes r.least })
      | inr nothing ↦ inr (record { nothing = nothing; rank_is = g.ranks.not_acquiring i (own_run shape s i) k user (accepts_some shape s i k side) nothing })
    ]

number_within : (shape : Shape) (uses : List UseSets) (number : ℕ → ℕ) (top : ℕ) (ranking : Ranking) (j : ℕ) → Given shape uses number top ranking → j < length shape.parts → (use_at uses j).resource ≡ true → (1 ≤ number j) × (number j ≤ top)
number_within shape uses number top ranking j g h r =
    (g.positive j h r, let le : number j ≤ top_number uses number (length shape.parts) = below_top uses number (length shape.parts) j h r in let e : top ≡ top_number uses number (length shape.parts) = g.ranks.greatest in omega arith)

-- ---- the kinds of request

resource_of : (shape : Shape) (uses : List UseSets) (number : ℕ → ℕ) (top : ℕ) (ranking : Ranking) (i : ℕ) → Given shape uses number top ranking → i < length shape.parts → (use_at uses i).resource ≡ true → Resource shape uses i
resource_of shape uses number top ranking i g h r = record { form = g.form; triple = g.triple; uses_are = g.uses_are; part = h; resource = r }

same_holds : (shape : Shape) (s : List ℕ) (i j l : ℕ) → IsWellFormed shape → Joins shape i j l → holds shape l (own_run shape s i) ≡ holds shape l (own_run shape s j)
same_holds shape s i j l w joins =
    ap is_odd (link_events shape i l s w joins.within (first_end shape i j l joins) ∙ sym (link_events shape j l s w joins.within (first_end shape j i l (turned shape i j l joins))))

-- a user asks to acquire
acquire_falls : (shape : Shape) (uses : List UseSets) (number : ℕ → ℕ) (top : ℕ) (ranking : Ranking) (s : List ℕ) (i j k l : ℕ) → Given shape uses number top ranking → (r : Request shape s i j k l) → (use_at uses i).resource ≡ false → (use_at uses j).resource ≡ true → IsTrue (has (use_at uses j).acquire r.event) → rank_there shape ranking j (own_run shape s j) l <ℤ rank_there shape ranking i (own_run shape s i) k
acquire_falls shape uses number top ranking s i j k l g r user resource a =
    let x = rank_there shape ranking i (own_run shape s i) k in
    let y = rank_there shape ranking j (own_run shape s j) l in
    let wanted = acquires_by uses (accepted shape i (own_run shape s i) k) j r.event resource r.asked a in
    elim (cases_Bool (is_held shape (own_run shape s j))) [
      | inl held ↦
          let bounds = number_within shape uses number top ranking j g r.there.part resource in
          let top_above : number j ≤ top = bounds.1 in
          elim (user_rank shape uses number top ranking s i k g r.here user) [
            | inl q ↦ let least : number q.part ≤ number j = q.least j r.there.part wanted in by_numbers x y (2 * (top - number q.part) + 2) (2 * (top - number j) + 1) q.rank_is (g.ranks.held j (own_run shape s j) l resource (accepts_some shape s j l r.there) held) (omega arith)
            | inr q ↦ absurd (both_ways (acquires uses (accepted shape i (own_run shape s i) k) j) (q.nothing j r.there.part) wanted)
          ]
      | inr free ↦ absurd (r.apart r.event r.asked ((g.uses_are.grants j (own_run shape s j) resource).when_free _ (at_place shape j (own_run shape s j) l r.there.accepts) free r.event a))
    ]

-- a user asks to release: the resource grants it
release_granted : (shape : Shape) (uses : List UseSets) (number : ℕ → ℕ) (top : ℕ) (ranking : Ranking) (s : List ℕ) (i j k l : ℕ) → Given shape uses number top ranking → (r : Request shape s i j k l) → (use_at uses j).resource ≡ true → holds shape r.link (own_run shape s j) ≡ true → IsTrue (has (use_at uses j).release r.event) → ⊥
release_granted shape uses number top ranking s i j k l g r resource odd a =
    let t = turns shape uses j (resource_of shape uses number top ranking j g r.there.part resource) (own_run shape s j) r.there.runs in
    let end = first_end shape j i r.link (turned shape i j r.link r.joins) in
    elim (cases_Bool (is_held shape (own_run shape s j))) [
      | inl held ↦
          let h = t.held held in
          let x = h.0 in
          let on = sym (h.1 r.link r.joins.within end) ∙ odd in
          r.apart r.event r.asked ((g.uses_are.grants j (own_run shape s j) resource).when_held r.link _ r.event (at_place shape j (own_run shape s j) l r.there.accepts) held (record { within = r.joins.within; end = end; event = x.event; last = x.is; on = on }) a r.on_there.event)
      | inr free ↦ both_ways (holds shape r.link (own_run shape s j)) (t.free free r.link r.joins.within end) odd
    ]

-- a free resource asks
free_falls : (shape : Shape) (uses : List UseSets) (number : ℕ → ℕ) (top : ℕ) (ranking : Ranking) (s : List ℕ) (i j k l : ℕ) → Given shape uses number top ranking → Request shape s i j k l → (use_at uses i).resource ≡ true → (use_at uses j).resource ≡ false → is_held shape (own_run shape s i) ≡ false → rank_there shape ranking j (own_run shape s j) l <ℤ rank_there shape ranking i (own_run shape s i) k
free_falls shape uses number top ranking s i j k l g r resource user free =
    let x = rank_there shape ranking i (own_run shape s i) k in
    let y = rank_there shape ranking j (own_run shape s j) l in
    let high = g.ranks.free i (own_run shape s i) k resource (accepts_some shape s i k r.here) free in
    elim (user_rank shape uses number top ranking s j l g r.there user) [
      | inl q ↦
          let bounds = number_within shape uses number top ranking q.part g q.within (acquired_resource uses (accepted shape j (own_run shape s j) l) q.part q.acquired) in
          let low : 1 ≤ number q.part = bounds.0 in
          let most : number q.part ≤ top = bounds.1 in
          by_numbers x y (2 * top + 2) (2 * (top - number q.part) + 2) high q.rank_is (omega arith)
      | inr q ↦ by_numbers x y (2 * top + 2) 0 high q.rank_is (omega arith)
    ]

-- a held resource asks: the other holds it
held_by : (shape : Shape) (uses : List UseSets) (number : ℕ → ℕ) (top : ℕ) (ranking : Ranking) (s : List ℕ) (i j k l : ℕ) → Given shape uses number top ranking → (r : Request shape s i j k l) → (use_at uses i).resource ≡ true → is_held shape (own_run shape s i) ≡ true → holds shape r.link (own_run shape s i) ≡ true
held_by shape uses number top ranking s i j k l g r resource held =
    let t = turns shape uses i (resource_of shape uses number top ranking i g r.here.part resource) (own_run shape s i) r.here.runs in
    let h = t.held held in
    let x = h.0 in
    let possible = r.here.possible r.event r.asked in
    let there = (g.uses_are.used i (own_run shape s i) resource).by_holder x.link r.event possible (r.here.accepts.shared r.event r.asked) held (record { within = x.on.within; end = x.on.end; event = x.event; last = x.is; on = x.on.event }) in
    let same : x.link ≡ r.link = one_link shape i x.link r.link r.event g.form g.triple r.here.part (record { within = x.on.within; end = x.on.end; event = there }) r.on_here in
    h.1 r.link r.joins.within r.on_here.end ∙ subst (λ m. IsTrue (has (link_at shape m).shared x.event)) same x.on.event

held_falls : (shape : Shape) (uses : List UseSets) (number : ℕ → ℕ) (top : ℕ) (ranking : Ranking) (s : List ℕ) (i j k l : ℕ) → Given shape uses number top ranking → Request shape s i j k l → (use_at uses i).resource ≡ true → (use_at uses j).resource ≡ false → is_held shape (own_run shape s i) ≡ true → rank_there shape ranking j (own_run shape s j) l <ℤ rank_there shape ranking i (own_run shape s i) k
held_falls shape uses number top ranking s i j k l g r resource user held =
    let x = rank_there shape ranking i (own_run shape s i) k in
    let y = rank_there shape ranking j (own_run shape s j) l in
    let high = g.ranks.held i (own_run shape s i) k resource (accepts_some shape s i k r.here) held in
    let odd = sym (same_holds shape s i j r.link g.form r.joins) ∙ held_by shape uses number top ranking s i j k l g r resource held in
    elim (user_rank shape uses number top ranking s j l g r.there user) [
      | inl q ↦
          let bounds = number_within shape uses number top ranking q.part g q.within (acquired_resource uses (accepted shape j (own_run shape s j) l) q.part q.acquired) in
          let most : number q.part ≤ top = bounds.1 in
          let above : number i < number q.part = g.rise i q.part (record { user = j; link = r.link; run = own_run shape s j; acceptance = accepted shape j (own_run shape s j) l; is_user = user; accepts = at_place shape j (own_run shape s j) l r.there.accepts; within = q.within; acquiring = q.acquired; joins = turned shape i j r.link r.joins; holding = odd }) in
          by_numbers x y (2 * (top - number i) + 1) (2 * (top - number q.part) + 2) high q.rank_is (omega arith)
      | inr q ↦ by_numbers x y (2 * (top - number i) + 1) 0 high q.rank_is (omega arith)
    ]

-- one end is a user and the other a resource
other_kind : (shape : Shape) (uses : List UseSets) (i j l : ℕ) → KeepUses shape uses → Joins shape i j l → (use_at uses i).resource ≡ not (use_at uses j).resource
other_kind shape uses i j l a joins =
    elim joins.ends [
      | inl e ↦ ap (λ x. (use_at uses x).resource) (sym e.0) ∙ a.kinds.linked l joins.within ∙ ap (λ x. not (use_at uses x).resource) e.1
      | inr e ↦ twice (use_at uses i).resource ∙ ap not (ap (λ x. not (use_at uses x).resource) (sym e.1) ∙ sym (a.kinds.linked l joins.within) ∙ ap (λ x. (use_at uses x).resource) e.0)
    ]
  where
    twice : (b : Bool) → b ≡ not (not b)
    twice true = refl
    twice false = refl

turn_over : (a b : Bool) → a ≡ not b → b ≡ not a
turn_over a true h = sym (ap not h)
turn_over a false h = sym (ap not h)

ranks_fall : (shape : Shape) (uses : List UseSets) (number : ℕ → ℕ) (top : ℕ) (ranking : Ranking) (s : List ℕ) (i j k l : ℕ) → Given shape uses number top ranking → Request shape s i j k l → rank_there shape ranking j (own_run shape s j) l <ℤ rank_there shape ranking i (own_run shape s i) k
ranks_fall shape uses number top ranking s i j k l g r =
    let kinds = turn_over (use_at uses i).resource (use_at uses j).resource (other_kind shape uses i j r.link g.uses_are r.joins) in
    elim (cases_Bool (use_at uses i).resource) [
      | inl resource ↦
          let user = kinds ∙ ap not resource in
          elim (cases_Bool (is_held shape (own_run shape s i))) [
            | inl held ↦ held_falls shape uses number top ranking s i j k l g r resource user held
            | inr free ↦ free_falls shape uses number top ranking s i j k l g r resource user free
          ]
      | inr user ↦
          let resource = kinds ∙ ap not user in
          let possible = r.here.possible r.event r.asked in
          elim (cases_Bool (holds shape r.link (own_run shape s i))) [
            | inl odd ↦ absurd (release_granted shape uses number top ranking s i j k l g r resource (sym (same_holds shape s i j r.link g.form r.joins) ∙ odd) (sym (cond-true (holds shape r.link (own_run shape s i)) (has (use_at uses j).release r.event) (has (use_at uses j).acquire r.event) odd) ∙ g.uses_are.turns i (own_run shape s i) user j r.link r.event r.joins possible r.on_here.event))
            | inr even ↦ acquire_falls shape uses number top ranking s i j k l g r user resource (sym (cond-false (holds shape r.link (own_run shape s i)) (has (use_at uses j).release r.event) (has (use_at uses j).acquire r.event) even) ∙ g.uses_are.turns i (own_run shape s i) user j r.link r.event r.joins possible r.on_here.event)
          ]
    ]

pub ordered_ranks_fall : OrderedRanksFall
ordered_ranks_fall shape uses number top ranking w triple uses_are rise positive ranks s i j k l u =
    no_scale (rank_after ranking i (part_at shape.parts i) s k) (rank_after ranking j (part_at shape.parts j) s l) ranking.scale (lead shape.parts ranking s i j) ranks.scale
    (ranks_fall shape uses number top ranking s i j k l (record { form = w; triple = triple; uses_are = uses_are; rise = rise; positive = positive; ranks = ranks }) (request shape s i j k l w u))

-- ---- longest chains

-- what is held is a resource
held_resource : (shape : Shape) (uses : List UseSets) (m j : ℕ) → KeepUses shape uses → IsHeldWhile shape uses m j → (use_at uses m).resource ≡ true
held_resource shape uses m j a h = turn_over (use_at uses h.user).resource (use_at uses m).resource (other_kind shape uses h.user m h.link a h.joins) ∙ ap not h.is_user

pub chains_rise : (shape : Shape) (uses : List UseSets) (number : ℕ → ℕ) → IsWellFormed shape → KeepUses shape uses → AreResourceNumbers shape uses number → ResourcesRise shape uses number
chains_rise shape uses number w a numbers m j h =
    let low = numbers m (joins_within shape h.user m h.link w h.joins) (held_resource shape uses m j a h) in
    let high = numbers j h.within (acquired_resource uses h.acceptance j h.acquiring) in
    let more : suc low.below ≤ high.below = high.longest.most (suc low.below) low.longest.end (m, h, low.longest.attained) in
    let x : number m ≡ low.below + 1 = low.number in
    let y : number j ≡ high.below + 1 = high.number in
    omega arith

pub resource_ranks_fall : ResourceRanksFall
resource_ranks_fall shape uses ranking w triple rule r =
    ordered_ranks_fall shape uses r.number r.top ranking w triple rule.keep_uses (chains_rise shape uses r.number w rule.keep_uses r.numbers)
    (λ i h resource. let n = r.numbers i h resource in let x : r.number i ≡ n.below + 1 = n.number in omega arith)
    r.ranks
