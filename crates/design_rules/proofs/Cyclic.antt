-- The ranking of a cyclic network falls along ungranted requests.
use Rattle.design_rules.proofs.Prelude.{◌≡◌, ℕ, ◌+◌, ◌*◌, ◌/◌, ◌%◌, ◌<◌, ◌≤◌, inl, inr, ℤ, pos, ◌+ℤ◌, ◌-ℤ◌, ◌*ℤ◌, ◌<ℤ◌, List, [], ◌∷◌, ◌++◌, length, ◌&&◌, cond, nat_lt, IsTrue, sym, ap, subst, ◌∙◌, arith, eq-eqb, ne_eqb, le-ltb, lt-ltb, ltb-true, cases_Bool, cases_eq, cases_lt, cases_order, and_parts, and_from, and_right, both_ways, ints, mod_below, div-eq_of_lt, mod-eq_of_lt, +ℤ_invr, *ℤ-zero, has, count_in, above_all, links_of, IsWholeEnd, HasWholeEnd, place_after, by_tables, place_of, IsNext, KeepsOrder, ReachedLinksDiffer, AreCyclicRanks, ends_lap, IsRun, end_of, part_at, Meet, IsWithin, Shape, Joins, link_at, is_end, IsWellFormed, RunsTo, IsPossible, Accepts, accepted, IsOn, Ranking, part_ranks, rank_after, laps_from, lead, Falls, part_form}
use Rattle.design_rules.proofs.Counts.{count_strict, below_all, count_push_more, count_push_same, lap_over, lap_on}
use Rattle.design_rules.proofs.Runs.{possible_after, run_induction, laps_push, possible_within}
use Rattle.design_rules.proofs.Shapes.{turned, first_end, link_shared, some_link, link_events, own_run, own_end, Request, request}
use Rattle.design_rules.proofs.Accepting.{at_place}

-- ---- places

pub earlier_place : (shape : Shape) (number : ℕ → ℕ) (i l m : ℕ) → l < length shape.links → IsTrue (is_end shape i l) → number l < number m → place_of shape number i l < place_of shape number i m
earlier_place shape number i l m h end less =
    count_strict (λ x. is_end shape i x && nat_lt (number x) (number l)) (λ x. is_end shape i x && nat_lt (number x) (number m)) (length shape.links) l
    (λ x _ k. let p = and_parts (is_end shape i x) (nat_lt (number x) (number l)) k in let lt : number x < number l = ltb-true (number x) (number l) p.1 in and_from _ _ p.0 (lt-ltb (number x) (number m) (omega arith)))
    h (and_right (is_end shape i l) (nat_lt (number l) (number l)) (le-ltb (number l) (number l) (omega arith))) (and_from _ _ end (lt-ltb (number l) (number m) less))

pub place_below : (shape : Shape) (number : ℕ → ℕ) (i l : ℕ) → l < length shape.links → IsTrue (is_end shape i l) → place_of shape number i l < links_of shape i
place_below shape number i l h end =
    count_strict (λ x. is_end shape i x && nat_lt (number x) (number l)) (λ x. is_end shape i x) (length shape.links) l
    (λ x _ k. (and_parts (is_end shape i x) (nat_lt (number x) (number l)) k).0)
    h (and_right (is_end shape i l) (nat_lt (number l) (number l)) (le-ltb (number l) (number l) (omega arith))) end

pub places_differ : (shape : Shape) (number : ℕ → ℕ) (i l m : ℕ) → l < length shape.links → m < length shape.links → IsTrue (is_end shape i l) → IsTrue (is_end shape i m) → (number l ≡ number m → ⊥) → place_of shape number i l ≡ place_of shape number i m → ⊥
places_differ shape number i l m h k x y ne same =
    elim (cases_order (number l) (number m)) [
      | inl e ↦ ne e
      | inr order ↦ elim order [
        | inl less ↦ let p : place_of shape number i l < place_of shape number i m = earlier_place shape number i l m h x less in omega arith
        | inr more ↦ let p : place_of shape number i m < place_of shape number i l = earlier_place shape number i m l k y more in omega arith
      ]
    ]

-- ---- events of a link and laps, along runs of a part

-- one where the place comes before the next one
abbrev passed : ℕ → ℕ → ℕ
passed p r = cond (nat_lt p r) 1 0

-- of t shared events, with k links, this many are on the link with place p
abbrev IsBalanced : ℕ → ℕ → ℕ → ℕ → Type 0
IsBalanced c t k p = c ≡ t / k + passed p (t % k)

balanced_on : (c t k p : ℕ) → p < k → p ≡ t % k → IsBalanced c t k p → IsBalanced (c + 1) (t + 1) k p
balanced_on c t k p below next h = grind (arith, lap_over, lap_on)

balanced_off : (c t k p : ℕ) → p < k → t % k < k → (p ≡ t % k → ⊥) → IsBalanced c t k p → IsBalanced c (t + 1) k p
balanced_off c t k p below within other h = grind (arith, lap_over, lap_on)

balanced_none : (k p : ℕ) → p < k → IsBalanced 0 0 k p
balanced_none k p below = grind (arith, div-eq_of_lt, mod-eq_of_lt)

-- what is used of the rule
pub record Ordered (shape : Shape) (number : ℕ → ℕ) : Type 0 where
  pub form : IsWellFormed shape
  pub differ : ReachedLinksDiffer shape (by_tables shape) number
  pub order : KeepsOrder shape (by_tables shape) number
  pub whole : (l : ℕ) → l < length shape.links → HasWholeEnd shape l

possible_at : (shape : Shape) (i : ℕ) (u : List ℕ) (e : ℕ) → i < length shape.parts → IsRun (part_at shape.parts i).table u → IsTrue (possible_after (part_at shape.parts i).table u e) → IsPossible shape i u e
possible_at shape i u e h r possible = record { runs = record { part = h; follows = r }; next = possible }

-- a possible shared event lies on the link that is next
pub next_link : (shape : Shape) (number : ℕ → ℕ) (i : ℕ) (u : List ℕ) (e : ℕ) → Ordered shape number → IsPossible shape i u e → IsTrue (has shape.vocabulary e) → (l : ℕ) × IsOn shape i l e × IsNext shape number i u l
next_link shape number i u e o possible v =
    let owned = possible_within (part_at shape.parts i) (end_of (part_at shape.parts i).table 0 u) e (part_form shape.parts i possible.runs.part o.form.form) possible.next in
    let l = some_link shape i e o.form possible.runs.part owned v in
    (l.0, l.1, o.order i l.0 u e possible l.1)

abbrev BalancedAt : Shape → (ℕ → ℕ) → ℕ → ℕ → List ℕ → Type 0
BalancedAt shape number i l u = IsBalanced (count_in (link_at shape l).shared u) (place_after shape u) (links_of shape i) (place_of shape number i l)

balanced_pushed : (shape : Shape) (number : ℕ → ℕ) (i l : ℕ) (u : List ℕ) (e c t : ℕ) → count_in (link_at shape l).shared (u ++ e ∷ []) ≡ c → place_after shape (u ++ e ∷ []) ≡ t → IsBalanced c t (links_of shape i) (place_of shape number i l) → BalancedAt shape number i l (u ++ e ∷ [])
balanced_pushed shape number i l u e c t a b h = a ∙ h ∙ ap (λ x. x / links_of shape i + passed (place_of shape number i l) (x % links_of shape i)) (sym b)

balanced_step : (shape : Shape) (number : ℕ → ℕ) (i l : ℕ) → Ordered shape number → l < length shape.links → IsTrue (is_end shape i l) → (u : List ℕ) (e : ℕ) → IsPossible shape i u e → BalancedAt shape number i l u → BalancedAt shape number i l (u ++ e ∷ [])
balanced_step shape number i l o h end u e possible b =
    let S = (link_at shape l).shared in
    let below = place_below shape number i l h end in
    elim (cases_Bool (has S e)) [
      | inl on ↦
          balanced_pushed shape number i l u e (count_in S u + 1) (place_after shape u + 1) (count_push_more S u e on) (count_push_more shape.vocabulary u e (link_shared shape l o.form h e on))
          (balanced_on (count_in S u) (place_after shape u) (links_of shape i) (place_of shape number i l) below (o.order i l u e possible (record { within = h; end = end; event = on })) b)
      | inr off ↦ elim (cases_Bool (has shape.vocabulary e)) [
        | inl v ↦
            let n = next_link shape number i u e o possible v in
            let other = λ (same : n.0 ≡ l). both_ways (has S e) off (subst (λ m. IsTrue (has (link_at shape m).shared e)) same n.1.event) in
            let differs = λ (same : place_of shape number i l ≡ place_after shape u % links_of shape i). places_differ shape number i n.0 l n.1.within h n.1.end end (o.differ i n.0 l u e possible n.1 h end other) (n.2 ∙ sym same) in
            balanced_pushed shape number i l u e (count_in S u) (place_after shape u + 1) (count_push_same S u e off) (count_push_more shape.vocabulary u e v)
            (balanced_off (count_in S u) (place_after shape u) (links_of shape i) (place_of shape number i l) below (mod_below (place_after shape u) (links_of shape i) (omega arith)) differs b)
        | inr hidden ↦
            balanced_pushed shape number i l u e (count_in S u) (place_after shape u) (count_push_same S u e off) (count_push_same shape.vocabulary u e hidden) b
      ]
    ]

balanced : (shape : Shape) (number : ℕ → ℕ) (i l : ℕ) → Ordered shape number → l < length shape.links → IsTrue (is_end shape i l) → (s : List ℕ) → RunsTo shape i s → BalancedAt shape number i l s
balanced shape number i l o h end s run =
    run_induction (part_at shape.parts i).table (BalancedAt shape number i l)
    (balanced_none (links_of shape i) (place_of shape number i l) (place_below shape number i l h end))
    (λ u e r possible b. balanced_step shape number i l o h end u e (possible_at shape i u e run.part r possible) b)
    s run.follows

-- ---- laps

lap_step : (a t k p : ℕ) → p ≡ t % k → t % k < k → a ≡ t / k → a + ends_lap p k ≡ (t + 1) / k
lap_step a t k p next within h = grind (arith, lap_over, lap_on)

abbrev laps_in : Shape → Ranking → ℕ → List ℕ → ℕ
laps_in shape ranking i u = laps_from (part_at shape.parts i).table (part_ranks ranking i).laps 0 u

abbrev LapsAt : Shape → Ranking → ℕ → List ℕ → Type 0
LapsAt shape ranking i u = laps_in shape ranking i u ≡ place_after shape u / links_of shape i

laps_step : (shape : Shape) (number : ℕ → ℕ) (ranking : Ranking) (i : ℕ) → Ordered shape number → AreCyclicRanks shape number ranking → 0 < links_of shape i → (u : List ℕ) (e : ℕ) → IsPossible shape i u e → LapsAt shape ranking i u → LapsAt shape ranking i (u ++ e ∷ [])
laps_step shape number ranking i o r some u e possible b =
    let n = end_of (part_at shape.parts i).table 0 u in
    let push = laps_push (part_at shape.parts i).table (part_ranks ranking i).laps 0 u e in
    elim (cases_Bool (has shape.vocabulary e)) [
      | inl v ↦
          let x = next_link shape number i u e o possible v in
          let lap = r.laps i n e x.0 possible.runs.part possible.next x.1 in
          push ∙ ap (λ y. laps_in shape ranking i u + y) lap
          ∙ lap_step (laps_in shape ranking i u) (place_after shape u) (links_of shape i) (place_of shape number i x.0) x.2 (mod_below (place_after shape u) (links_of shape i) some) b
          ∙ ap (λ y. y / links_of shape i) (sym (count_push_more shape.vocabulary u e v))
      | inr hidden ↦
          let lap = r.no_laps i n e possible.runs.part hidden in
          let same : laps_in shape ranking i (u ++ e ∷ []) ≡ laps_in shape ranking i u = omega (arith, push, lap) in
          same ∙ b ∙ ap (λ y. y / links_of shape i) (sym (count_push_same shape.vocabulary u e hidden))
    ]

laps_are : (shape : Shape) (number : ℕ → ℕ) (ranking : Ranking) (i : ℕ) → Ordered shape number → AreCyclicRanks shape number ranking → 0 < links_of shape i → (s : List ℕ) → RunsTo shape i s → LapsAt shape ranking i s
laps_are shape number ranking i o r some s run =
    run_induction (part_at shape.parts i).table (LapsAt shape ranking i)
    (sym (div-eq_of_lt some))
    (λ u e f possible b. laps_step shape number ranking i o r some u e (possible_at shape i u e run.part f possible) b)
    s run.follows

-- ---- a request

-- an acceptance of a whole end that meets the link has all of its events
pub whole_has : (shape : Shape) (l i : ℕ) (s : List ℕ) (k : ℕ) → IsWholeEnd shape l i → Accepts shape i s k → Meet (accepted shape i s k) (link_at shape l).shared → IsWithin (link_at shape l).shared (accepted shape i s k)
whole_has shape l i s k whole a meets e on =
    elim (cases_Bool (has (accepted shape i s k) e)) [
      | inl there ↦ there
      | inr lacks ↦ absurd (whole s (record { acceptance = accepted shape i s k; accepts = at_place shape i s k a; meets = meets; missing = e; on = on; lacks = lacks }))
    ]

-- where both acceptances meet the link, one has all its events
clash : (shape : Shape) (s : List ℕ) (i j k l : ℕ) (r : Request shape s i j k l) → HasWholeEnd shape r.link → (f : ℕ) → IsTrue (has (accepted shape j (own_run shape s j) l) f) → IsTrue (has (link_at shape r.link).shared f) → ⊥
clash shape s i j k l r whole f standing on =
    elim whole [
      | inl left ↦ elim r.joins.ends [
        | inl e ↦ at_here (subst (IsWholeEnd shape r.link) e.0 left)
        | inr e ↦ at_there (subst (IsWholeEnd shape r.link) e.0 left)
      ]
      | inr right ↦ elim r.joins.ends [
        | inl e ↦ at_there (subst (IsWholeEnd shape r.link) e.1 right)
        | inr e ↦ at_here (subst (IsWholeEnd shape r.link) e.1 right)
      ]
    ]
  where
    at_here : IsWholeEnd shape r.link i → ⊥
    at_here end = r.apart f (whole_has shape r.link i (own_run shape s i) k end r.here.accepts (record { event = r.event; first = r.asked; second = r.on_here.event }) f on) standing

    at_there : IsWholeEnd shape r.link j → ⊥
    at_there end = r.apart r.event r.asked (whole_has shape r.link j (own_run shape s j) l end r.there.accepts (record { event = f; first = standing; second = on }) r.event r.on_here.event)

no_lead : (a b : ℕ) → a ≡ b → pos a -ℤ pos b ≡ pos 0
no_lead a b e = ap (λ x. pos x -ℤ pos b) e ∙ +ℤ_invr (pos b)

same_lap : (m n top a b : ℕ) → n < m → a ≡ b → pos n <ℤ (pos m +ℤ (pos top *ℤ (pos a -ℤ pos b)))
same_lap m n top a b h e =
    let zero_lead : (pos top *ℤ (pos a -ℤ pos b)) ≡ pos 0 = ap (λ z. pos top *ℤ z) (no_lead a b e) ∙ *ℤ-zero (pos top) in
    subst (λ z. pos n <ℤ (pos m +ℤ z)) (sym zero_lead) (omega (arith, ints))

one_lead : (a b : ℕ) → a ≡ b + 1 → pos a -ℤ pos b ≡ pos 1
one_lead a b e = omega (arith, ints)

lap_ahead : (m n top a b : ℕ) → n < top → a ≡ b + 1 → pos n <ℤ (pos m +ℤ (pos top *ℤ (pos a -ℤ pos b)))
lap_ahead m n top a b h e =
    let lead_one : (pos top *ℤ (pos a -ℤ pos b)) ≡ pos (top * 1) = ap (λ z. pos top *ℤ z) (one_lead a b e) in
    subst (λ z. pos n <ℤ (pos m +ℤ z)) (sym lead_one) (omega (arith, ints))

with_ranks : (x y c d : ℤ) (m n top : ℕ) → x ≡ pos m → y ≡ pos n → c ≡ pos top → pos n <ℤ (pos m +ℤ (pos top *ℤ d)) → y <ℤ (x +ℤ (c *ℤ d))
with_ranks x y c d m n top a b e h =
    subst (λ z. z <ℤ (x +ℤ (c *ℤ d))) (sym b) (subst (λ z. pos n <ℤ (z +ℤ (c *ℤ d))) (sym a) (subst (λ z. pos n <ℤ (pos m +ℤ (z *ℤ d))) (sym e) h))

-- the numbers of a request: the laps of both ends, and whether the asked part is past the link in its lap
record Numbers (shape : Shape) (number : ℕ → ℕ) (ranking : Ranking) (s : List ℕ) (i j l : ℕ) : Type 0 where
  behind : laps_in shape ranking i (own_run shape s i) ≡ laps_in shape ranking j (own_run shape s j) + passed (place_of shape number j l) (place_after shape (own_run shape s j) % links_of shape j)

numbers : (shape : Shape) (number : ℕ → ℕ) (ranking : Ranking) (s : List ℕ) (i j l : ℕ) → Ordered shape number → AreCyclicRanks shape number ranking → Joins shape i j l → RunsTo shape i (own_run shape s i) → RunsTo shape j (own_run shape s j) → IsNext shape number i (own_run shape s i) l → Numbers shape number ranking s i j l
numbers shape number ranking s i j l o r joins ri rj next =
    let h = joins.within in
    let ei = first_end shape i j l joins in
    let ej = first_end shape j i l (turned shape i j l joins) in
    let pi : place_of shape number i l < links_of shape i = place_below shape number i l h ei in
    let pj : place_of shape number j l < links_of shape j = place_below shape number j l h ej in
    let bi = balanced shape number i l o h ei (own_run shape s i) ri in
    let bj = balanced shape number j l o h ej (own_run shape s j) rj in
    let li = laps_are shape number ranking i o r (omega arith) (own_run shape s i) ri in
    let lj = laps_are shape number ranking j o r (omega arith) (own_run shape s j) rj in
    record { behind = behind _ _ _ _ _ _ _ _ _ _ _ bi bj li lj next (link_events shape i l s o.form h ei) (link_events shape j l s o.form h ej) }
  where
    behind : (ci cj c ti tj li lj pi pj ki kj : ℕ) → ci ≡ ti / ki + passed pi (ti % ki) → cj ≡ tj / kj + passed pj (tj % kj) → li ≡ ti / ki → lj ≡ tj / kj → pi ≡ ti % ki → ci ≡ c → cj ≡ c → li ≡ lj + passed pj (tj % kj)
    behind ci cj c ti tj li lj pi pj ki kj bi bj ei ej next a b = grind (arith)

not_past : (a b p q r : ℕ) → a ≡ b + passed p r → q ≡ r → q < p → a ≡ b
not_past a b p q r h next less = grind (arith)

past : (a b p q r : ℕ) → a ≡ b + passed p r → q ≡ r → p < q → a ≡ b + 1
past a b p q r h next less = grind (arith)

pub ordered_ranks_fall : (shape : Shape) (number : ℕ → ℕ) (ranking : Ranking) → Ordered shape number → AreCyclicRanks shape number ranking → Falls shape.parts ranking
ordered_ranks_fall shape number ranking o ranks s i j k l u =
    let r = request shape s i j k l o.form u in
    let ej = first_end shape j i r.link (turned shape i j r.link r.joins) in
    let ni = o.order i r.link (own_run shape s i) r.event (r.here.possible r.event r.asked) r.on_here in
    let f = r.there.vertex.some in
    let possible = r.there.possible f.0 f.1 in
    let x = next_link shape number j (own_run shape s j) f.0 o possible (r.there.accepts.shared f.0 f.1) in
    let n = numbers shape number ranking s i j r.link o ranks r.joins r.here.runs r.there.runs ni in
    let rank_i = ranks.ranks i (own_end shape s i) k r.link r.here.vertex r.joins.within r.on_here.end (record { event = r.event; first = r.asked; second = r.on_here.event }) in
    let rank_j = ranks.ranks j (own_end shape s j) l x.0 r.there.vertex x.1.within x.1.end (record { event = f.0; first = f.1; second = x.1.event }) in
    let above : number x.0 < above_all number (length shape.links) = below_all number (length shape.links) x.0 x.1.within in
    elim (cases_eq x.0 r.link) [
      | inl same ↦ absurd (clash shape s i j k l r (o.whole r.link r.joins.within) f.0 f.1 (subst (λ m. IsTrue (has (link_at shape m).shared f.0)) same x.1.event))
      | inr other ↦
          with_ranks (rank_after ranking i (part_at shape.parts i) s k) (rank_after ranking j (part_at shape.parts j) s l) ranking.scale (lead shape.parts ranking s i j) (number r.link) (number x.0) (above_all number (length shape.links)) rank_i rank_j ranks.scale
          (by_order shape number ranking s i j r.link x.0 r.joins.within x.1.within ej x.1.end x.2 (o.differ j x.0 r.link (own_run shape s j) f.0 possible x.1 r.joins.within ej other) above n)
    ]
  where
    by_order : (shape : Shape) (number : ℕ → ℕ) (ranking : Ranking) (s : List ℕ) (i j l m : ℕ) → l < length shape.links → m < length shape.links → IsTrue (is_end shape j l) → IsTrue (is_end shape j m) → IsNext shape number j (own_run shape s j) m → (number m ≡ number l → ⊥) → number m < above_all number (length shape.links) → Numbers shape number ranking s i j l → pos (number m) <ℤ (pos (number l) +ℤ (pos (above_all number (length shape.links)) *ℤ lead shape.parts ranking s i j))
    by_order shape number ranking s i j l m h g x y next ne above n =
        elim (cases_order (number m) (number l)) [
          | inl same ↦ absurd (ne same)
          | inr order ↦ elim order [
            | inl less ↦
                let p = earlier_place shape number j m l g y less in
                same_lap (number l) (number m) (above_all number (length shape.links)) (laps_in shape ranking i (own_run shape s i)) (laps_in shape ranking j (own_run shape s j)) less (not_past _ _ _ _ _ n.behind next p)
            | inr more ↦
                let p = earlier_place shape number j l m h x more in
                lap_ahead (number l) (number m) (above_all number (length shape.links)) (laps_in shape ranking i (own_run shape s i)) (laps_in shape ranking j (own_run shape s j)) above (past _ _ _ _ _ n.behind next p)
          ]
        ]
