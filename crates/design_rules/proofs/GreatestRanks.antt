-- The greatest number of the ranking that a rule gives to the shape of a network is the network's greatest rank.
--
-- At an acceptance in the vocabulary that is not empty the ranking has exactly the rank by the rule, since longest walks have one length; everywhere else it
-- has 0. And each such acceptance has a rank. So the greatest number is attained there, or it is 0. The ranks by tables are those by steps, since the shape
-- and the network are alike.
use Rattle.design_rules.proofs.Prelude.{◌≡◌, ℕ, zero, suc, ◌+◌, ◌-◌, ◌*◌, ◌<◌, ◌≤◌, ◌⊎◌, inl, inr, pos, ◌-ℤ◌, max, List, [], ◌∷◌, length, true, false, cond, IsTrue, nat_eq, refl, sym, ap, ap₂, subst, ◌∙◌, arith, eq-eqb, cases_Bool, cases_lt, both_ways, or_left, false≢true, ints, get_or-eq_default, has, natural, IsLongestWalk, same_longest, Label, node_at, end_of, IsWithin, Part, part_at, IsNonEmpty, UseSets, role_at, use_at, Shape, IsWellFormed, acceptance_at, accepted, PartRanks, Ranking, Fits, PartsFit, part_ranks, rank_at, search_list, shapes_are_well_formed, part_form, by_tables, Serves, top_number, RanksByNumber, RanksAs, HasRank, IsGreatestRank, free, held, acquiring, idle, greatest_rank, RankingsHaveGreatestRank, rank_there, AcceptsSome, AreResourceRanks, acquires, is_held, Ranks, IsVertex, OthersRankZero, NotedRule, Cyclic, ClientServer, Resource, StandsAbove}
use Rattle.design_rules.specs.GreatestRank.{ComesAfter}
use Rattle.design_rules.proofs.Accepting.{at_place}
use Rattle.design_rules.proofs.ClientServer.{graph, meet_or_apart}
use Rattle.design_rules.proofs.GreatestNumbers.{in_ranking, ranking_has, StandsAt}
use Rattle.design_rules.proofs.Outlines.{on_links, on_parts, same_end, same_held, serves}
use Rattle.design_rules.proofs.Readings.{by_shape, by_itself, alike}
use Rattle.design_rules.proofs.Resource.{acquired_resource, least_of}
use Rattle.design_rules.proofs.Runs.{possible_within, end_within}
use Rattle.design_rules.proofs.Shapes.{some_link}
use Rattle.design_rules.proofs.Transport.{Seen, Alike, turned, must_precede, held_while, acquires_same}
use Rattle.design_rules.proofs.Walks.{height_below}

-- ---- over the tables of a shape

within_or_not : (M V : List ℕ) → IsWithin M V ⊎ (IsWithin M V → ⊥)
within_or_not M V =
    elim (search_list (λ e. has V e ≡ false) (λ e. IsTrue (has V e)) (λ e. elim (cases_Bool (has V e)) [ inl there ↦ inr there | inr missing ↦ inl missing ]) M) [
      | inl found ↦ inr (λ all. both_ways (has V found.0) found.2 (all found.0 found.1))
      | inr all ↦ inl all
    ]

some_or_not : (M : List ℕ) → IsNonEmpty M ⊎ (IsNonEmpty M → ⊥)
some_or_not [] = inr (λ some. false≢true some.1)
some_or_not (e ∷ M) = inl (e, or_left (nat_eq e e) (has M e) (eq-eqb e e refl))

vertex_or_not : (shape : Shape) (i n k : ℕ) → i < length shape.parts → IsVertex shape i n k ⊎ (IsVertex shape i n k → ⊥)
vertex_or_not shape i n k here =
    elim (cases_lt n (length (part_at shape.parts i).table)) [
      | inl node ↦ elim (cases_lt k (length (node_at (part_at shape.parts i).table n).accept)) [
        | inl listed ↦ elim (some_or_not (acceptance_at (part_at shape.parts i) n k)) [
          | inl some ↦ elim (within_or_not (acceptance_at (part_at shape.parts i) n k) shape.vocabulary) [
            | inl shared ↦ inl (record { part = here; node = node; listed = listed; some = some; shared = shared })
            | inr strange ↦ inr (λ v. strange v.shared)
          ]
          | inr none ↦ inr (λ v. none v.some)
        ]
        | inr past ↦ inr (λ v. let l : k < length (node_at (part_at shape.parts i).table n).accept = v.listed in omega arith)
      ]
      | inr past ↦ inr (λ v. let l : n < length (part_at shape.parts i).table = v.node in omega arith)
    ]

fits_count : (ps : List Part) (rs : List PartRanks) → PartsFit ps rs → length rs ≡ length ps
fits_count [] [] fits = refl
fits_count (p ∷ ps) (r ∷ rs) fits = let rest = fits_count ps rs fits.2 in omega (arith, rest)
fits_count _ _ fits = absurd fits

-- what the ranking of a rule says
record Ranked (rule : NotedRule) (shape : Shape) (ranking : Ranking) : Type 0 where
  form : IsWellFormed shape
  fits : Fits shape.parts ranking
  others : OthersRankZero shape ranking
  is : (i : ℕ) (s : List ℕ) (k r : ℕ) → AcceptsSome shape i s k → RanksAs rule shape (by_tables shape) i s (accepted shape i s k) r → rank_there shape ranking i s k ≡ pos r
  some : (i : ℕ) (s : List ℕ) (k : ℕ) → AcceptsSome shape i s k → (r : ℕ) × RanksAs rule shape (by_tables shape) i s (accepted shape i s k) r

module _ (rule : NotedRule) (shape : Shape) (ranking : Ranking) (p : Ranked rule shape ranking) where
  most : (q : ℕ) → HasRank rule shape (by_tables shape) q → q ≤ greatest_rank ranking
  most q h =
      let i = h.component in
      let s = h.trace in
      let k = h.accepts.place in
      let a : AcceptsSome shape i s k = record { accepts = h.accepts.at; some = subst IsNonEmpty (sym h.accepts.is) h.some } in
      let is = p.is i s k q a (subst (λ (M : List ℕ). RanksAs rule shape (by_tables shape) i s M q) (sym h.accepts.is) h.ranks) in
      subst (λ z. natural z ≤ greatest_rank ranking) is (in_ranking ranking i (end_of (part_at shape.parts i).table 0 s) k)

  at_vertex : (at : StandsAt ranking) → IsVertex shape at.part at.node at.place → HasRank rule shape (by_tables shape) (greatest_rank ranking)
  at_vertex at v =
      let i = at.part in
      let k = at.place in
      let r = p.form.reached i at.node v.part v.node in
      let w = subst (λ n. IsVertex shape i n k) (sym r.leads) v in
      let a : AcceptsSome shape i r.run k = record { accepts = record { runs = record { part = v.part; follows = r.follows }; listed = w.listed; shared = w.shared }; some = w.some } in
      let x = p.some i r.run k a in
      let is = sym at.is ∙ ap (λ n. natural (rank_at (part_ranks ranking i).ranks n k)) (sym r.leads) ∙ ap natural (p.is i r.run k x.0 a x.1) in
      subst (HasRank rule shape (by_tables shape)) (sym is)
      (record { component = i; trace = r.run; acceptance = accepted shape i r.run k; accepts = at_place shape i r.run k a.accepts; some = a.some; ranks = x.1 })

  past_parts : (at : StandsAt ranking) → length shape.parts ≤ at.part → greatest_rank ranking ≡ 0
  past_parts at past =
      let count = fits_count shape.parts ranking.parts p.fits in
      sym at.is ∙ ap (λ (part : PartRanks). natural (rank_at part.ranks at.node at.place)) (get_or-eq_default ranking.parts (record { ranks = []; laps = [] }) (omega (arith, past, count)))

  attained : (greatest_rank ranking ≡ 0) ⊎ HasRank rule shape (by_tables shape) (greatest_rank ranking)
  attained = elim (ranking_has ranking) [
    | inl nothing ↦ inl nothing
    | inr at ↦ elim (cases_lt at.part (length shape.parts)) [
      | inl here ↦ elim (vertex_or_not shape at.part at.node at.place here) [
        | inl v ↦ inr (at_vertex at v)
        | inr none ↦ inl (sym at.is ∙ ap natural (p.others at.part at.node at.place here none))
      ]
      | inr past ↦ inl (past_parts at past)
    ]
  ]

  greatest : IsGreatestRank rule shape (by_tables shape) (greatest_rank ranking)
  greatest = record { most = most; attained = attained }

-- ---- the rankings of the rules

one_longest : (Arc : ℕ → ℕ → Type 0) (x m n : ℕ) → IsLongestWalk Arc x m → IsLongestWalk Arc x n → m ≡ n
one_longest Arc x m n a b =
    let up : m ≤ n = b.most m a.end a.attained in
    let down : n ≤ m = a.most n b.end b.attained in
    omega arith

vertex_of : (shape : Shape) → IsWellFormed shape → (i : ℕ) (s : List ℕ) (k : ℕ) → AcceptsSome shape i s k → IsVertex shape i (end_of (part_at shape.parts i).table 0 s) k
vertex_of shape w i s k a = record {
  part = a.accepts.runs.part;
  node = end_within (part_at shape.parts i) s (part_form shape.parts i a.accepts.runs.part w.form) a.accepts.runs.follows;
  listed = a.accepts.listed;
  some = a.some;
  shared = a.accepts.shared;
}

difference : (a h q : ℕ) → q + h ≡ a → pos a -ℤ pos h ≡ pos q
difference a h q e = omega (arith, ints)

-- the resources have one numbering
module _ (shape : Shape) (uses : List UseSets) (f g : ℕ → ℕ) (same : (j : ℕ) → j < length shape.parts → (use_at uses j).resource ≡ true → f j ≡ g j) where
  same_top : (n : ℕ) → n ≤ length shape.parts → top_number uses f n ≡ top_number uses g n
  same_top zero few = refl
  same_top (suc n) few = ap₂ max (own (cases_Bool (use_at uses n).resource)) (same_top n (omega arith))
    where
      own : ((use_at uses n).resource ≡ true) ⊎ ((use_at uses n).resource ≡ false) → cond (use_at uses n).resource (f n) 0 ≡ cond (use_at uses n).resource (g n) 0
      own (inl resource) = ap (λ x. cond (use_at uses n).resource x 0) (same n (omega arith) resource)
      own (inr user) = ap (λ b. cond b (f n) 0) user ∙ sym (ap (λ b. cond b (g n) 0) user)

  renumbered : (t u i : ℕ) (s M : List ℕ) (r : ℕ) → t ≡ u → i < length shape.parts → RanksByNumber shape uses f t i s M r → RanksByNumber shape uses g u i s M r
  renumbered t u i s M r top here (free resource free' e) = free resource free' (e ∙ ap (λ n. 2 * n + 2) top)
  renumbered t u i s M r top here (held resource held' e) = held resource held' (e ∙ ap₂ (λ n m. 2 * (n - m) + 1) top (same i here resource))
  renumbered t u i s M r top here (acquiring j user l e) =
      let own = same j l.within (acquired_resource uses M j l.acquired) in
      acquiring j user
      (record {
        within = l.within;
        acquired = l.acquired;
        least = λ m below a. let le : f j ≤ f m = l.least m below a in let other = same m below (acquired_resource uses M m a) in omega (arith, own, other);
      })
      (e ∙ ap₂ (λ n m. 2 * (n - m) + 2) top own)
  renumbered t u i s M r top here (idle user nothing e) = idle user nothing e

by_number : (shape : Shape) (uses : List UseSets) (number : ℕ → ℕ) (top : ℕ) (ranking : Ranking) → AreResourceRanks shape uses number top ranking → (i : ℕ) (s : List ℕ) (k r : ℕ) → AcceptsSome shape i s k
    → RanksByNumber shape uses number top i s (accepted shape i s k) r → rank_there shape ranking i s k ≡ pos r
by_number shape uses number top ranking ranks i s k r a (free resource free' e) = ranks.free i s k resource a free' ∙ ap pos (sym e)
by_number shape uses number top ranking ranks i s k r a (held resource held' e) = ranks.held i s k resource a held' ∙ ap pos (sym e)
by_number shape uses number top ranking ranks i s k r a (acquiring j user l e) = ranks.acquiring i s k j user a l.within l.acquired l.least ∙ ap pos (sym e)
by_number shape uses number top ranking ranks i s k r a (idle user nothing e) = ranks.not_acquiring i s k user a nothing ∙ ap pos (sym e)

number_there : (shape : Shape) (uses : List UseSets) (number : ℕ → ℕ) (top i : ℕ) (s M : List ℕ) → (r : ℕ) × RanksByNumber shape uses number top i s M r
number_there shape uses number top i s M =
    elim (cases_Bool (use_at uses i).resource) [
      | inl resource ↦ elim (cases_Bool (is_held shape s)) [
        | inl held' ↦ (2 * (top - number i) + 1, held resource held' refl)
        | inr free' ↦ (2 * top + 2, free resource free' refl)
      ]
      | inr user ↦ elim (least_of (acquires uses M) number (length shape.parts)) [
        | inl x ↦ (2 * (top - number x.place) + 2, acquiring x.place user (record { within = x.within; acquired = x.passes; least = x.least }) refl)
        | inr nothing ↦ (0, idle user nothing refl)
      ]
    ]

ranked : (rule : NotedRule) (shape : Shape) (ranking : Ranking) → IsWellFormed shape → Ranks rule shape ranking → Ranked rule shape ranking
ranked Cyclic shape ranking w r = record {
  form = w;
  fits = r.ranks.fits;
  others = r.ranks.others;
  is = λ i s k q a x.
      r.ranks.ranks i (end_of (part_at shape.parts i).table 0 s) k x.link (vertex_of shape w i s k a) x.within x.end x.lies
      ∙ ap pos (one_longest (ComesAfter shape (by_tables shape)) x.link (r.number x.link) q (r.numbers x.link x.within) x.number);
  some = λ i s k a.
      let part = a.accepts.runs.part in
      let n = end_of (part_at shape.parts i).table 0 s in
      let e = a.some.0 in
      let owned = possible_within (part_at shape.parts i) n e (part_form shape.parts i part w.form) (w.possible i n k e part a.some.1) in
      let l = some_link shape i e w part owned (a.accepts.shared e a.some.1) in (
        r.number l.0,
        record { link = l.0; within = l.1.within; end = l.1.end; lies = record { event = e; first = a.some.1; second = l.1.event }; number = r.numbers l.0 l.1.within },
      );
}
ranked (ClientServer roles) shape ranking w r = record {
  form = w;
  fits = r.fits;
  others = r.others;
  is = λ i s k q a x.
      let n = end_of (part_at shape.parts i).table 0 s in
      let v = vertex_of shape w i s k a in
      let same = one_longest (Serves shape roles) i (r.height i) x.height (r.heights i v.part) x.longest in
      elim x.rank [
        | inl m ↦ r.serving i n k v m.0 ∙ difference (2 * length shape.parts) (r.height i) q (ap (λ h. q + h) same ∙ m.1)
        | inr m ↦ r.asking i n k v m.0 ∙ ap pos (same ∙ sym m.1)
      ];
  some = λ i s k a.
      let part = a.accepts.runs.part in
      let low : r.height i < length shape.parts = height_below (Serves shape roles) r.height (length shape.parts) (graph shape roles ranking w r) i part in
      elim (meet_or_apart (accepted shape i s k) (role_at roles i).sreq) [
        | inl meets ↦ (2 * length shape.parts - r.height i, record { height = r.height i; longest = r.heights i part; rank = inl (meets, omega arith) })
        | inr apart ↦ (r.height i, record { height = r.height i; longest = r.heights i part; rank = inr (apart, refl) })
      ];
}
ranked (Resource uses) shape ranking w r = record {
  form = w;
  fits = r.ranks.fits;
  others = r.ranks.others;
  is = λ i s k q a x.
      let same = λ (j : ℕ) (below : j < length shape.parts) (resource : (use_at uses j).resource ≡ true).
      let m = x.numbers j below resource in
      let n = r.numbers j below resource in
      m.number ∙ ap (λ c. c + 1) (one_longest (StandsAbove shape (by_tables shape) uses) j m.below n.below m.longest n.longest) ∙ sym n.number in
      let top = same_top shape uses x.number r.number same (length shape.parts) (omega arith) ∙ sym r.ranks.greatest in
      by_number shape uses r.number r.top ranking r.ranks i s k q a
      (renumbered shape uses x.number r.number same (top_number uses x.number (length shape.parts)) r.top i s (accepted shape i s k) q top a.accepts.runs.part x.rank);
  some = λ i s k a.
      let x = number_there shape uses r.number (top_number uses r.number (length shape.parts)) i s (accepted shape i s k) in
      (x.0, record { number = r.number; numbers = r.numbers; rank = x.1 });
}

-- ---- networks that are alike have the same ranks

-- of a set the members count
same_by_number : (x y : Seen) → Alike x y → (uses : List UseSets) (number : ℕ → ℕ) (t u i : ℕ) (s M N : List ℕ) (r : ℕ) → t ≡ u → ((e : ℕ) → has N e ≡ has M e)
    → RanksByNumber x.shape uses number t i s M r → RanksByNumber y.shape uses number u i s N r
same_by_number x y a uses number t u i s M N r top members (free resource free' e) = free resource (sym (same_held x.shape y.shape a.outline s) ∙ free') (e ∙ ap (λ n. 2 * n + 2) top)
same_by_number x y a uses number t u i s M N r top members (held resource held' e) = held resource (sym (same_held x.shape y.shape a.outline s) ∙ held') (e ∙ ap (λ n. 2 * (n - number i) + 1) top)
same_by_number x y a uses number t u i s M N r top members (acquiring j user l e) =
    acquiring j user
    (record {
      within = on_parts x.shape y.shape a.outline j l.within;
      acquired = acquires_same uses M N j members l.acquired;
      least = λ m below acquired. l.least m (on_parts y.shape x.shape (turned x y a).outline m below) (acquires_same uses N M m (λ f. sym (members f)) acquired);
    })
    (e ∙ ap (λ n. 2 * (n - number j) + 2) top)
same_by_number x y a uses number t u i s M N r top members (idle user nothing e) =
    idle user
    (λ j below. elim (cases_Bool (acquires uses N j)) [
      | inl takes ↦ absurd (both_ways (acquires uses M j) (nothing j (on_parts y.shape x.shape (turned x y a).outline j below)) (acquires_same uses N M j (λ f. sym (members f)) takes))
      | inr not' ↦ not'
    ])
    e

same_rank : (rule : NotedRule) (x y : Seen) → Alike x y → (i : ℕ) (s M N : List ℕ) (r : ℕ) → ((e : ℕ) → has N e ≡ has M e) → RanksAs rule x.shape x.does i s M r → RanksAs rule y.shape y.does i s N r
same_rank Cyclic x y a i s M N r members h =
    let back = turned x y a in
    record {
      link = h.link;
      within = on_links x.shape y.shape a.outline h.link h.within;
      end = sym (same_end x.shape y.shape a.outline i h.link) ∙ h.end;
      lies = record { event = h.lies.event; first = members h.lies.event ∙ h.lies.first; second = sym (a.outline.shared h.link h.lies.event) ∙ h.lies.second };
      number = same_longest (ComesAfter x.shape x.does) (ComesAfter y.shape y.does) (λ m l before. must_precede x y a l m before) (λ m l before. must_precede y x back l m before) h.link r h.number;
    }
same_rank (ClientServer roles) x y a i s M N r members h = record {
  height = h.height;
  longest = same_longest (Serves x.shape roles) (Serves y.shape roles) (serves x.shape y.shape a.outline roles) (serves y.shape x.shape (turned x y a).outline roles) i h.height h.longest;
  rank = elim h.rank [
    | inl m ↦ inl (record { event = m.0.event; first = members m.0.event ∙ m.0.first; second = m.0.second }, m.1 ∙ ap (λ n. 2 * n) a.outline.parts)
    | inr m ↦ inr ((λ e there. m.0 e (sym (members e) ∙ there)), m.1)
  ];
}
same_rank (Resource uses) x y a i s M N r members h =
    let back = turned x y a in
    record {
      number = h.number;
      numbers = λ j below resource.
          let n = h.numbers j (on_parts y.shape x.shape back.outline j below) resource in
          record {
            below = n.below;
            longest = same_longest (StandsAbove x.shape x.does uses) (StandsAbove y.shape y.does uses) (λ k m while. held_while uses x y a m k while) (λ k m while. held_while uses y x back m k while) j n.below n.longest;
            number = n.number;
          };
      rank = same_by_number x y a uses h.number (top_number uses h.number (length x.shape.parts)) (top_number uses h.number (length y.shape.parts)) i s M N r (ap (top_number uses h.number) a.outline.parts) members h.rank;
    }

has_rank : (rule : NotedRule) (x y : Seen) → Alike x y → (r : ℕ) → HasRank rule x.shape x.does r → HasRank rule y.shape y.does r
has_rank rule x y a r h =
    let z = a.agree.accepted h.component h.trace h.acceptance h.accepts in
    record {
      component = h.component;
      trace = h.trace;
      acceptance = z.set;
      accepts = z.accepts;
      some = (h.some.0, z.members h.some.0 ∙ h.some.1);
      ranks = same_rank rule x y a h.component h.trace h.acceptance z.set r z.members h.ranks;
    }

same_greatest : (rule : NotedRule) (x y : Seen) → Alike x y → (r : ℕ) → IsGreatestRank rule x.shape x.does r → IsGreatestRank rule y.shape y.does r
same_greatest rule x y a r g = record {
  most = λ q h. g.most q (has_rank rule y x (turned x y a) q h);
  attained = elim g.attained [ inl nothing ↦ inl nothing | inr h ↦ inr (has_rank rule x y a r h) ];
}

pub rankings_have_greatest_rank : {T : Type 0} (Step : T → Label → T → Type 0) → RankingsHaveGreatestRank Step
rankings_have_greatest_rank Step tree shape is rule ranking ranks =
    same_greatest rule (by_shape shape) (by_itself Step tree) (alike Step tree shape is) (greatest_rank ranking)
    (greatest rule shape ranking (ranked rule shape ranking (shapes_are_well_formed Step tree shape is) ranks))
