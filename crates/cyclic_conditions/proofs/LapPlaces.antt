-- The places of a component's lap, as its laps show them.
use Rattle.cyclic_conditions.proofs.Prelude.{Bool, ◌≡◌, ℕ, zero, suc, ◌+◌, ◌-◌, ◌%◌, ◌^◌, ◌<◌, ◌≤◌, inl, inr, List, [], ◌∷◌, ◌++◌, length, cond, Option, Some, None, IsTrue, nat_lt, refl, sym, ap, subst, ◌∙◌, arith, replicate, slice_get, cases_lt, length-append, get_or_append_left, get_or-append_seam, mod_below, mod-eq_of_lt, add-mod_left, none-some, same_Some, slice_get_within, get_or-replicate, get_or_past, length-replicate, Tells, has, node_at, is_possible, part_at, LinksAreOrdered, Shape, is_end, part_form, count_in, count_below, BreaksOrder, Clash, IsReachedAt, links_of, ReachesLink, place_after, KeepsPlaces, BreaksCyclic, possible_within, end_within, observed, pair_at, lap_step, IsOwner, ends_below, ends_of, owner_end, IsFact, IsPossibleAt, HasFirst, AreFirsts, AreMore, AreNoted, IsNotedAt, ClashesWith, Disagree, AreClashing, first_at, links_in_order, IsOrder, order_at, IsBrokenOrder, Fact, table_of, AreLaps, Leads, links_along, shape_of, Laps, Stop, RuleFault, NoOrder, count_at_most, earlier, some_links, first_lap}
use Rattle.csp_base.specs.declared.stop.Stop.TheVariants as stop
use Rattle.cyclic_conditions.proofs.Noting.{first_within, one_more, clashing}

-- ---- places

lap_one : (on : Bool) (c last m n : ℕ) → c ≤ last → n ≡ cond on (m + 1) m → (cond on (cond (nat_lt c last) (c + 1) 0) c + m) % (last + 1) ≡ (c + n) % (last + 1)
lap_one on c last m n h is = grind (arith, add-mod_left (last + 1) m)

lap_within : (on : Bool) (c last : ℕ) → c ≤ last → cond on (cond (nat_lt c last) (c + 1) 0) c ≤ last
lap_within on c last h = grind (arith)

pub lap_counts : (V : List ℕ) (last c : ℕ) (s : List ℕ) → c ≤ last → observed (lap_step V last) c s ≡ (c + count_in V s) % (last + 1)
lap_counts V last c [] h = sym (ap (λ n. n % (last + 1)) (let e : c + 0 ≡ c = omega arith in e) ∙ mod-eq_of_lt (omega arith))
lap_counts V last c (e ∷ s) h = lap_counts V last (lap_step V last c e) s (lap_within (has V e) c last h) ∙ lap_one (has V e) c last (count_in V s) (count_in V (e ∷ s)) h refl

-- the place of the lap to which a run leads
abbrev place_of : Laps → List ℕ → ℕ
place_of laps s = place_after (shape_of laps) s % links_along laps

-- the link of the fact is reached after the run, at this place
abbrev IsReached : Laps → ℕ → Fact → List ℕ → Type 0
IsReached laps q f s = ReachesLink (shape_of laps) laps.component.number f.link s f.event × (place_of laps s ≡ q)

module _ (laps : Laps) (x : AreLaps laps) where
  place_is : (s : List ℕ) (pair : ℕ × ℕ) → Leads laps s pair → place_of laps s ≡ pair.1
  place_is s pair l =
      let V = (shape_of laps).vocabulary in
      let n = links_along laps in
      let some : 0 < links_along laps = x.some in
      let k : n - 1 + 1 ≡ n = omega arith in
      sym (lap_counts V (n - 1) 0 s (omega arith) ∙ (ap (λ m. m % (n - 1 + 1)) (let e : 0 + count_in V s ≡ count_in V s = omega arith in e) ∙ ap (λ m. count_in V s % m) k)) ∙ l.state

  -- the pairs are within the table and the lap
  pair_within : (k : ℕ) → k < length laps.explored.pairs → ((pair_at laps.explored.pairs k).0 < length (table_of laps.component)) × ((pair_at laps.explored.pairs k).1 < links_along laps)
  pair_within k h =
      let r = x.explored.reached k h in (
        subst (λ n. n < length (table_of laps.component)) r.1.node (end_within (part_at (shape_of laps).parts laps.component.number) r.0 (part_form (shape_of laps).parts laps.component.number x.part x.form.form) r.1.follows),
        subst (λ n. n < links_along laps) (place_is r.0 (pair_at laps.explored.pairs k) r.1) (mod_below (place_after (shape_of laps) r.0) (links_along laps) x.some),
      )

  pub place_within : (pairs : List (ℕ × ℕ)) (p : ℕ) (firsts : List (Option Fact)) → pairs ≡ laps.explored.pairs → p < length laps.explored.pairs → AreFirsts laps firsts → (pair_at pairs p).1 < length firsts
  place_within pairs p firsts same within a = subst (λ (ps : List (ℕ × ℕ)). (pair_at ps p).1 < length firsts) (sym same) (subst (λ n. (pair_at laps.explored.pairs p).1 < n) (sym a.count) (pair_within p within).1)

  pub node_within : (pairs : List (ℕ × ℕ)) (p : ℕ) → pairs ≡ laps.explored.pairs → p < length laps.explored.pairs → (pair_at pairs p).0 < length (table_of laps.component)
  node_within pairs p same within = subst (λ (ps : List (ℕ × ℕ)). (pair_at ps p).0 < length (table_of laps.component)) (sym same) (pair_within p within).0

  -- a fact of the pair, and what is known when it was noted
  fact_is : (pairs : List (ℕ × ℕ)) (p e l : ℕ) → pairs ≡ laps.explored.pairs → p < length laps.explored.pairs → IsPossibleAt laps p e → IsOwner (shape_of laps) l e → IsFact laps (pair_at pairs p).1 (record { pair = p; event = e; link = l })
  fact_is pairs p e l same within possible owner = record { within = within; place = ap (λ (ps : List (ℕ × ℕ)). (pair_at ps p).1) (sym same); possible = possible; owner = owner }

  pub event_noted : (pairs : List (ℕ × ℕ)) (p e l : ℕ) (old new : List (Option Fact)) → pairs ≡ laps.explored.pairs → p < length laps.explored.pairs → IsPossibleAt laps p e → IsOwner (shape_of laps) l e → AreFirsts laps old → IsNotedAt (pair_at pairs p).1 (record { pair = p; event = e; link = l }) old new → AreMore laps old new × HasFirst new (pair_at laps.explored.pairs p).1 l
  event_noted pairs p e l old new same within possible owner a noted =
      let fact : Fact = record { pair = p; event = e; link = l } in
      let below : (pair_at pairs p).1 < length old = place_within pairs p old same within a in
      let more = one_more laps (pair_at pairs p).1 fact old new below a (fact_is pairs p e l same within possible owner) noted in
      (more.0, subst (λ (ps : List (ℕ × ℕ)). HasFirst new (pair_at ps p).1 l) same more.1)

  pub event_clashes : (pairs : List (ℕ × ℕ)) (p e l : ℕ) (f g : Fact) (old : List (Option Fact)) → pairs ≡ laps.explored.pairs → p < length laps.explored.pairs → IsPossibleAt laps p e → IsOwner (shape_of laps) l e → AreFirsts laps old → (f ≡ record { pair = p; event = e; link = l }) × ClashesWith (pair_at pairs p).1 (record { pair = p; event = e; link = l }) old g → AreClashing laps f g
  event_clashes pairs p e l f g old same within possible owner a k = clashing laps (pair_at pairs p).1 (record { pair = p; event = e; link = l }) f g old a (fact_is pairs p e l same within possible owner) k.0 k.1

  -- ---- facts that clash

  fact_reach : (q : ℕ) (f : Fact) (s : List ℕ) → IsFact laps q f → Leads laps s (pair_at laps.explored.pairs f.pair) → IsReached laps q f s
  fact_reach q f s is leads =
      let at = subst (λ n. IsTrue (is_possible (node_at (table_of laps.component) n).next f.event)) (sym leads.node) is.possible in
      let owned = possible_within (part_at (shape_of laps).parts laps.component.number) (pair_at laps.explored.pairs f.pair).0 f.event (part_form (shape_of laps).parts laps.component.number x.part x.form.form) is.possible in (
        record { possible = record { runs = record { part = x.part; follows = leads.follows }; next = at }; on = owner_end (shape_of laps) laps.component.number f.link f.event x.form x.apart x.part owned is.owner },
        place_is s (pair_at laps.explored.pairs f.pair) leads ∙ is.place,
      )

  -- the one whose run is not the shorter one is told
  pub breaks_first : (f g : Fact) (s t : List ℕ) → AreClashing laps f g → Leads laps s (pair_at laps.explored.pairs f.pair) → Leads laps t (pair_at laps.explored.pairs g.pair) → length t ≤ length s → BreaksOrder (shape_of laps) laps.component.number s f.event
  breaks_first f g s t k a b short =
      let here = fact_reach k.first_place f s k.first a in
      let there = fact_reach k.second_place g t k.second b in
      record {
        link = f.link;
        reaches = here.0;
        other_run = t;
        other_event = g.event;
        other_link = g.link;
        other_reaches = there.0;
        not_longer = short;
        clash = clash_of k.apart here.1 there.1;
      }
    where
      clash_of : Disagree k.first_place f k.second_place g → place_of laps s ≡ k.first_place → place_of laps t ≡ k.second_place → Clash (shape_of laps) laps.component.number f.link s g.link t
      clash_of (inl d) p q = inl (d.1, p ∙ d.0 ∙ sym q)
      clash_of (inr d) p q = inr (d.0, (λ same. d.1 (sym p ∙ same ∙ q)))

  pub breaks_second : (f g : Fact) (s t : List ℕ) → AreClashing laps f g → Leads laps s (pair_at laps.explored.pairs f.pair) → Leads laps t (pair_at laps.explored.pairs g.pair) → length s ≤ length t → BreaksOrder (shape_of laps) laps.component.number t g.event
  breaks_second f g s t k a b short = breaks_first g f t s (record { first_place = k.second_place; second_place = k.first_place; first = k.second; second = k.first; apart = flipped k.apart }) b a short
    where
      flipped : Disagree k.first_place f k.second_place g → Disagree k.second_place g k.first_place f
      flipped (inl d) = inl (sym d.0, (λ same. d.1 (sym same)))
      flipped (inr d) = inr (sym d.0, (λ same. d.1 (sym same)))

-- ---- where the facts do not clash

module _ (laps : Laps) (x : AreLaps laps) (firsts : List (Option Fact)) (a : AreFirsts laps firsts) (noted : AreNoted laps firsts) where
  kept : (l : ℕ) (s : List ℕ) (e : ℕ) → ReachesLink (shape_of laps) laps.component.number l s e → HasFirst firsts (place_of laps s) l
  kept l s e r =
      let p = x.explored.listed s r.possible.runs.follows in
      let possible = subst (λ n. IsTrue (is_possible (node_at (table_of laps.component) n).next e)) p.2.node r.possible.next in
      subst (λ q. HasFirst firsts q l) (sym (place_is laps x s (pair_at laps.explored.pairs p.0) p.2)) (noted p.0 p.1 e l possible (record { within = r.on.within; event = r.on.event }))

  same_kept : (q l m : ℕ) → HasFirst firsts q l → HasFirst firsts q m → l ≡ m
  same_kept q l m y z =
      let same : y.fact ≡ z.fact = same_Some y.fact z.fact (sym y.kept ∙ z.kept) in
      sym y.link ∙ (ap (λ (f : Fact). f.link) same ∙ z.link)

  pub keeps : KeepsPlaces (shape_of laps) laps.component.number
  keeps l m s t e f p r =
      let here = kept l s e p in
      let there = kept m t f r in (
        λ same. a.apart (place_of laps s) (place_of laps t) m (subst (HasFirst firsts (place_of laps s)) same here) there,
        λ place. same_kept (place_of laps s) l m here (subst (λ q. HasFirst firsts q m) (sym place) there),
      )

  at_place : (q l : ℕ) → HasFirst firsts q l → IsReachedAt (shape_of laps) laps.component.number q l
  at_place q l y =
      let shape = (shape_of laps) in
      let i = laps.component.number in
      let f = a.sound q y.fact y.kept in
      let run = x.explored.reached y.fact.pair f.within in
      let r = fact_reach laps x q y.fact run.0 f run.1 in
      subst (λ n. IsReachedAt shape i q n) y.link (subst (λ n. IsReachedAt shape i n y.fact.link) r.1 (first_lap shape i y.fact.link run.0 y.fact.event (record { form = x.form; keeps = keeps }) r.0))

  kept_at : (q l : ℕ) → q < links_along laps → IsReachedAt (shape_of laps) laps.component.number q l → HasFirst firsts q l
  kept_at q l h y = subst (λ n. HasFirst firsts n l) (ap (λ n. n % links_along laps) y.place ∙ mod-eq_of_lt h) (kept l y.run y.event y.reaches)

  pub is_order : IsOrder (shape_of laps) laps.component.number (links_in_order firsts)
  is_order = record {
    listed = λ q l h.
        let y = in_order_first firsts q l h in
        let below : q < length firsts = first_within firsts q l y in
        (omega (arith, a.count), at_place q l y);
    all = λ q l h y. in_order_all firsts q l (λ r k.
        let e = earlier (shape_of laps) laps.component.number x.form y.run y.reaches.possible.runs r (let p : place_after (shape_of laps) y.run ≡ q = y.place in omega arith) in
        (e.0, kept_at r e.0 (omega arith) e.1))
        (kept_at q l h y);
  }
    where
      in_order_first : (fs : List (Option Fact)) (q l : ℕ) → slice_get (links_in_order fs) q ≡ Some l → HasFirst fs q l
      in_order_first [] q l h = absurd (let w : q < length {A = ℕ} [] = slice_get_within [] q l h in omega arith)
      in_order_first (None ∷ fs) zero l h = absurd (cc)
      in_order_first (None ∷ fs) (suc q) l h = absurd (cc)
      in_order_first (Some f ∷ fs) zero l h = record { fact = f; kept = refl; link = cc }
      in_order_first (Some f ∷ fs) (suc q) l h = let y = in_order_first fs q l h in record { fact = y.fact; kept = y.kept; link = y.link }

      in_order_all : (fs : List (Option Fact)) (q l : ℕ) → ((r : ℕ) → r < q → (m : ℕ) × HasFirst fs r m) → HasFirst fs q l → slice_get (links_in_order fs) q ≡ Some l
      in_order_all [] q l before y = absurd (let w : q < length {A = Option Fact} [] = first_within [] q l y in omega arith)
      in_order_all (None ∷ fs) zero l before y = absurd (none-some y.fact y.kept)
      in_order_all (None ∷ fs) (suc q) l before y = absurd (none-some (before 0 (omega arith)).1.fact (before 0 (omega arith)).1.kept)
      in_order_all (Some f ∷ fs) zero l before y = ap Some (let same : f ≡ y.fact = same_Some f y.fact y.kept in ap (λ (g : Fact). g.link) same ∙ y.link)
      in_order_all (Some f ∷ fs) (suc q) l before y = in_order_all fs q l (λ r h. let z = before (suc r) (omega arith) in (z.0, record { fact = z.1.fact; kept = z.1.kept; link = z.1.link })) (record { fact = y.fact; kept = y.kept; link = y.link })

-- ---- the links of a part

pub length-ends : (shape : Shape) (i n : ℕ) → length (ends_below shape i n) ≡ count_below (λ l. is_end shape i l) n
length-ends shape i zero = refl
length-ends shape i (suc n) = let rest : length (ends_below shape i n) ≡ count_below (λ l. is_end shape i l) n = length-ends shape i n in grind (arith, length-append)

-- a part without links
pub keeps_none : (shape : Shape) (i : ℕ) → links_of shape i ≡ 0 → KeepsPlaces shape i
keeps_none shape i none l m s t e f a b = let some : 0 < links_of shape i = some_links shape i l a.on.within a.on.end in absurd (omega arith)

pub order_none : (shape : Shape) (i : ℕ) → links_of shape i ≡ 0 → IsOrder shape i []
order_none shape i none = record {
  listed = λ q l h. absurd (let w : q < length {A = ℕ} [] = slice_get_within [] q l h in omega arith);
  all = λ q l h y. absurd (omega arith);
}

-- the first part that has no order
pub breaks_there : (shape : Shape) (i : ℕ) (fault : Stop RuleFault) → ((j : ℕ) → j < i → KeepsPlaces shape j) → Tells (IsBrokenOrder shape i) fault → Tells (BreaksCyclic shape) fault
breaks_there shape i stop.NoMemory keep b = tt
breaks_there shape i (stop.Told (NoOrder part trace event)) keep b = record { breaks = subst (λ j. BreaksOrder shape j trace event) (sym b.0) b.1; first = λ j h. keep j (let is : part ≡ i = b.0 in omega arith) }
breaks_there shape i (stop.Told _) keep b = absurd b

-- one more order
pub orders_more : (shape : Shape) (n : ℕ) (orders : List (List ℕ)) (order : List ℕ) (more : List (List ℕ)) → length orders ≡ n → ((i : ℕ) → i < n → IsOrder shape i (order_at orders i)) → IsOrder shape n order → more ≡ orders ++ order ∷ [] → (length more ≡ n + 1) × ((i : ℕ) → i < n + 1 → IsOrder shape i (order_at more i))
orders_more shape n orders order more count each new is = (
  ap length is ∙ length-append orders (order ∷ []) ∙ ap (λ k. k + 1) count,
  λ i h. elim (cases_lt i n) [
    | inl old ↦ subst (IsOrder shape i) (sym (ap (λ (os : List (List ℕ)). order_at os i) is ∙ get_or_append_left orders (order ∷ []) [] i (omega (arith, count)))) (each i old)
    | inr now ↦
        let same : n ≡ i = omega arith in
        subst (λ j. IsOrder shape j (order_at more j)) same (subst (IsOrder shape n) (sym (ap (λ (os : List (List ℕ)). order_at os n) is ∙ (ap (order_at (orders ++ order ∷ [])) (sym count) ∙ get_or-append_seam orders order [] []))) new)
  ],
)

-- how many links a component has
pub links_count : (shape : Shape) (i : ℕ) (links : List ℕ) → links ≡ ends_of shape i → length links ≡ links_of shape i
links_count shape i links is = ap length is ∙ length-ends shape i (length shape.links)

pub few_links : (shape other : Shape) (i : ℕ) (links : List ℕ) → links ≡ ends_of shape i → other ≡ shape → LinksAreOrdered other → length links < 2 ^ 32
few_links shape other i links is same o =
    let count : length links ≡ links_of shape i = links_count shape i links is in
    let most : links_of shape i ≤ length shape.links = count_at_most (λ l. is_end shape i l) (length shape.links) in
    let few : length shape.links < 2 ^ 32 = subst (λ (s : Shape). length s.links < 2 ^ 32) same o.links_numbered in
    omega arith

-- at first nothing is kept
pub none_kept : (laps : Laps) (n : ℕ) (links : List ℕ) (firsts : List (Option Fact)) → links ≡ ends_of (shape_of laps) laps.component.number → n ≡ length links → firsts ≡ replicate n None → AreFirsts laps firsts
none_kept laps n links firsts ends count is = record {
  count = ap length is ∙ length-replicate n None ∙ count ∙ links_count (shape_of laps) laps.component.number links ends;
  sound = λ q f h. absurd (nothing q f h);
  apart = λ q r l x y. absurd (nothing q x.fact x.kept);
}
  where
    nothing : (q : ℕ) (f : Fact) → first_at firsts q ≡ Some f → ⊥
    nothing q f h = elim (cases_lt q n) [
      | inl less ↦ none-some f (sym (ap (λ (fs : List (Option Fact)). first_at fs q) is ∙ get_or-replicate n q None None less) ∙ h)
      | inr past ↦ none-some f (sym (ap (λ (fs : List (Option Fact)). first_at fs q) is ∙ get_or_past (replicate n None) q None (let count_is : length {A = Option Fact} (replicate n None) ≡ n = length-replicate n None in omega arith)) ∙ h)
    ]
