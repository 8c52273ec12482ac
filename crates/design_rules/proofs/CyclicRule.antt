-- The laws of the cyclic rule: its ranking falls, each fault breaks it, and it is the rule by numbers.
use Rattle.design_rules.proofs.Prelude.{◌≡◌, ℕ, suc, ◌+◌, ◌-◌, ◌*◌, ◌%◌, ◌<◌, ◌≤◌, inl, inr, List, length, IsTrue, refl, sym, ap, subst, ◌∙◌, arith, eq-eqb, nat_eq, cases_eq, cases_order, both_ways, or_left, or_right, mod-mul-add, mod-eq_of_lt, mod-le, has, Walk, end_of, part_at, Meet, Shape, is_end, link_at, IsWellFormed, IsPossible, Accepts, accepted, IsBusyShape, IsWithin, KeepsPlaces, links_of, ReachesLink, place_after, AllKeepPlaces, NumbersRise, IsWholeEnd, HasWholeEnd, IsCyclic, by_tables, place_of, IsNext, LinksDiffer, KeepsOrder, IsFullEnd, HasFullEnds, HasOrder, IsNumberedCyclic, AreChainNumbers, ComesAfter, CyclicRanksFall, NumberedRanksFall, ReachedRanksFall, IsRuleByNumbers}
use Rattle.design_rules.proofs.Accepting.{each_set}
use Rattle.design_rules.proofs.Cyclic.{place_below, places_differ, earlier_place, Ordered, next_link, whole_has, ordered_ranks_fall}
use Rattle.design_rules.proofs.Places.{Keeping, earlier, place_is, reached_differ}

-- ---- the ranking falls

keeping : (shape : Shape) (i l : ℕ) (s : List ℕ) (e : ℕ) → IsWellFormed shape → AllKeepPlaces shape → IsPossible shape i s e → Keeping shape i
keeping shape i l s e w order possible = record { form = w; keeps = order i possible.runs.part }

-- what numbers that rise give
ordered : (shape : Shape) (number : ℕ → ℕ) → IsWellFormed shape → AllKeepPlaces shape → NumbersRise shape number → ((l : ℕ) → l < length shape.links → HasWholeEnd shape l) → Ordered shape number
ordered shape number w order rise whole = record {
  form = w;
  differ = λ i l m s e possible on. reached_differ shape number i l m s e (keeping shape i l s e w order possible) (λ x y before _. rise x y before) (record { possible = possible; on = on });
  order = λ i l s e possible on. place_is shape number i l s e (keeping shape i l s e w order possible) (λ x y before _. rise x y before) (record { possible = possible; on = on });
  whole = whole;
}

-- longest chains rise
pub chains_rise : (shape : Shape) (number : ℕ → ℕ) → AreChainNumbers shape number → NumbersRise shape number
chains_rise shape number chains l m before =
    let w = chains l before.reaches.on.within in
    let less : number l + 1 ≤ number m = (chains m before.within).most (number l + 1) w.end (walk_on w.attained) in
    omega arith
  where
    walk_on : Walk (ComesAfter shape) (number l) l (chains l before.reaches.on.within).end → Walk (ComesAfter shape) (number l + 1) m (chains l before.reaches.on.within).end
    walk_on walk = subst (λ n. Walk (ComesAfter shape) n m (chains l before.reaches.on.within).end) (let e : suc (number l) ≡ number l + 1 = omega arith in e) (l, before, walk)

pub cyclic_ranks_fall : CyclicRanksFall
cyclic_ranks_fall shape ranking w rule r = ordered_ranks_fall shape r.number ranking (ordered shape r.number w rule.order (chains_rise shape r.number r.numbers) rule.whole) r.ranks

-- ---- from the rule to numbers

-- numbers that rise, made apart by the places of the links
abbrev apart_number : Shape → (ℕ → ℕ) → ℕ → ℕ
apart_number shape number l = number l * length shape.links + l

apart_differ : (shape : Shape) (number : ℕ → ℕ) → LinksDiffer shape (apart_number shape number)
apart_differ shape number i l m h k x y ne same =
    ne (sym (mod-mul-add (number l) (length shape.links) l h) ∙ ap (λ n. n % length shape.links) same ∙ mod-mul-add (number m) (length shape.links) m k)

pub less_by : (a b n l m : ℕ) → a < b → l < n → a * n + l < b * n + m
less_by a b n l m less below = grind (arith)

apart_rise : (shape : Shape) (number : ℕ → ℕ) → NumbersRise shape number → NumbersRise shape (apart_number shape number)
apart_rise shape number rise l m before = less_by (number l) (number m) (length shape.links) l m (rise l m before) before.reaches.on.within

left_end : (shape : Shape) (l : ℕ) → IsTrue (is_end shape (link_at shape l).left l)
left_end shape l = or_left (nat_eq (link_at shape l).left (link_at shape l).left) (nat_eq (link_at shape l).right (link_at shape l).left) (eq-eqb (link_at shape l).left (link_at shape l).left refl)

right_end : (shape : Shape) (l : ℕ) → IsTrue (is_end shape (link_at shape l).right l)
right_end shape l = or_right (nat_eq (link_at shape l).left (link_at shape l).right) (nat_eq (link_at shape l).right (link_at shape l).right) (eq-eqb (link_at shape l).right (link_at shape l).right refl)

-- where the link is next, an acceptance in the vocabulary meets it, so a whole end accepts all of it
full_at : (shape : Shape) (number : ℕ → ℕ) (l i : ℕ) → IsBusyShape shape → Ordered shape number → LinksDiffer shape number → l < length shape.links → IsTrue (is_end shape i l) → IsWholeEnd shape l i → (s : List ℕ) (k : ℕ) → Accepts shape i s k → IsNext shape number i s l → IsWithin (link_at shape l).shared (accepted shape i s k)
full_at shape number l i busy o differ h end whole s k a next =
    let f = busy i s k a.runs a.listed in
    let possible : IsPossible shape i s f.0 = record { runs = a.runs; next = o.form.possible i (end_of (part_at shape.parts i).table 0 s) k f.0 a.runs.part f.1 } in
    let x = next_link shape number i s f.0 o possible (a.shared f.0 f.1) in
    let same : x.0 ≡ l =
    elim (cases_eq x.0 l) [
      | inl e ↦ e
      | inr ne ↦ absurd (places_differ shape number i x.0 l x.1.within h x.1.end end (differ i x.0 l x.1.within h x.1.end end ne) (x.2 ∙ sym next))
    ] in
    whole_has shape l i s k whole a (record { event = f.0; first = f.1; second = subst (λ m. IsTrue (has (link_at shape m).shared f.0)) same x.1.event })

full : (shape : Shape) (number : ℕ → ℕ) (l i : ℕ) → IsBusyShape shape → Ordered shape number → LinksDiffer shape number → l < length shape.links → IsTrue (is_end shape i l) → IsWholeEnd shape l i → IsFullEnd shape (by_tables shape) number l i
full shape number l i busy o differ h end whole s M accepts next = each_set shape i s (IsWithin (link_at shape l).shared) (λ k a. full_at shape number l i busy o differ h end whole s k a next) M accepts

sound : (shape : Shape) → IsWellFormed shape → IsBusyShape shape → IsCyclic shape → IsNumberedCyclic shape (by_tables shape)
sound shape w busy rule =
    let number = apart_number shape rule.numbered.number in
    let differ = apart_differ shape rule.numbered.number in
    let o = ordered shape number w rule.order (apart_rise shape rule.numbered.number rule.numbered.rise) rule.whole in
    record {
      number = number;
      differ = differ;
      order = o.order;
      full = λ l h. elim (rule.whole l h) [
        | inl left ↦ inl (full shape number l (link_at shape l).left busy o differ h (left_end shape l) left)
        | inr right ↦ inr (full shape number l (link_at shape l).right busy o differ h (right_end shape l) right)
      ];
    }

-- ---- from numbers to the rule

-- a part that keeps an order keeps places
pub order_keeps : (shape : Shape) (i : ℕ) → HasOrder shape (by_tables shape) i → KeepsPlaces shape i
order_keeps shape i rule l m s t e f a b =
    let here = rule.order l s e a.possible a.on in
    let there = rule.order m t f b.possible b.on in (
      λ same. sym here ∙ ap (place_of shape rule.number i) same ∙ there,
      λ place. elim (cases_eq l m) [
        | inl same ↦ same
        | inr other ↦ absurd (places_differ shape rule.number i l m a.on.within b.on.within a.on.end b.on.end (rule.differ l m a.on.within b.on.within a.on.end b.on.end other) (here ∙ place ∙ sym there))
      ],
    )

numbered_keep : (shape : Shape) (rule : IsNumberedCyclic shape (by_tables shape)) → AllKeepPlaces shape
numbered_keep shape rule i h = order_keeps shape i (record { number = rule.number; differ = rule.differ i; order = rule.order i })

-- a link of the part that would stand before one that is reached was reached
pub numbered_rise : (shape : Shape) → IsWellFormed shape → (rule : IsNumberedCyclic shape (by_tables shape)) → NumbersRise shape rule.number
numbered_rise shape w rule l m before =
    elim (cases_order (rule.number l) (rule.number m)) [
      | inl same ↦ absurd (rule.differ before.part l m before.reaches.on.within before.within before.reaches.on.end before.end distinct same)
      | inr order ↦ elim order [ inl less ↦ less | inr more ↦ absurd (too_low more) ]
    ]
  where
    distinct : l ≡ m → ⊥
    distinct same = let later : place_after shape before.run < place_after shape before.run = before.later before.run before.event (subst (λ x. ReachesLink shape before.part x before.run before.event) same before.reaches) in omega arith

    too_low : rule.number m < rule.number l → ⊥
    too_low less =
        let p : place_of shape rule.number before.part m < place_of shape rule.number before.part l = earlier_place shape rule.number before.part m l before.within before.end less in
        let next : place_of shape rule.number before.part l ≡ place_after shape before.run % links_of shape before.part = rule.order before.part l before.run before.event before.reaches.possible before.reaches.on in
        let most : place_after shape before.run % links_of shape before.part ≤ place_after shape before.run = mod-le (place_after shape before.run) (links_of shape before.part) in
        let below : place_of shape rule.number before.part m < links_of shape before.part = place_below shape rule.number before.part m before.within before.end in
        let x = earlier shape before.part w before.run before.reaches.possible.runs (place_of shape rule.number before.part m) (omega arith) in
        let is : place_of shape rule.number before.part x.0 ≡ place_of shape rule.number before.part m = rule.order before.part x.0 x.1.run x.1.event x.1.reaches.possible x.1.reaches.on ∙ ap (λ c. c % links_of shape before.part) x.1.place ∙ mod-eq_of_lt below in
        elim (cases_eq x.0 m) [
          | inl same ↦
              let later : place_after shape before.run < place_after shape x.1.run = before.later x.1.run x.1.event (subst (λ y. ReachesLink shape before.part y x.1.run x.1.event) same x.1.reaches) in
              let place : place_after shape x.1.run ≡ place_of shape rule.number before.part m = x.1.place in
              omega arith
          | inr other ↦ places_differ shape rule.number before.part x.0 m x.1.reaches.on.within before.within x.1.reaches.on.end before.end (rule.differ before.part x.0 m x.1.reaches.on.within before.within x.1.reaches.on.end before.end other) is
        ]

-- a full end is whole: an acceptance that meets the link has an event of it that is possible, so the link is next
numbered_whole : (shape : Shape) (number : ℕ → ℕ) (l i : ℕ) → IsWellFormed shape → KeepsOrder shape (by_tables shape) number → l < length shape.links → IsTrue (is_end shape i l) → IsFullEnd shape (by_tables shape) number l i → IsWholeEnd shape l i
numbered_whole shape number l i w order h end full s short =
    let a = short.accepts.at in
    let meets : Meet (accepted shape i s short.accepts.place) (link_at shape l).shared = subst (λ (M : List ℕ). Meet M (link_at shape l).shared) (sym short.accepts.is) short.meets in
    let possible : IsPossible shape i s short.meets.event = record { runs = a.runs; next = w.possible i (end_of (part_at shape.parts i).table 0 s) short.accepts.place meets.event a.runs.part meets.first } in
    let next = order i l s short.meets.event possible (record { within = h; end = end; event = short.meets.second }) in
    both_ways (has short.acceptance short.missing) short.lacks (full s short.acceptance short.accepts next short.missing short.on)

numbered_wholes : (shape : Shape) (number : ℕ → ℕ) → IsWellFormed shape → KeepsOrder shape (by_tables shape) number → HasFullEnds shape (by_tables shape) number → (l : ℕ) → l < length shape.links → HasWholeEnd shape l
numbered_wholes shape number w order full l h =
    elim (full l h) [
      | inl left ↦ inl (numbered_whole shape number l (link_at shape l).left w order h (left_end shape l) left)
      | inr right ↦ inr (numbered_whole shape number l (link_at shape l).right w order h (right_end shape l) right)
    ]

pub complete : (shape : Shape) → IsWellFormed shape → IsNumberedCyclic shape (by_tables shape) → IsCyclic shape
complete shape w rule = record { order = numbered_keep shape rule; numbered = record { number = rule.number; rise = numbered_rise shape w rule }; whole = numbered_wholes shape rule.number w rule.order rule.full }

pub is_rule_by_numbers : IsRuleByNumbers
is_rule_by_numbers = record { sound = sound; complete = complete }

pub reached_ranks_fall : ReachedRanksFall
reached_ranks_fall shape number ranking w differ order full ranks = ordered_ranks_fall shape number ranking (record { form = w; differ = differ; order = order; whole = numbered_wholes shape number w order full }) ranks

pub numbered_ranks_fall : NumberedRanksFall
numbered_ranks_fall shape rule ranking w ranks = reached_ranks_fall shape rule.number ranking w (λ i l m s e possible on h end ne. rule.differ i l m on.within h on.end end ne) rule.order rule.full ranks
