-- A resource is held on exactly the link that has had an odd number of events.
use Rattle.design_rules.proofs.Prelude.{◌≡◌, ℕ, suc, ◌+◌, ◌<◌, ◌≤◌, ◌⊎◌, inl, inr, List, [], ◌∷◌, ◌++◌, length, Option, Some, None, true, false, not, cond, IsTrue, nat_eq, refl, sym, ap, subst, ◌∙◌, arith, cases_Bool, cases_eq, cases_order, both_ways, cond-true, cond-false, false≢true, or_cases, eqb-true, has, count_in, is_odd, last_from, IsHolder, is_held, holds, KeepUses, end_of, part_at, alphabets_of, sharers, TripleDisjoint, Shape, IsBelow, is_end, link_at, IsWellFormed, RunsTo, IsPossible, IsOn, UseSets, use_at, at_three, part_form}
use Rattle.design_rules.proofs.Counts.{count_push_more, count_push_same}
use Rattle.design_rules.proofs.Runs.{run_induction, possible_within}
use Rattle.design_rules.proofs.Shapes.{some_link, link_within, link_shared}

-- ---- the last event of a set

last_push : (before : Option ℕ) (S u : List ℕ) (e : ℕ) → last_from before S (u ++ e ∷ []) ≡ cond (has S e) (Some e) (last_from before S u)
last_push before S [] e = refl
last_push before S (x ∷ u) e = last_push (cond (has S x) (Some x) before) S u e

pub last_more : (S u : List ℕ) (e : ℕ) → has S e ≡ true → last_from None S (u ++ e ∷ []) ≡ Some e
last_more S u e h = last_push None S u e ∙ cond-true (has S e) (Some e) (last_from None S u) h

pub last_same : (S u : List ℕ) (e : ℕ) → has S e ≡ false → last_from None S (u ++ e ∷ []) ≡ last_from None S u
last_same S u e h = last_push None S u e ∙ cond-false (has S e) (Some e) (last_from None S u) h

pub odd_more : (S u : List ℕ) (e : ℕ) → has S e ≡ true → is_odd (count_in S (u ++ e ∷ [])) ≡ not (is_odd (count_in S u))
odd_more S u e h = ap is_odd (count_push_more S u e h ∙ plus_one (count_in S u))
  where
    plus_one : (n : ℕ) → n + 1 ≡ suc n
    plus_one n = omega arith

pub odd_same : (S u : List ℕ) (e : ℕ) → has S e ≡ false → is_odd (count_in S (u ++ e ∷ [])) ≡ is_odd (count_in S u)
odd_same S u e h = ap is_odd (count_push_same S u e h)

-- ---- an event is on one link of a part

-- the other end of a link
record OtherEnd (shape : Shape) (i l e : ℕ) : Type 0 where
  part : ℕ
  within : part < length shape.parts
  distinct : i ≡ part → ⊥
  owned : IsTrue (has (part_at shape.parts part).alphabet e)
  ends : ((link_at shape l).left ≡ i) × ((link_at shape l).right ≡ part) ⊎ ((link_at shape l).left ≡ part) × ((link_at shape l).right ≡ i)

other_end : (shape : Shape) (i l e : ℕ) → IsWellFormed shape → IsOn shape i l e → OtherEnd shape i l e
other_end shape i l e w on =
    let t = w.linked.links l on.within in
    let order : (link_at shape l).left < (link_at shape l).right = t.ordered in
    let inside : (link_at shape l).right < length shape.parts = t.within in
    let both = (t.shared e).0 on.event in
    elim (or_cases (nat_eq (link_at shape l).left i) (nat_eq (link_at shape l).right i) on.end) [
      | inl k ↦ let is : (link_at shape l).left ≡ i = eqb-true (link_at shape l).left i k in record { part = (link_at shape l).right; within = inside; distinct = λ same. omega arith; owned = both.1; ends = inl (is, refl) }
      | inr k ↦ let is : (link_at shape l).right ≡ i = eqb-true (link_at shape l).right i k in record { part = (link_at shape l).left; within = omega arith; distinct = λ same. omega arith; owned = both.0; ends = inr (refl, is) }
    ]

same_ends : (a b c d i p : ℕ) → a < b → c < d → (a ≡ i) × (b ≡ p) ⊎ (a ≡ p) × (b ≡ i) → (c ≡ i) × (d ≡ p) ⊎ (c ≡ p) × (d ≡ i) → (a ≡ c) × (b ≡ d)
same_ends a b c d i p h k x y = (omega (arith, x, y), omega (arith, x, y))

not_below : (shape : Shape) (l m : ℕ) → (link_at shape l).left ≡ (link_at shape m).left → (link_at shape l).right ≡ (link_at shape m).right → IsBelow (link_at shape l) (link_at shape m) → ⊥
not_below shape l m a b (inl h) = omega arith
not_below shape l m a b (inr h) = let k : (link_at shape l).right < (link_at shape m).right = h.1 in omega arith

pub one_link : (shape : Shape) (i l m e : ℕ) → IsWellFormed shape → TripleDisjoint (alphabets_of shape.parts) → i < length shape.parts → IsOn shape i l e → IsOn shape i m e → l ≡ m
one_link shape i l m e w triple h x y =
    let a = other_end shape i l e w x in
    let b = other_end shape i m e w y in
    let mine = link_within shape i l w x.within x.end e x.event in
    let two : sharers (alphabets_of shape.parts) e ≤ 2 = triple e in
    let p : a.part ≡ b.part = elim (cases_eq a.part b.part) [
      | inl same ↦ same
      | inr ne ↦ absurd (let three : 3 ≤ sharers (alphabets_of shape.parts) e = at_three shape.parts e i a.part b.part h a.within b.within a.distinct b.distinct ne mine a.owned b.owned in omega arith)
    ] in
    let s = same_ends (link_at shape l).left (link_at shape l).right (link_at shape m).left (link_at shape m).right i b.part (w.linked.links l x.within).ordered (w.linked.links m y.within).ordered (subst (λ q. ((link_at shape l).left ≡ i) × ((link_at shape l).right ≡ q) ⊎ ((link_at shape l).left ≡ q) × ((link_at shape l).right ≡ i)) p a.ends) b.ends in
    elim (cases_order l m) [
      | inl same ↦ same
      | inr order ↦ elim order [
        | inl less ↦ absurd (not_below shape l m s.0 s.1 (w.linked.links_rise l m less y.within))
        | inr more ↦ absurd (not_below shape m l (sym s.0) (sym s.1) (w.linked.links_rise m l more x.within))
      ]
    ]

-- ---- where a resource is held

-- the last shared event, and the link that it is on
pub record Last (shape : Shape) (i : ℕ) (u : List ℕ) : Type 0 where
  pub event : ℕ
  pub is : last_from None shape.vocabulary u ≡ Some event
  pub link : ℕ
  pub on : IsOn shape i link event

-- Where it is free, each link has had an even number of events. Where it is held, exactly the holder's has had an odd one.
pub record Turns (shape : Shape) (i : ℕ) (u : List ℕ) : Type 0 where
  pub free : is_held shape u ≡ false → (l : ℕ) → l < length shape.links → IsTrue (is_end shape i l) → holds shape l u ≡ false
  pub held : is_held shape u ≡ true → (x : Last shape i u) × ((l : ℕ) → l < length shape.links → IsTrue (is_end shape i l) → holds shape l u ≡ has (link_at shape l).shared x.event)

-- what is known of the resource i
pub record Resource (shape : Shape) (uses : List UseSets) (i : ℕ) : Type 0 where
  pub form : IsWellFormed shape
  pub triple : TripleDisjoint (alphabets_of shape.parts)
  pub uses_are : KeepUses shape uses
  pub part : i < length shape.parts
  pub resource : (use_at uses i).resource ≡ true

-- the link of the last shared event is the holder's
pub holder : (shape : Shape) (i : ℕ) (u : List ℕ) (x : Last shape i u) → IsHolder shape i u x.link
holder shape i u x = record { within = x.on.within; end = x.on.end; event = x.event; last = x.is; on = x.on.event }

no_events : (shape : Shape) (i : ℕ) → Turns shape i []
no_events shape i = record { free = λ h l a b. refl; held = λ h. absurd (false≢true h) }

-- an event that is not shared changes nothing
hidden_step : (shape : Shape) (i : ℕ) (u : List ℕ) (e : ℕ) → IsWellFormed shape → has shape.vocabulary e ≡ false → Turns shape i u → Turns shape i (u ++ e ∷ [])
hidden_step shape i u e w hidden t = record {
  free = λ h l a b. same l a ∙ t.free (sym (odd_same shape.vocabulary u e hidden) ∙ h) l a b;
  held = λ h.
      let r = t.held (sym (odd_same shape.vocabulary u e hidden) ∙ h) in
      let x = r.0 in
      (record { event = x.event; is = last_same shape.vocabulary u e hidden ∙ x.is; link = x.link; on = x.on }, λ l a b. same l a ∙ r.1 l a b);
}
  where
    same : (l : ℕ) → l < length shape.links → holds shape l (u ++ e ∷ []) ≡ holds shape l u
    same l a = odd_same (link_at shape l).shared u e (absent l a)
      where
        absent : (m : ℕ) → m < length shape.links → has (link_at shape m).shared e ≡ false
        absent m c = elim (cases_Bool (has (link_at shape m).shared e)) [ inl k ↦ absurd (both_ways (has shape.vocabulary e) hidden (link_shared shape m w c e k)) | inr k ↦ k ]

acquired : (shape : Shape) (i : ℕ) (u : List ℕ) (e l : ℕ) → has shape.vocabulary e ≡ true → IsOn shape i l e → is_held shape u ≡ false → Turns shape i u → Turns shape i (u ++ e ∷ [])
acquired shape i u e l v on free t = record {
  free = λ h. absurd (both_ways (is_held shape (u ++ e ∷ [])) h (odd_more shape.vocabulary u e v ∙ ap not free));
  held = λ h. (
    record { event = e; is = last_more shape.vocabulary u e v; link = l; on = on },
    λ m a b.
        elim (cases_Bool (has (link_at shape m).shared e)) [
          | inl there ↦ odd_more (link_at shape m).shared u e there ∙ ap not (t.free free m a b) ∙ sym there
          | inr strange ↦ odd_same (link_at shape m).shared u e strange ∙ t.free free m a b ∙ sym strange
        ],
  );
}

released : (shape : Shape) (uses : List UseSets) (i : ℕ) (u : List ℕ) (e : ℕ) → Resource shape uses i → IsPossible shape i u e → has shape.vocabulary e ≡ true → is_held shape u ≡ true → Turns shape i u → Turns shape i (u ++ e ∷ [])
released shape uses i u e r possible v held t =
    let last = t.held held in
    let x = last.0 in
    let there = (r.uses_are.used i u r.resource).by_holder x.link e possible v held (holder shape i u x) in
    record {
      free = λ h m a b. even x there last.1 m a b;
      held = λ h. absurd (both_ways (is_held shape (u ++ e ∷ [])) (odd_more shape.vocabulary u e v ∙ ap not held) h);
    }
  where
    even : (x : Last shape i u) → IsTrue (has (link_at shape x.link).shared e) → ((l : ℕ) → l < length shape.links → IsTrue (is_end shape i l) → holds shape l u ≡ has (link_at shape l).shared x.event) → (m : ℕ) → m < length shape.links → IsTrue (is_end shape i m) → holds shape m (u ++ e ∷ []) ≡ false
    even x there odd m a b =
        elim (cases_Bool (has (link_at shape m).shared e)) [
          | inl on ↦
              let same : x.link ≡ m = one_link shape i x.link m e r.form r.triple r.part (record { within = x.on.within; end = x.on.end; event = there }) (record { within = a; end = b; event = on }) in
              odd_more (link_at shape m).shared u e on ∙ ap not (odd m a b ∙ subst (λ l. IsTrue (has (link_at shape l).shared x.event)) same x.on.event)
          | inr off ↦ odd_same (link_at shape m).shared u e off ∙ odd m a b ∙
              elim (cases_Bool (has (link_at shape m).shared x.event)) [
                | inl held_on ↦
                    let same : x.link ≡ m = one_link shape i x.link m x.event r.form r.triple r.part x.on (record { within = a; end = b; event = held_on }) in
                    absurd (both_ways (has (link_at shape m).shared e) off (subst (λ l. IsTrue (has (link_at shape l).shared e)) same there))
                | inr elsewhere ↦ elsewhere
              ]
        ]

turns_step : (shape : Shape) (uses : List UseSets) (i : ℕ) (u : List ℕ) (e : ℕ) → Resource shape uses i → IsPossible shape i u e → Turns shape i u → Turns shape i (u ++ e ∷ [])
turns_step shape uses i u e r possible t =
    elim (cases_Bool (has shape.vocabulary e)) [
      | inl v ↦ elim (cases_Bool (is_held shape u)) [
        | inl held ↦ released shape uses i u e r possible v held t
        | inr free ↦
            let owned = possible_within (part_at shape.parts i) (end_of (part_at shape.parts i).table 0 u) e (part_form shape.parts i r.part r.form.form) possible.next in
            let l = some_link shape i e r.form r.part owned v in
            acquired shape i u e l.0 v l.1 free t
      ]
      | inr hidden ↦ hidden_step shape i u e r.form hidden t
    ]

pub turns : (shape : Shape) (uses : List UseSets) (i : ℕ) → Resource shape uses i → (s : List ℕ) → RunsTo shape i s → Turns shape i s
turns shape uses i r s run =
    run_induction (part_at shape.parts i).table (Turns shape i) (no_events shape i)
    (λ u e f possible t. turns_step shape uses i u e r (record { runs = record { part = r.part; follows = f }; next = possible }) t)
    s run.follows
