-- What a well-formed shape gives: the links of shared events, and what an ungranted request is in it.
use Rattle.design_rules.proofs.Prelude.{◌≡◌, ℕ, zero, suc, ◌<◌, ◌≤◌, inl, inr, List, [], ◌∷◌, length, IsTrue, nat_eq, sym, subst, arith, eq-eqb, cases_Bool, cases_order, or_cases, or_left, or_right, eqb-true, has, count_in, IsVertex, end_of, Part, part_at, alphabets_of, sharers, project, IsShared, AreApart, IsWithin, Stands, acceptance, IsUngranted, Shape, link_at, is_end, IsWellFormed, Joins, AreJoined, RunsTo, IsPossible, Accepts, accepted, IsOn, at_two, acceptance_within, part_form, sharers_own, sharers_other}
use Rattle.design_rules.proofs.Counts.{count_project}
use Rattle.design_rules.proofs.Runs.{end_within}

-- ---- who shares an event

pub record Sharer (ps : List Part) (e : ℕ) : Type 0 where
  pub place : ℕ
  pub within : place < length ps
  pub owned : IsTrue (has (part_at ps place).alphabet e)

pub sharer : (ps : List Part) (e : ℕ) → 1 ≤ sharers (alphabets_of ps) e → Sharer ps e
sharer [] e h = absurd (omega arith)
sharer (p ∷ ps) e h =
    elim (cases_Bool (has p.alphabet e)) [
      | inl k ↦ record { place = 0; within = omega arith; owned = k }
      | inr k ↦
          let r = sharer ps e (omega (arith, sharers_other p.alphabet (alphabets_of ps) e k)) in
          record { place = suc r.place; within = let l : r.place < length ps = r.within in omega arith; owned = r.owned }
    ]

record Another (ps : List Part) (i e : ℕ) : Type 0 where
  place : ℕ
  within : place < length ps
  distinct : i ≡ place → ⊥
  owned : IsTrue (has (part_at ps place).alphabet e)

another : (ps : List Part) (i e : ℕ) → i < length ps → IsTrue (has (part_at ps i).alphabet e) → 2 ≤ sharers (alphabets_of ps) e → Another ps i e
another [] i e h k m = absurd (omega arith)
another (p ∷ ps) zero e h k m =
    let r = sharer ps e (omega (arith, sharers_own p.alphabet (alphabets_of ps) e k)) in
    record { place = suc r.place; within = let l : r.place < length ps = r.within in omega arith; distinct = λ same. omega arith; owned = r.owned }
another (p ∷ ps) (suc i) e h k m =
    elim (cases_Bool (has p.alphabet e)) [
      | inl x ↦ record { place = 0; within = omega arith; distinct = λ same. omega arith; owned = x }
      | inr x ↦
          let r = another ps i e (omega arith) k (omega (arith, sharers_other p.alphabet (alphabets_of ps) e x)) in
          record { place = suc r.place; within = let l : r.place < length ps = r.within in omega arith; distinct = λ same. r.distinct (omega arith); owned = r.owned }
    ]

-- ---- links

pub turned : (shape : Shape) (i j l : ℕ) → Joins shape i j l → Joins shape j i l
turned shape i j l h = record { within = h.within; ends = elim h.ends [ inl k ↦ inr k | inr k ↦ inl k ] }

pub first_end : (shape : Shape) (i j l : ℕ) → Joins shape i j l → IsTrue (is_end shape i l)
first_end shape i j l h =
    elim h.ends [
      | inl k ↦ or_left (nat_eq (link_at shape l).left i) (nat_eq (link_at shape l).right i) (eq-eqb (link_at shape l).left i k.0)
      | inr k ↦ or_right (nat_eq (link_at shape l).left i) (nat_eq (link_at shape l).right i) (eq-eqb (link_at shape l).right i k.1)
    ]

-- what a link joins is within
pub joins_within : (shape : Shape) (i j l : ℕ) → IsWellFormed shape → Joins shape i j l → j < length shape.parts
joins_within shape i j l w h =
    let t = w.linked.links l h.within in
    let order : (link_at shape l).left < (link_at shape l).right = t.ordered in
    let inside : (link_at shape l).right < length shape.parts = t.within in
    elim h.ends [ inl e ↦ let is : (link_at shape l).right ≡ j = e.1 in omega arith | inr e ↦ let is : (link_at shape l).left ≡ j = e.0 in omega arith ]

joined : (shape : Shape) (i j : ℕ) → AreJoined shape i j → (l : ℕ) × Joins shape i j l
joined shape i j a = (a.link, record { within = a.within; ends = inl (a.left, a.right) })

-- two parts with an event in common have a link
pub link_between : (shape : Shape) (i j e : ℕ) → IsWellFormed shape → i < length shape.parts → j < length shape.parts → (i ≡ j → ⊥) → IsTrue (has (part_at shape.parts i).alphabet e) → IsTrue (has (part_at shape.parts j).alphabet e) → (l : ℕ) × Joins shape i j l
link_between shape i j e w h k ne x y =
    elim (cases_order i j) [
      | inl same ↦ absurd (ne same)
      | inr order ↦ elim order [
        | inl less ↦ joined shape i j (w.linked.all_links i j less k (record { event = e; first = x; second = y }))
        | inr more ↦ let r = joined shape j i (w.linked.all_links j i more h (record { event = e; first = y; second = x })) in (r.0, turned shape j i r.0 r.1)
      ]
    ]

-- a link's events are those that both ends have
pub on_link : (shape : Shape) (i j l e : ℕ) → IsWellFormed shape → Joins shape i j l → IsTrue (has (part_at shape.parts i).alphabet e) → IsTrue (has (part_at shape.parts j).alphabet e) → IsOn shape i l e
on_link shape i j l e w h x y = record {
  within = h.within;
  end = first_end shape i j l h;
  event =
      let t = w.linked.links l h.within in
      elim h.ends [
        | inl k ↦ (t.shared e).1 (subst (λ a. IsTrue (has (part_at shape.parts a).alphabet e)) (sym k.0) x, subst (λ a. IsTrue (has (part_at shape.parts a).alphabet e)) (sym k.1) y)
        | inr k ↦ (t.shared e).1 (subst (λ a. IsTrue (has (part_at shape.parts a).alphabet e)) (sym k.0) y, subst (λ a. IsTrue (has (part_at shape.parts a).alphabet e)) (sym k.1) x)
      ];
}

pub link_within : (shape : Shape) (i l : ℕ) → IsWellFormed shape → l < length shape.links → IsTrue (is_end shape i l) → IsWithin (link_at shape l).shared (part_at shape.parts i).alphabet
link_within shape i l w h end e x =
    let both = ((w.linked.links l h).shared e).0 x in
    elim (or_cases (nat_eq (link_at shape l).left i) (nat_eq (link_at shape l).right i) end) [
      | inl k ↦ subst (λ a. IsTrue (has (part_at shape.parts a).alphabet e)) (eqb-true (link_at shape l).left i k) both.0
      | inr k ↦ subst (λ a. IsTrue (has (part_at shape.parts a).alphabet e)) (eqb-true (link_at shape l).right i k) both.1
    ]

pub link_shared : (shape : Shape) (l : ℕ) → IsWellFormed shape → l < length shape.links → IsWithin (link_at shape l).shared shape.vocabulary
link_shared shape l w h e x =
    let t = w.linked.links l h in
    let both = (t.shared e).0 x in
    let order : (link_at shape l).left < (link_at shape l).right = t.ordered in
    let within : (link_at shape l).right < length shape.parts = t.within in
    (w.linked.vocabulary e).1 (at_two shape.parts e (link_at shape l).left (link_at shape l).right (omega arith) within (λ same. omega arith) both.0 both.1)

-- a shared event of a part is on a link of it
pub some_link : (shape : Shape) (i e : ℕ) → IsWellFormed shape → i < length shape.parts → IsTrue (has (part_at shape.parts i).alphabet e) → IsTrue (has shape.vocabulary e) → (l : ℕ) × IsOn shape i l e
some_link shape i e w h x v =
    let o = another shape.parts i e h x ((w.linked.vocabulary e).0 v) in
    let l = link_between shape i o.place e w h o.within o.distinct x o.owned in
    (l.0, on_link shape i o.place l.0 e w l.1 x o.owned)

-- ---- an ungranted request

abbrev pub own_run : Shape → List ℕ → ℕ → List ℕ
own_run shape s i = project (part_at shape.parts i).alphabet s

abbrev pub own_end : Shape → List ℕ → ℕ → ℕ
own_end shape s i = end_of (part_at shape.parts i).table 0 (own_run shape s i)

-- the events of a link in a part's own run are those in the whole list
pub link_events : (shape : Shape) (i l : ℕ) (s : List ℕ) → IsWellFormed shape → l < length shape.links → IsTrue (is_end shape i l) → count_in (link_at shape l).shared (own_run shape s i) ≡ count_in (link_at shape l).shared s
link_events shape i l s w h end = count_project (link_at shape l).shared (part_at shape.parts i).alphabet s (link_within shape i l w h end)

-- one side of it
pub record Side (shape : Shape) (s : List ℕ) (i k : ℕ) : Type 0 where
  pub part : i < length shape.parts
  pub runs : RunsTo shape i (own_run shape s i)
  pub accepts : Accepts shape i (own_run shape s i) k
  pub vertex : IsVertex shape i (own_end shape s i) k
  pub possible : (e : ℕ) → IsTrue (has (accepted shape i (own_run shape s i) k) e) → IsPossible shape i (own_run shape s i) e
  pub owned : IsWithin (accepted shape i (own_run shape s i) k) (part_at shape.parts i).alphabet

side : (shape : Shape) (s : List ℕ) (i k : ℕ) → IsWellFormed shape → i < length shape.parts → Stands (part_at shape.parts i) s k → IsShared (alphabets_of shape.parts) (acceptance (part_at shape.parts i) s k) → Side shape s i k
side shape s i k w h st sh =
    let runs : RunsTo shape i (own_run shape s i) = record { part = h; follows = st.follows } in
    let shared = λ (e : ℕ) (x : IsTrue (has (acceptance (part_at shape.parts i) s k) e)). (w.linked.vocabulary e).1 (sh e x) in
    record {
      part = h;
      runs = runs;
      accepts = record { runs = runs; listed = st.listed; shared = shared };
      vertex = record { part = h; node = end_within (part_at shape.parts i) (own_run shape s i) (part_form shape.parts i h w.form) st.follows; listed = st.listed; some = st.some; shared = shared };
      possible = λ e x. record { runs = runs; next = w.possible i (own_end shape s i) k e h x };
      owned = acceptance_within shape.parts s i k h w.form;
    }

pub record Request (shape : Shape) (s : List ℕ) (i j k l : ℕ) : Type 0 where
  pub here : Side shape s i k
  pub there : Side shape s j l
  pub distinct : i ≡ j → ⊥
  pub event : ℕ
  pub asked : IsTrue (has (accepted shape i (own_run shape s i) k) event)
  pub link : ℕ
  pub joins : Joins shape i j link
  pub on_here : IsOn shape i link event
  pub on_there : IsOn shape j link event
  pub apart : AreApart (accepted shape i (own_run shape s i) k) (accepted shape j (own_run shape s j) l)

pub request : (shape : Shape) (s : List ℕ) (i j k l : ℕ) → IsWellFormed shape → IsUngranted shape.parts s i j k l → Request shape s i j k l
request shape s i j k l w u =
    let here = side shape s i k w u.here u.stands u.shared in
    let there = side shape s j l w u.there u.other_stands u.other_shared in
    let x = here.owned u.asks.event u.asks.first in
    let link = link_between shape i j u.asks.event w u.here u.there u.distinct x u.asks.second in
    record {
      here = here;
      there = there;
      distinct = u.distinct;
      event = u.asks.event;
      asked = u.asks.first;
      link = link.0;
      joins = link.1;
      on_here = on_link shape i j link.0 u.asks.event w link.1 x u.asks.second;
      on_there = on_link shape j i link.0 u.asks.event w (turned shape i j link.0 link.1) u.asks.second x;
      apart = u.apart;
    }
