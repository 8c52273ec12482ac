-- Numbers that rise from each link to the next one of a part rise along all orders.
use Rattle.cyclic_rule.proofs.Prelude.{◌≡◌, ℕ, zero, suc, ◌+◌, ◌-◌, ◌%◌, ◌<◌, ◌≤◌, inl, inr, List, [], length, get_or, true, false, Some, sym, ap, subst, ◌∙◌, arith, slice_get, cases_Bool, cases_eq, both_ways, get_or_read, slice_get_within, get_or_from_slice_get, same_Some, mod_below, mod-le, has, Shape, IsWellFormed, links_of, place_after, AllKeepPlaces, MustPrecede, NumbersRise, ComesAfter, AreChainNumbers, ends_of, Adds, IsNextIn, IsRestAfter, ComesNext, IsNextAt, ends_sound, ends_complete, place_in, has_place, some_at, IsLongestWalk, same_walk, Keeping, some_links, first_lap, precedes, precedes_rest, walk_bound, IsOrder, order_at, AreOrders, has_at}

-- ---- orders and numbers

module _ (shape : Shape) (orders : List (List ℕ)) (w : IsWellFormed shape) (keep : AllKeepPlaces shape) (a : AreOrders shape orders) where
  keeping : (i : ℕ) → i < length shape.parts → Keeping shape i
  keeping i h = record { form = w; keeps = keep i h }

  -- a link must come before the one that comes next after it
  pub next_precedes : (l m : ℕ) → IsNextAt shape orders (length shape.parts) l m → MustPrecede shape l m
  next_precedes l m x = go x.next
    where
      go : ComesNext (order_at orders x.part) (ends_of shape x.part) l m → MustPrecede shape l m
      go (inl n) =
          let first = (a.each x.part x.within).listed n.place l n.first in
          let second = (a.each x.part x.within).listed (n.place + 1) m n.second in
          precedes shape x.part n.place (n.place + 1) l m (keeping x.part x.within) (omega arith) second.0 first.1 second.1
      go (inr n) =
          let last = (a.each x.part x.within).listed n.place l n.last in
          let end = ends_sound shape x.part (length shape.links) m n.link in
          precedes_rest shape x.part n.place l m (keeping x.part x.within) last.0 last.1 end.0 end.1
          (λ same. both_ways (has (order_at orders x.part) m) n.absent (subst (λ k. has (order_at orders x.part) k ≡ true) same (has_place (order_at orders x.part) n.place l n.last)))
          (λ q less at. both_ways (has (order_at orders x.part) m) n.absent (has_place (order_at orders x.part) q m ((a.each x.part x.within).all q m (let below : n.place < links_of shape x.part = last.0 in omega arith) at)))

  -- numbers that rise from each link to the next one
  module _ (number : ℕ → ℕ) (next : (l m : ℕ) → IsNextAt shape orders (length shape.parts) l m → number l < number m) where
    up : (i : ℕ) → i < length shape.parts → (q d l m : ℕ) → slice_get (order_at orders i) q ≡ Some l → slice_get (order_at orders i) (q + d + 1) ≡ Some m → number l < number m
    up i h q zero l m first second = next l m (record { part = i; within = h; next = inl (record { place = q; first = first; second = subst (λ k. slice_get (order_at orders i) k ≡ Some m) (let e : q + 0 + 1 ≡ q + 1 = omega arith in e) second }) })
    up i h q (suc d) l m first second =
        let within = slice_get_within (order_at orders i) (q + suc d + 1) m second in
        let mid = some_at (order_at orders i) (q + d + 1) (omega arith) in
        let low : number l < number mid.0 = up i h q d l mid.0 first mid.1 in
        let high : number mid.0 < number m = next mid.0 m (record { part = i; within = h; next = inl (record { place = q + d + 1; first = mid.1; second = subst (λ k. slice_get (order_at orders i) k ≡ Some m) (let e : q + suc d + 1 ≡ q + d + 1 + 1 = omega arith in e) second }) }) in
        omega arith

    rises : (i q r l m : ℕ) → i < length shape.parts → slice_get (order_at orders i) q ≡ Some l → slice_get (order_at orders i) r ≡ Some m → q < r → number l < number m
    rises i q r l m h first second less = up i h q (r - (q + 1)) l m first (subst (λ k. slice_get (order_at orders i) k ≡ Some m) (let e : r ≡ q + (r - (q + 1)) + 1 = omega arith in e) second)

    pub all_rise : NumbersRise shape number
    all_rise l m b =
        let i = b.part in
        let h : b.part < length shape.parts = b.reaches.possible.runs.part in
        let k : 0 < links_of shape b.part = some_links shape b.part l b.reaches.on.within b.reaches.on.end in
        let q = place_after shape b.run % links_of shape b.part in
        let below : place_after shape b.run % links_of shape b.part < links_of shape b.part = mod_below (place_after shape b.run) (links_of shape b.part) k in
        let small : place_after shape b.run % links_of shape b.part ≤ place_after shape b.run = mod-le (place_after shape b.run) (links_of shape b.part) in
        let at = (a.each b.part h).all (place_after shape b.run % links_of shape b.part) l below (first_lap shape b.part l b.run b.event (keeping b.part h) b.reaches) in
        elim (cases_Bool (has (order_at orders b.part) m)) [
          | inl there ↦
              let r = place_in (order_at orders b.part) m there in
              let x = (a.each b.part h).listed r.0 m r.1 in
              let later : place_after shape b.run < place_after shape x.1.run = b.later x.1.run x.1.event x.1.reaches in
              let place : place_after shape x.1.run ≡ r.0 = x.1.place in
              rises b.part (place_after shape b.run % links_of shape b.part) r.0 l m h at r.1 (omega arith)
          | inr absent ↦
              let within = slice_get_within (order_at orders b.part) (place_after shape b.run % links_of shape b.part) l at in
              let z = length (order_at orders b.part) - 1 in
              let last = some_at (order_at orders b.part) (length (order_at orders b.part) - 1) (omega arith) in
              let high : number last.0 < number m = next last.0 m (record { part = b.part; within = h; next = inr (record { place = length (order_at orders b.part) - 1; last = last.1; end = omega arith; link = ends_complete shape b.part (length shape.links) m b.within b.end; absent = absent }) }) in
              elim (cases_eq (place_after shape b.run % links_of shape b.part) (length (order_at orders b.part) - 1)) [
                | inl same ↦
                    let is : last.0 ≡ l = same_Some last.0 l (sym last.1 ∙ subst (λ j. slice_get (order_at orders b.part) j ≡ Some l) same at) in
                    subst (λ j. number j < number m) is high
                | inr other ↦
                    let low : number l < number last.0 = rises b.part (place_after shape b.run % links_of shape b.part) (length (order_at orders b.part) - 1) l last.0 h at last.1 (omega arith) in
                    omega arith
              ]
        ]

  -- longest walks over the arcs are longest chains
  pub chain_numbers : (Arc : ℕ → ℕ → Type 0) (number : ℕ → ℕ) → ((m l : ℕ) → Arc m l → IsNextAt shape orders (length shape.parts) l m) → ((l : ℕ) → l < length shape.links → IsLongestWalk Arc l (number l)) → NumbersRise shape number → AreChainNumbers shape number
  chain_numbers Arc number sound longest rise l h =
      let x = longest l h in
      record {
        end = x.end;
        attained = same_walk Arc (ComesAfter shape) (λ m k arc. next_precedes k m (sound m k arc)) (number l) l x.end x.attained;
        most = λ n y walk. walk_bound (ComesAfter shape) number (λ m k before. rise k m before) n l y walk;
      }

-- ---- what the rows are made of

pub order_within : (shape : Shape) (i : ℕ) (order : List ℕ) → IsOrder shape i order → (k d : ℕ) → k < length order → get_or order k d < length shape.links
order_within shape i order o k d h =
    let x = some_at order k h in
    subst (λ l. l < length shape.links) (sym (get_or_from_slice_get order k x.0 d x.1)) (o.listed k x.0 x.1).1.reaches.on.within

pub ends_within : (shape : Shape) (i : ℕ) (k d : ℕ) → k < length (ends_of shape i) → get_or (ends_of shape i) k d < length shape.links
ends_within shape i k d h =
    let x = some_at (ends_of shape i) k h in
    subst (λ l. l < length shape.links) (sym (get_or_from_slice_get (ends_of shape i) k x.0 d x.1)) (ends_sound shape i (length shape.links) x.0 (has_place (ends_of shape i) k x.0 x.1)).0

pub order_read : (shape : Shape) (orders : List (List ℕ)) (i : ℕ) (slice row : List ℕ) → AreOrders shape orders → i < length orders → slice ≡ row → row ≡ get_or orders i row → (slice ≡ order_at orders i) × (i < length shape.parts)
order_read shape orders i slice row a h same is = (same ∙ get_or_read orders i row h is [], omega (arith, a.count))

pub order_all : (shape : Shape) (orders : List (List ℕ)) (i n : ℕ) (slice row : List ℕ) → AreOrders shape orders → i < length orders → slice ≡ row → row ≡ get_or orders i row → n ≡ length shape.links → (k d : ℕ) → k < length slice → get_or slice k d < n
order_all shape orders i n slice row a h same is count k d below =
    let r = order_read shape orders i slice row a h same is in
    subst (λ m. get_or slice k d < m) (sym count) (subst (λ (xs : List ℕ). k < length xs → get_or xs k d < length shape.links) (sym r.0) (order_within shape i (order_at orders i) (a.each i r.1) k d) below)

pub ends_all : (shape : Shape) (i n : ℕ) (slice : List ℕ) → slice ≡ ends_of shape i → n ≡ length shape.links → (k d : ℕ) → k < length slice → get_or slice k d < n
ends_all shape i n slice is count k d below = subst (λ m. get_or slice k d < m) (sym count) (subst (λ (xs : List ℕ). k < length xs → get_or xs k d < length shape.links) (sym is) (ends_within shape i k d) below)

-- an arc from a link that is not in the order
pub rest_is : (order ends : List ℕ) (j last m k : ℕ) → Some last ≡ slice_get order (length order - 1) → j < length ends → (m ≡ get_or ends j 0) × (k ≡ last) × (has order (get_or ends j 0) ≡ false) → IsRestAfter order ends k m
rest_is order ends j last m k at below is =
    let within = slice_get_within order (length order - 1) last (sym at) in
    record {
      place = length order - 1;
      last = sym at ∙ ap Some (sym is.1);
      end = omega arith;
      link = subst (λ x. has ends x ≡ true) (sym is.0) (has_at ends j below);
      absent = subst (λ x. has order x ≡ false) (sym is.0) is.2;
    }

pub rest_last : (order ends : List ℕ) (last l m : ℕ) → Some last ≡ slice_get order (length order - 1) → IsRestAfter order ends l m → last ≡ l
rest_last order ends last l m at r =
    let end : length order ≡ r.place + 1 = r.end in
    let same : length order - 1 ≡ r.place = omega arith in
    same_Some last l (at ∙ ap (slice_get order) same ∙ r.last)

-- the arcs of one part more
pub chains_more : (shape : Shape) (orders : List (List ℕ)) (n : ℕ) (first second ends : List ℕ) (A B D : ℕ → ℕ → Type 0) → first ≡ order_at orders n → second ≡ order_at orders n → ends ≡ ends_of shape n
    → ((m k : ℕ) → A m k → IsNextAt shape orders n k m) → ((m k : ℕ) → IsNextAt shape orders n k m → A m k)
    → Adds A (IsNextIn first) B → Adds B (IsRestAfter second ends) D
    → ((m k : ℕ) → D m k → IsNextAt shape orders (n + 1) k m) × ((m k : ℕ) → IsNextAt shape orders (n + 1) k m → D m k)
chains_more shape orders n first second ends A B D f s e a_sound a_all b d = (sound, complete)
  where
    sound : (m k : ℕ) → D m k → IsNextAt shape orders (n + 1) k m
    sound m k arc = elim (d.sound m k arc) [
      | inl old ↦ elim (b.sound m k old) [
        | inl older ↦ let x = a_sound m k older in record { part = x.part; within = let h : x.part < n = x.within in omega arith; next = x.next }
        | inr next ↦ record { part = n; within = omega arith; next = inl (subst (λ o. IsNextIn o k m) f next) }
      ]
      | inr rest ↦ record { part = n; within = omega arith; next = inr (subst (λ o. IsRestAfter o (ends_of shape n) k m) s (subst (λ es. IsRestAfter second es k m) e rest)) }
    ]

    now : (m k : ℕ) → ComesNext (order_at orders n) (ends_of shape n) k m → D m k
    now m k (inl next) = d.kept m k (b.complete m k (subst (λ o. IsNextIn o k m) (sym f) next))
    now m k (inr rest) = d.complete m k (subst (λ es. IsRestAfter second es k m) (sym e) (subst (λ o. IsRestAfter o (ends_of shape n) k m) (sym s) rest))

    complete : (m k : ℕ) → IsNextAt shape orders (n + 1) k m → D m k
    complete m k x = elim (cases_eq x.part n) [
      | inl here ↦ now m k (subst (λ i. ComesNext (order_at orders i) (ends_of shape i) k m) here x.next)
      | inr before ↦ d.kept m k (b.kept m k (a_all m k (record { part = x.part; within = let h : x.part < n + 1 = x.within in omega arith; next = x.next })))
    ]
