-- The trail, when the mark of one vertex changes.
use Rattle.digraph.proofs.Prelude.{◌≡◌, ◌≢◌, ℕ, ◌+◌, ◌-◌, ◌<◌, List, [], ◌∷◌, ◌++◌, length, set, take, get_or, refl, sym, ap, ◌∙◌, false, true, inl, inr, ◌⊎◌, arith, length_push, length-take-le, get_or-take, get_or_append_left, get_or_push, get_or_past, cases_lt, false≢true, Mark, New, Digraph, HasArc, IsTrail, mark_at, is_open}
use Rattle.digraph.proofs.Marks.{mark_then}

-- an open vertex has a mark
pub open_within : (marks : List Mark) (v : ℕ) → is_open (mark_at marks v) ≡ true → v < length marks
open_within marks v h =
    elim (cases_lt v (length marks)) as (λ _. v < length marks) [
      | inl below ↦ below
      | inr past ↦ let e : is_open (mark_at marks v) ≡ false = ap is_open (get_or_past marks v New past) in absurd (false≢true (sym e ∙ h))
    ]

after_push : (xs : List ℕ) (y k : ℕ) → k < length (xs ++ y ∷ []) → ((k < length xs) × (get_or (xs ++ y ∷ []) k 0 ≡ get_or xs k 0)) ⊎ ((k ≡ length xs) × (get_or (xs ++ y ∷ []) k 0 ≡ y))
after_push xs y k h =
    elim (cases_lt k (length xs)) as (λ _. ((k < length xs) × (get_or (xs ++ y ∷ []) k 0 ≡ get_or xs k 0)) ⊎ ((k ≡ length xs) × (get_or (xs ++ y ∷ []) k 0 ≡ y))) [
      | inl below ↦ inl (below, get_or_append_left xs (y ∷ []) 0 k below)
      | inr past ↦ let last : k ≡ length xs = omega (arith, length_push xs y) in inr (last, get_or_push xs y 0 k (sym last))
    ]

module _ (g : Digraph) (marks : List Mark) (trail : List ℕ) (t : IsTrail g marks trail) (w : ℕ) (m : Mark) (within : w < length marks) where
  open_then : (u : ℕ) → ((u ≡ w) × (is_open (mark_at (set marks w m) u) ≡ is_open m)) ⊎ ((u ≢ w) × (is_open (mark_at (set marks w m) u) ≡ is_open (mark_at marks u)))
  open_then u = elim (mark_then g marks w m within u) as (λ _. ((u ≡ w) × (is_open (mark_at (set marks w m) u) ≡ is_open m)) ⊎ ((u ≢ w) × (is_open (mark_at (set marks w m) u) ≡ is_open (mark_at marks u)))) [
    | inl p ↦ inl (p.0, ap is_open p.1)
    | inr p ↦ inr (p.0, ap is_open p.1)
  ]

  -- it stays where an open vertex stays open
  pub trail_same : is_open (mark_at marks w) ≡ true → is_open m ≡ true → IsTrail g (set marks w m) trail
  trail_same was is =
      let same : (u : ℕ) → is_open (mark_at (set marks w m) u) ≡ is_open (mark_at marks u) = λ u. elim (open_then u) as (λ _. is_open (mark_at (set marks w m) u) ≡ is_open (mark_at marks u)) [
        | inl p ↦ p.1 ∙ is ∙ sym (rw p.0 was)
        | inr p ↦ p.1
      ] in
      record { arcs = t.arcs; distinct = t.distinct; opened = λ k h. same _ ∙ t.opened k h; listed = λ u h. t.listed u (sym (same u) ∙ h) }

  -- a vertex is opened, and put at its end
  module _ (was : is_open (mark_at marks w) ≡ false) (is : is_open m ≡ true) (follows : (k : ℕ) → k + 1 ≡ length trail → HasArc g (get_or trail k 0) w) where
    not_on_trail : (k : ℕ) → k < length trail → get_or trail k 0 ≢ w
    not_on_trail k h e = let o : is_open (mark_at marks w) ≡ true = rw (← e) (t.opened k h) in false≢true (sym was ∙ o)

    place : (k : ℕ) → k < length (trail ++ w ∷ []) → ((k < length trail) × (get_or (trail ++ w ∷ []) k 0 ≡ get_or trail k 0)) ⊎ ((k ≡ length trail) × (get_or (trail ++ w ∷ []) k 0 ≡ w))
    place k h = after_push trail w k h

    old_place : (k : ℕ) → k < length trail → get_or (trail ++ w ∷ []) k 0 ≡ get_or trail k 0
    old_place k h = get_or_append_left trail (w ∷ []) 0 k h

    pub trail_longer : IsTrail g (set marks w m) (trail ++ w ∷ [])
    trail_longer = record {
      arcs = λ k h.
          let below : k < length trail = omega (arith, length_push trail w) in
          elim (place (k + 1) h) as (λ _. HasArc g (get_or (trail ++ w ∷ []) k 0) (get_or (trail ++ w ∷ []) (k + 1) 0)) [
            | inl p ↦ rw (old_place k below, p.1) (t.arcs k p.0)
            | inr p ↦ rw (old_place k below, p.1) (follows k p.0)
          ];
      distinct = λ j k h l.
          let below : j < length trail = omega (arith, length_push trail w) in
          elim (place k l) as (λ _. get_or (trail ++ w ∷ []) j 0 ≢ get_or (trail ++ w ∷ []) k 0) [
            | inl p ↦ rw (old_place j below, p.1) (t.distinct j k h p.0)
            | inr p ↦ rw (old_place j below, p.1) (not_on_trail j below)
          ];
      opened = λ k h. elim (place k h) as (λ _. is_open (mark_at (set marks w m) (get_or (trail ++ w ∷ []) k 0)) ≡ true) [
        | inl p ↦ rw p.1 (elim (open_then (get_or trail k 0)) as (λ _. is_open (mark_at (set marks w m) (get_or trail k 0)) ≡ true) [ inl q ↦ q.1 ∙ is | inr q ↦ q.1 ∙ t.opened k p.0 ])
        | inr p ↦ rw p.1 (elim (open_then w) as (λ _. is_open (mark_at (set marks w m) w) ≡ true) [ inl q ↦ q.1 ∙ is | inr q ↦ absurd (q.0 refl) ])
      ];
      listed = λ u h. elim (open_then u) as (λ _. (k : ℕ) × (k < length (trail ++ w ∷ [])) × (get_or (trail ++ w ∷ []) k 0 ≡ u)) [
        | inl p ↦ (length trail, omega (arith, length_push trail w), get_or_push trail w 0 (length trail) refl ∙ sym p.0)
        | inr p ↦ let o = t.listed u (sym p.1 ∙ h) in (o.0, omega (arith, length_push trail w, o.1), old_place o.0 o.1 ∙ o.2)
      ];
    }

  -- its last vertex is taken off
  module _ (is : is_open m ≡ false) (not_empty : 0 < length trail) (last : get_or trail (length trail - 1) 0 ≡ w) where
    shorter : length (take (length trail - 1) trail) ≡ length trail - 1
    shorter = length-take-le (length trail - 1) trail (omega arith)

    front : (k : ℕ) → k < length (take (length trail - 1) trail) → (k < length trail - 1) × (get_or (take (length trail - 1) trail) k 0 ≡ get_or trail k 0)
    front k h = let l : k < length trail - 1 = rw shorter at h in (l, get_or-take (length trail - 1) trail k 0 l)

    pub trail_shorter : IsTrail g (set marks w m) (take (length trail - 1) trail)
    trail_shorter = record {
      arcs = λ k h.
          let n = front (k + 1) h in
          let p = front k (omega (arith, shorter)) in
          rw (p.1, n.1) (t.arcs k (omega arith));
      distinct = λ j k h l.
          let n = front k l in
          let p = front j (omega (arith, shorter)) in
          rw (p.1, n.1) (t.distinct j k h (omega arith));
      opened = λ k h.
          let p = front k h in
          rw p.1 (elim (open_then (get_or trail k 0)) as (λ _. is_open (mark_at (set marks w m) (get_or trail k 0)) ≡ true) [
            | inl q ↦ absurd (t.distinct k (length trail - 1) p.0 (omega arith) (q.0 ∙ sym last))
            | inr q ↦ q.1 ∙ t.opened k (omega arith)
          ]);
      listed = λ u h. elim (open_then u) as (λ _. (k : ℕ) × (k < length (take (length trail - 1) trail)) × (get_or (take (length trail - 1) trail) k 0 ≡ u)) [
        | inl p ↦ absurd (false≢true (sym is ∙ sym p.1 ∙ h))
        | inr p ↦
            let o = t.listed u (sym p.1 ∙ h) in
            elim (cases_lt o.0 (length trail - 1)) as (λ _. (k : ℕ) × (k < length (take (length trail - 1) trail)) × (get_or (take (length trail - 1) trail) k 0 ≡ u)) [
              | inl below ↦ (o.0, rw shorter below, get_or-take (length trail - 1) trail o.0 0 below ∙ o.2)
              | inr past ↦
                  let at_last : o.0 ≡ length trail - 1 = omega (arith, o.1) in
                  absurd (p.0 (sym o.2 ∙ (ap (λ k. get_or trail k 0) at_last ∙ last)))
            ]
      ];
    }
