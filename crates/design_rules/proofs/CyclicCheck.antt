-- Tests that show a written-out shape cyclic, with its ranking. For examples.
use Rattle.design_rules.proofs.Prelude.{arith, ◌≡◌, ℕ, ◌+◌, ◌%◌, ◌<◌, inl, inr, pos, List, [], ◌∷◌, ◌++◌, length, Bool, true, ◌&&◌, cond, nat_eq, sym, ap, ◌∙◌, eq-eqb, cases_Bool, and_from, cond-true, cond-false, mod-add-mod, has, node_at, node_after, is_possible, end_of, part_at, IsWithin, Shape, link_at, is_end, acceptance_at, RunsTo, Ranking, part_ranks, rank_at, above_all, lap_at, links_of, place_after, by_tables, place_of, KeepsOrder, IsFullEnd, HasFullEnds, ends_lap, AreCyclicRanks}
use Rattle.design_rules.proofs.Counts.{count_push_more, count_push_same}
use Rattle.design_rules.proofs.Accepting.{each_set}
use Rattle.design_rules.proofs.Checks.{Test, shown, same, same_rank, both, three, either, when, below, members, within, steps, accepted, observed}
use Rattle.design_rules.proofs.RankCheck.{parts_fit, vertices, others_zero, no_laps}

abbrev next_place : Shape → ℕ → ℕ → ℕ → ℕ
next_place shape i c e = cond (has shape.vocabulary e) ((c + 1) % links_of shape i) c

-- the places within a lap are told node by node
pub record PlacesTold (shape : Shape) (told : ℕ → ℕ → ℕ) : Type 0 where
  pub start : (i : ℕ) → i < length shape.parts → 0 % links_of shape i ≡ told i 0
  pub steps : (i : ℕ) → i < length shape.parts → (n e : ℕ) → is_possible (node_at (part_at shape.parts i).table n).next e ≡ true → next_place shape i (told i n) e ≡ told i (node_after (part_at shape.parts i).table n e)

abbrev places_told : (shape : Shape) (told : ℕ → ℕ → ℕ) → Test (PlacesTold shape told)
places_told shape told =
    shown
    (both
    (below (length shape.parts) (λ i. same (0 % links_of shape i) (told i 0)))
    (below (length shape.parts) (λ i. steps (part_at shape.parts i).table (λ n e t. same (next_place shape i (told i n) e) (told i t)))))
    (λ h. record { start = h.0; steps = h.1 })

pub place_told : (shape : Shape) (told : ℕ → ℕ → ℕ) → PlacesTold shape told → (i : ℕ) (s : List ℕ) → RunsTo shape i s → place_after shape s % links_of shape i ≡ told i (end_of (part_at shape.parts i).table 0 s)
place_told shape told c i s runs =
    observed (part_at shape.parts i).table (λ u. place_after shape u % links_of shape i) (next_place shape i) (told i) (record { start = c.start i runs.part; goes_on = goes_on; steps = c.steps i runs.part }) s runs.follows
  where
    goes_on : (u : List ℕ) (e : ℕ) → place_after shape (u ++ e ∷ []) % links_of shape i ≡ next_place shape i (place_after shape u % links_of shape i) e
    goes_on u e = grind (arith, count_push_more shape.vocabulary u e, count_push_same shape.vocabulary u e, mod-add-mod (place_after shape u) (links_of shape i) 1)

abbrev on_own : Shape → ℕ → ℕ → ℕ → Bool
on_own shape i l e = is_end shape i l && has (link_at shape l).shared e

abbrev pub keeps_order : (shape : Shape) (number : ℕ → ℕ) (told : ℕ → ℕ → ℕ) → Test (KeepsOrder shape (by_tables shape) number)
keeps_order shape number told =
    shown
    (both
    (places_told shape told)
    (below (length shape.parts) (λ i. below (length shape.links) (λ l. steps (part_at shape.parts i).table (λ n e t. when (on_own shape i l e) (same (place_of shape number i l) (told i n)))))))
    (λ h i l s e possible on.
    h.1 i possible.runs.part l on.within (end_of (part_at shape.parts i).table 0 s) e possible.next (and_from _ _ on.end on.event)
    ∙ sym (place_told shape told h.0 i s possible.runs))

abbrev full_end : (shape : Shape) (number : ℕ → ℕ) (told : ℕ → ℕ → ℕ) (l i : ℕ) → Test (PlacesTold shape told → IsFullEnd shape (by_tables shape) number l i)
full_end shape number told l i =
    shown
    (accepted (part_at shape.parts i).table (λ n M. when (nat_eq (place_of shape number i l) (told i n)) (within (link_at shape l).shared M)))
    (λ h c s M a next.
    each_set shape i s (IsWithin (link_at shape l).shared)
    (λ k at. h (end_of (part_at shape.parts i).table 0 s) k at.listed (eq-eqb _ _ (next ∙ place_told shape told c i s at.runs)))
    M a)

abbrev pub full_ends : (shape : Shape) (number : ℕ → ℕ) (told : ℕ → ℕ → ℕ) → Test (HasFullEnds shape (by_tables shape) number)
full_ends shape number told =
    shown
    (both (places_told shape told) (below (length shape.links) (λ l. either (full_end shape number told l (link_at shape l).left) (full_end shape number told l (link_at shape l).right))))
    (λ h l here. elim (h.1 l here) [ inl left ↦ inl (left h.0) | inr right ↦ inr (right h.0) ])

-- ---- the ranking

abbrev pub cyclic_ranks : (shape : Shape) (number : ℕ → ℕ) (ranking : Ranking) → Test (AreCyclicRanks shape number ranking)
cyclic_ranks shape number ranking =
    shown
    (both
    (three (parts_fit shape.parts ranking.parts) (others_zero shape ranking) (same_rank ranking.scale (pos (above_all number (length shape.links)))))
    (three
    (vertices shape (λ i n k. below (length shape.links) (λ l. when (is_end shape i l) (members (acceptance_at (part_at shape.parts i) n k) (λ e. when (has (link_at shape l).shared e) (same_rank (rank_at (part_ranks ranking i).ranks n k) (pos (number l))))))))
    (below (length shape.parts) (λ i. below (length shape.links) (λ l. steps (part_at shape.parts i).table (λ n e t. when (on_own shape i l e) (same (lap_at shape ranking i n e) (ends_lap (place_of shape number i l) (links_of shape i)))))))
    (no_laps shape ranking (has shape.vocabulary))))
    (λ h. record {
      fits = h.0.0;
      scale = h.0.2;
      ranks = λ i n k l v here end meet. h.1.0 i n k v.part v.listed l here end meet.event meet.first meet.second;
      others = h.0.1 h.0.0;
      laps = λ i n e l here possible on. h.1.1 i here l on.within n e possible (and_from _ _ on.end on.event);
      no_laps = h.1.2;
    })
