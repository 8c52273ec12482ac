-- Tests that show a written-out shape one of clients and servers, with its ranking. For examples.
use Rattle.design_rules.proofs.Prelude.{◌≡◌, ℕ, ◌*◌, ◌<◌, inl, inr, pos, ◌-ℤ◌, List, [], ◌∷◌, length, Bool, true, false, ◌&&◌, cond, sym, ap, ◌∙◌, IsTrue, ◌⊎◌, refl, and_from, has, node_at, node_after, is_possible, end_of, part_at, AreApart, IsWithin, Shape, link_at, is_end, acceptance_at, RunsTo, RoleSets, role_at, Ranking, part_ranks, rank_at, IsLongestWalk, IsClientOn, has_acknowledgements, is_open, is_request, is_acknowledgement, Serves, KeepRoles, IsClientServerRanking}
use Rattle.design_rules.proofs.Shapes.{turned, first_end}
use Rattle.design_rules.proofs.Checks.{Test, shown, is_true, is_false, same_truth, same_rank, both, three, four, either, when, below, members, within, apart, meets, ends, steps, accepted, next_parity, parity_told, parts_shared}
use Rattle.design_rules.proofs.RankCheck.{parts_fit, vertices, others_zero, no_laps}
use Rattle.design_rules.proofs.Accepting.{each_set}

abbrev is_client : (shape : Shape) (roles : List RoleSets) (l i j : ℕ) → Test (IsClientOn shape roles l i j)
is_client shape roles l i j =
    shown
    (members (link_at shape l).shared (λ e.
    four
    (same_truth (has (role_at roles i).creq e) (has (role_at roles j).sreq e))
    (same_truth (has (role_at roles i).cack e) (has (role_at roles j).sack e))
    (both (is_false (has (role_at roles i).sreq e)) (is_false (has (role_at roles i).sack e)))
    (both (is_false (has (role_at roles j).creq e)) (is_false (has (role_at roles j).cack e)))))
    (λ h. record { requests = λ e on. (h e on).0; acknowledgements = λ e on. (h e on).1; no_service = λ e on. (h e on).2; no_asking = λ e on. (h e on).3 })

-- whether the link is open, node by node
abbrev told_open : Shape → List RoleSets → (ℕ → ℕ → ℕ → Bool) → ℕ → ℕ → ℕ → Bool
told_open shape roles told i l n = has_acknowledgements shape roles l && told i l n

-- the parities of links are told node by node
pub record ParitiesTold (shape : Shape) (told : ℕ → ℕ → ℕ → Bool) : Type 0 where
  pub start : (i l : ℕ) → i < length shape.parts → l < length shape.links → false ≡ told i l 0
  pub steps : (i l : ℕ) → i < length shape.parts → l < length shape.links → (n e : ℕ) → is_possible (node_at (part_at shape.parts i).table n).next e ≡ true → next_parity (link_at shape l).shared (told i l n) e ≡ told i l (node_after (part_at shape.parts i).table n e)

pub open_told : (shape : Shape) (roles : List RoleSets) (told : ℕ → ℕ → ℕ → Bool) → ParitiesTold shape told → (i l : ℕ) (s : List ℕ) → RunsTo shape i s → l < length shape.links → is_open shape roles l s ≡ told_open shape roles told i l (end_of (part_at shape.parts i).table 0 s)
open_told shape roles told c i l s runs h =
    ap (λ b. has_acknowledgements shape roles l && b) (parity_told (part_at shape.parts i).table (link_at shape l).shared (told i l) (c.start i l runs.part h) (c.steps i l runs.part h) s runs.follows)

abbrev pub keep_roles : (shape : Shape) (roles : List RoleSets) (told : ℕ → ℕ → ℕ → Bool) → Test (KeepRoles shape roles)
keep_roles shape roles told =
    shown
    (four
    (both
    (ends shape (λ i l. same_truth false (told i l 0)))
    (ends shape (λ i l. steps (part_at shape.parts i).table (λ n e t. same_truth (next_parity (link_at shape l).shared (told i l n) e) (told i l t)))))
    (both
    (below (length shape.parts) (λ i. parts_shared shape i ((role_at roles i).creq ∷ (role_at roles i).cack ∷ (role_at roles i).sreq ∷ (role_at roles i).sack ∷ [])))
    (below (length shape.links) (λ l. either (is_client shape roles l (link_at shape l).left (link_at shape l).right) (is_client shape roles l (link_at shape l).right (link_at shape l).left))))
    (ends shape (λ i l. steps (part_at shape.parts i).table (λ n e t. when (is_end shape i l && has (link_at shape l).shared e) (is_true (cond (told_open shape roles told i l n) (is_acknowledgement roles i e) (is_request roles i e))))))
    (three
    (below (length shape.parts) (λ i. accepted (part_at shape.parts i).table (λ n M. either (within (role_at roles i).sreq M) (apart M (role_at roles i).sreq))))
    (ends shape (λ i l. accepted (part_at shape.parts i).table (λ n M. when (is_end shape i l && told_open shape roles told i l n) (apart M (role_at roles i).sreq))))
    (ends shape (λ i l. accepted (part_at shape.parts i).table (λ n M. when (is_end shape i l && told_open shape roles told i l n) (members (link_at shape l).shared (λ e. when (has (role_at roles i).cack e) (is_true (has M e)))))))))
    (λ h.
    let open' = open_told shape roles told (record { start = h.0.0; steps = h.0.1 }) in
    record {
      parted = h.1.0;
      linked = h.1.1;
      turns = λ i s l e possible on.
          ap (λ b. cond b (is_acknowledgement roles i e) (is_request roles i e)) (open' i l s possible.runs on.within)
          ∙ h.2 i l possible.runs.part on.within (end_of (part_at shape.parts i).table 0 s) e possible.next (and_from _ _ on.end on.event);
      serving = λ i s. record {
        all_or_none = each_set shape i s (λ M. IsWithin (role_at roles i).sreq M ⊎ AreApart M (role_at roles i).sreq) (λ k a. h.3.0 i a.runs.part (end_of (part_at shape.parts i).table 0 s) k a.listed);
        none_while_open = λ j l M b joins client is. each_set shape i s (λ N. AreApart N (role_at roles i).sreq) (λ k a.
            h.3.1 i l a.runs.part joins.within (end_of (part_at shape.parts i).table 0 s) k a.listed (and_from _ _ (first_end shape i j l (turned shape j i l joins)) (sym (open' i l s a.runs joins.within) ∙ is))) M b;
      };
      answers = λ i s j l M e b joins client is on asks. each_set shape i s (λ N. IsTrue (has N e)) (λ k a.
          h.3.2 i l a.runs.part joins.within (end_of (part_at shape.parts i).table 0 s) k a.listed (and_from _ _ (first_end shape i j l joins) (sym (open' i l s a.runs joins.within) ∙ is)) e on asks) M b;
    })

abbrev pub role_ranking : (shape : Shape) (roles : List RoleSets) (height : ℕ → ℕ) (ranking : Ranking) → ((i : ℕ) → i < length shape.parts → IsLongestWalk (Serves shape roles) i (height i)) → Test (IsClientServerRanking shape roles ranking)
role_ranking shape roles height ranking heights =
    shown
    (both
    (three (parts_fit shape.parts ranking.parts) (others_zero shape ranking) (same_rank ranking.scale (pos 0)))
    (three
    (vertices shape (λ i n k. members (acceptance_at (part_at shape.parts i) n k) (λ e. when (has (role_at roles i).sreq e) (same_rank (rank_at (part_ranks ranking i).ranks n k) (pos (2 * length shape.parts) -ℤ pos (height i))))))
    (vertices shape (λ i n k. either (meets (acceptance_at (part_at shape.parts i) n k) (role_at roles i).sreq) (same_rank (rank_at (part_ranks ranking i).ranks n k) (pos (height i)))))
    (no_laps shape ranking (λ e. false))))
    (λ h. record {
      height = height;
      heights = heights;
      fits = h.0.0;
      scale = h.0.2;
      serving = λ i n k v meet. h.1.0 i n k v.part v.listed meet.event meet.first meet.second;
      asking = λ i n k v none. elim (h.1.1 i n k v.part v.listed) [ inl meet ↦ absurd (none meet.event meet.first meet.second) | inr is ↦ is ];
      others = h.0.1 h.0.0;
      laps = λ i n e here. h.1.2 i n e here refl;
    })
