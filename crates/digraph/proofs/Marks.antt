-- One mark changes, of a vertex that is not done.
use Rattle.digraph.proofs.Prelude.{◌≡◌, ◌≢◌, ℕ, ◌+◌, ◌<◌, cond, List, length, set, refl, sym, ap, ◌∙◌, false, true, inl, inr, ◌⊎◌, arith, get_or-set_same, get_or-set_other, sum_by, length-set, sum_by-set, cases_eq, false≢true, Mark, New, Open, Done, Digraph, AreMarks, IsMarked, IsTrail, mark_at, is_done, done_count, mark_work}

abbrev weight : Mark → ℕ
weight m = cond (is_done m) 1 0

not_done_weight : (m : Mark) → is_done m ≡ false → weight m ≡ 0
not_done_weight m h = ap (λ b. cond b 1 0) h

module _ (g : Digraph) (marks : List Mark) (v : ℕ) (m : Mark) (within : v < length marks) where
  pub mark_then : (u : ℕ) → ((u ≡ v) × (mark_at (set marks v m) u ≡ m)) ⊎ ((u ≢ v) × (mark_at (set marks v m) u ≡ mark_at marks u))
  mark_then u =
      elim (cases_eq u v) as (λ _. ((u ≡ v) × (mark_at (set marks v m) u ≡ m)) ⊎ ((u ≢ v) × (mark_at (set marks v m) u ≡ mark_at marks u))) [
        | inl same ↦ inl (same, rw same (get_or-set_same marks v m New within))
        | inr other ↦ inr (other, get_or-set_other marks v u m New other)
      ]

  pub less_work_then : (most : ℕ) → mark_work most m < mark_work most (mark_at marks v) → sum_by (mark_work most) (set marks v m) < sum_by (mark_work most) marks
  less_work_then most less = let e = sum_by-set (mark_work most) marks v m New within in omega arith

  module _ (not_done : is_done (mark_at marks v) ≡ false) where
    count_then : done_count (set marks v m) ≡ done_count marks + weight m
    count_then = let e = sum_by-set weight marks v m New within in let z = not_done_weight (mark_at marks v) not_done in omega arith

    pub done_then : (u h : ℕ) → mark_at marks u ≡ Done h → mark_at (set marks v m) u ≡ Done h
    done_then u h done = elim (mark_then u) as (λ _. mark_at (set marks v m) u ≡ Done h) [
      | inl p ↦ let e : is_done (mark_at marks v) ≡ true = rw (← p.0, done) refl in absurd (false≢true (sym not_done ∙ e))
      | inr p ↦ p.1 ∙ done
    ]

    -- what was known of a mark still is
    still : (u : ℕ) (n : Mark) → IsMarked g marks u n → IsMarked g (set marks v m) u n
    still u New k = tt
    still u (Open left height) k = record {
      within = k.within;
      looked_at = λ i h l. let p = k.looked_at i h l in (p.0, done_then _ _ p.1, p.2);
      end = k.end;
      attained = k.attained;
      counted = omega (arith, count_then, k.counted);
    }
    still u (Done height) k = (k.0, omega (arith, count_then, k.1))

    -- the marks then, where the trail is known
    pub marks_then : (trail later : List ℕ) (next : ℕ) → AreMarks g marks trail next → (m ≢ New) → (done_count (set marks v m) ≡ done_count marks + weight m → IsMarked g (set marks v m) v m) → IsTrail g (set marks v m) later → AreMarks g (set marks v m) later next
    marks_then trail later next s not_new here trail_then = record {
      small = s.small;
      in_range = s.in_range;
      marks_len = length-set marks v m ∙ s.marks_len;
      walked = trail_then;
      each = λ u. elim (mark_then u) as (λ _. IsMarked g (set marks v m) u (mark_at (set marks v m) u)) [
        | inl p ↦ rw (p.1, p.0) (here count_then)
        | inr p ↦ rw p.1 (still u (mark_at marks u) (s.each u))
      ];
      met = λ u h new. elim (mark_then u) as (λ _. ⊥) [
        | inl p ↦ not_new (sym p.1 ∙ new)
        | inr p ↦ s.met u h (sym p.1 ∙ new)
      ];
    }
