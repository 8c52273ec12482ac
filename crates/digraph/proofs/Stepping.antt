-- The steps of a search: to a new vertex, past a target that is done, and back from a vertex whose targets were all looked at.
use Rattle.digraph.proofs.Prelude.{◌≡◌, ◌≢◌, ℕ, zero, suc, ◌+◌, ◌-◌, ◌^◌, ◌<◌, ◌≤◌, List, [], ◌∷◌, ◌++◌, length, set, take, get_or, max, refl, sym, ap, ◌∙◌, true, inl, inr, arith, below_more, sum_by, get_or_default, get_or-le-sum_by, count_by-le-length, cases_lt, false≢true, Mark, New, Open, Done, Search, Digraph, targets_of, HasArc, Walk, IsLongestWalk, AreMarks, IsOpen, IsStep, mark_at, is_open, is_done, done_count, work_left}
use Rattle.digraph.proofs.Arcs.{HasArc-at, place_of_arc}
use Rattle.digraph.proofs.Marks.{done_then, less_work_then, marks_then}
use Rattle.digraph.proofs.Trails.{open_within, trail_same, trail_longer, trail_shorter}

module _ (g : Digraph) (marks : List Mark) (trail : List ℕ) (next : ℕ) (s : AreMarks g marks trail next) where
  pub read_at : (u : ℕ) (m n : Mark) → u < length marks → m ≡ get_or marks u m → m ≡ n → mark_at marks u ≡ n
  read_at u m n within read is = get_or_default marks u New m within ∙ sym read ∙ is

  pub below_fits : (w below : ℕ) → mark_at marks w ≡ Done below → below + 1 < 2 ^ 32
  below_fits w below done =
      let low : IsLongestWalk (HasArc g) w below × (below < done_count marks) = rw done at (s.each w) in
      omega (arith, low.1, count_by-le-length is_done marks, s.marks_len, s.small)

  -- the last vertex of the trail
  module _ (v : ℕ) (not_empty : 0 < length trail) (last : get_or trail (length trail - 1) 0 ≡ v) where
    top_open : is_open (mark_at marks v) ≡ true
    top_open = rw (← last) (s.walked.opened (length trail - 1) (omega arith))

    pub top_within : v < length marks
    top_within = open_within marks v top_open

    pub top_read : (m n : Mark) → m ≡ get_or marks v m → m ≡ n → mark_at marks v ≡ n
    top_read m n = read_at v m n top_within

    pub top_is_open : (m : Mark) → m ≡ get_or marks v m → ((left height : ℕ) → m ≡ Open left height → ⊥) → ⊥
    top_is_open New read closed = false≢true (ap is_open (sym (top_read New New read refl)) ∙ top_open)
    top_is_open (Open left height) read closed = closed left height refl
    top_is_open (Done height) read closed = false≢true (ap is_open (sym (top_read (Done height) (Done height) read refl)) ∙ top_open)

    pub top_follows : (w : ℕ) → HasArc g v w → (k : ℕ) → k + 1 ≡ length trail → HasArc g (get_or trail k 0) w
    top_follows w arc k h = let e : k ≡ length trail - 1 = omega arith in rw (e, last) arc

  -- to a new vertex
  module _ (w : ℕ) (vertex : w < length g) (new : mark_at marks w ≡ New) where
    in_marks : w < length marks
    in_marks = rw s.marks_len vertex

    pub entered : ((k : ℕ) → k + 1 ≡ length trail → HasArc g (get_or trail k 0) w) → AreMarks g (set marks w (Open (length (targets_of g w)) 0)) (trail ++ w ∷ []) next
    entered follows =
        marks_then g marks w (Open (length (targets_of g w)) 0) in_marks (ap is_done new) trail (trail ++ w ∷ []) next s (λ e. cc)
        (λ count. record { within = omega arith; looked_at = λ k l h. absurd (omega arith); end = w; attained = refl; counted = omega arith })
        (trail_longer g marks trail s.walked w (Open (length (targets_of g w)) 0) in_marks (ap is_open new) refl follows)

    pub less_entering : work_left g (set marks w (Open (length (targets_of g w)) 0)) next < work_left g marks next
    less_entering =
        let b = get_or-le-sum_by length g w [] vertex in
        let l = less_work_then g marks w (Open (length (targets_of g w)) 0) in_marks (sum_by length g) (rw new (omega arith)) in
        omega arith

  module _ (v left height : ℕ) (is : mark_at marks v ≡ Open left height) where
    pub opened : IsOpen g marks v left height
    opened = rw is at (s.each v)

    pub in_marks_too : v < length marks
    in_marks_too = open_within marks v (ap is_open is)

    pub next_arc : left ≢ 0 → (w : ℕ) → w ≡ get_or (targets_of g v) (left - 1) 0 → HasArc g v w
    next_arc some_left w is_w = rw is_w (HasArc-at g v (left - 1) (omega (arith, opened.within)))

    -- past a target that is done
    module _ (w below : ℕ) (some_left : left ≢ 0) (is_w : w ≡ get_or (targets_of g v) (left - 1) 0) (done : mark_at marks w ≡ Done below) where
      low : IsLongestWalk (HasArc g) w below × (below < done_count marks)
      low = rw done at (s.each w)

      walk_then : (z : ℕ) × Walk (HasArc g) (max height (below + 1)) v z
      walk_then = elim (cases_lt below height) as (λ _. (z : ℕ) × Walk (HasArc g) (max height (below + 1)) v z) [
        | inl lower ↦ let e : max height (below + 1) ≡ height = omega arith in rw e (opened.end, opened.attained)
        | inr higher ↦
            let e : max height (below + 1) ≡ suc below = omega arith in
            rw e (low.0.end, (w, next_arc some_left w is_w, low.0.attained))
      ]

      pub raised : AreMarks g (set marks v (Open (left - 1) (max height (below + 1)))) trail next
      raised =
          marks_then g marks v (Open (left - 1) (max height (below + 1))) in_marks_too (ap is_done is) trail trail next s (λ e. cc)
          (λ count. record {
            within = omega (arith, opened.within);
            looked_at = λ k l h. elim (cases_lt k left) as (λ _. (n : ℕ) × (mark_at (set marks v (Open (left - 1) (max height (below + 1)))) (get_or (targets_of g v) k 0) ≡ Done n) × (n < max height (below + 1))) [
              | inl here ↦ let e : k ≡ left - 1 = omega arith in (below, done_then g marks v _ in_marks_too (ap is_done is) _ below (rw (e, ← is_w) done), omega arith)
              | inr past ↦ let p = opened.looked_at k past h in (p.0, done_then g marks v _ in_marks_too (ap is_done is) _ p.0 p.1, omega (arith, p.2))
            ];
            end = walk_then.0;
            attained = walk_then.1;
            counted = omega (arith, opened.counted, low.1);
          })
          (trail_same g marks trail s.walked v (Open (left - 1) (max height (below + 1))) in_marks_too (ap is_open is) refl)

      pub less_raising : work_left g (set marks v (Open (left - 1) (max height (below + 1)))) next < work_left g marks next
      less_raising =
          let l = less_work_then g marks v (Open (left - 1) (max height (below + 1))) in_marks_too (sum_by length g) (rw is (omega arith)) in
          omega arith

  -- back from a vertex whose targets were all looked at
  module _ (v height : ℕ) (is : mark_at marks v ≡ Open 0 height) where
    -- no walk from it is longer than its height
    longest : (n u : ℕ) → Walk (HasArc g) n v u → n ≤ height
    longest zero u walk = omega arith
    longest (suc n) u walk =
        let w : ℕ = walk.0 in
        let p = place_of_arc g v w walk.1 in
        let q = (opened v 0 height is).looked_at p.0 (omega arith) p.1 in
        let low : IsLongestWalk (HasArc g) w q.0 × (q.0 < done_count marks) = let done : mark_at marks w ≡ Done q.0 = rw p.2 at q.1 in rw done at (s.each w) in
        omega (arith, low.0.most n u walk.2, q.2)

    pub finished : 0 < length trail → get_or trail (length trail - 1) 0 ≡ v → AreMarks g (set marks v (Done height)) (take (length trail - 1) trail) next
    finished not_empty last =
        let o = opened v 0 height is in
        let within = in_marks_too v 0 height is in
        marks_then g marks v (Done height) within (ap is_done is) trail (take (length trail - 1) trail) next s (λ e. cc)
        (λ count. (record { end = o.end; attained = o.attained; most = longest }, omega (arith, o.counted)))
        (trail_shorter g marks trail s.walked v (Done height) within refl not_empty last)

    pub less_finishing : work_left g (set marks v (Done height)) next < work_left g marks next
    less_finishing =
        let l = less_work_then g marks v (Done height) (in_marks_too v 0 height is) (sum_by length g) (rw is (omega arith)) in
        omega arith

  -- a vertex that was come to is passed over
  pub passed : mark_at marks next ≢ New → AreMarks g marks trail (next + 1)
  passed old = record { small = s.small; in_range = s.in_range; marks_len = s.marks_len; walked = s.walked; each = s.each; met = below_more _ next s.met old }

-- the step that a search takes, by what is written
pub step_of : (g : Digraph) (before after : Search) (marks : List Mark) (trail : List ℕ) → after.marks.items ≡ marks → after.trail.items ≡ trail → AreMarks g marks trail after.next → work_left g marks after.next < work_left g before.marks.items before.next → IsStep g before after
step_of g before after marks trail m t s l = record { search = rw (m, t) s; less_work = rw m l }
