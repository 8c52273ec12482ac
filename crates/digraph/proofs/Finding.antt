-- What is found once each vertex is done.
use Rattle.digraph.proofs.Prelude.{◌≡◌, ◌≢◌, ℕ, ◌<◌, ◌≤◌, List, [], length, map, get_or, refl, ap, ◌∙◌, true, arith, All, get_or_default, length-map, get_or-map, count_by-le-length, Mark, New, Open, Done, Digraph, HasArc, IsLongestWalk, AreHeights, AreMarks, IsMarked, mark_at, is_open, is_done, height_of, done_count}

-- a vertex that is met and not open is done
done_then : (g : Digraph) (marks : List Mark) (v : ℕ) (m : Mark) → m ≢ New → (is_open m ≡ true → ⊥) → IsMarked g marks v m → IsLongestWalk (HasArc g) v (height_of m) × (height_of m < done_count marks)
done_then g marks v New old closed is = absurd (old refl)
done_then g marks v (Open left height) old closed is = absurd (closed refl)
done_then g marks v (Done height) old closed is = is

module _ (g : Digraph) (marks : List Mark) (trail : List ℕ) (next : ℕ) (s : AreMarks g marks trail next) (empty : trail ≡ []) (over : length g ≤ next) where
  height_at : (v : ℕ) → v < length g → get_or (map height_of marks) v 0 ≡ height_of (mark_at marks v)
  height_at v h = get_or-map height_of marks v New 0 (rw s.marks_len h)

  all_done : (v : ℕ) → v < length g → IsLongestWalk (HasArc g) v (height_of (mark_at marks v)) × (height_of (mark_at marks v) < done_count marks)
  all_done v h = done_then g marks v (mark_at marks v) (s.met v (omega arith)) (λ o. let p = s.walked.listed v o in absurd (omega (arith, p.1, ap length empty))) (s.each v)

  pub heights_found : AreHeights (HasArc g) (length g) (map height_of marks)
  heights_found = record {
    one_each = length-map marks height_of ∙ s.marks_len;
    each = λ v h. rw (height_at v h) (all_done v h).0;
  }

  pub heights_below : All (λ height. height < length g) (map height_of marks)
  heights_below k d h =
      let below : k < length g = rw (length-map marks height_of, s.marks_len) at h in
      rw (get_or_default (map height_of marks) k d 0 h, height_at k below) (omega (arith, (all_done k below).1, count_by-le-length is_done marks, s.marks_len))
