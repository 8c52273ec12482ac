-- Nodes are marked and blocks are cut, one after the other: blocks are split by the sources of steps.
use Rattle.partitions.proofs.Prelude.{◌≡◌, ℕ, zero, suc, ◌+◌, ◌<◌, ◌≤◌, inl, inr, List, [], ◌∷◌, ◌++◌, length, get_or, take, drop, Bool, true, false, ◌||◌, nat_eq, refl, sym, ap, ◌∙◌, subst, arith, slice_index, slice_index_or, ◌↔◌, le-ltb, false≢true, or_cases, or_left, or_right, eqb-true, eq-eqb, take_more, drop_more, list_any-append, or-false, has, State, HasBlocks, HaveSameBlocks, IsMarked, AreMarked, AreTouched, AreTogether, AreCut, IsCut, IsCalm, IsOnward, IsSplit, block_at, is_marked, is_source, waits, same_number, same_or}

calm_unmarked : (n : ℕ) (s : State) → HasBlocks n s → IsCalm s → (i : ℕ) → i < n → is_marked s i ≡ false
calm_unmarked n s good calm i h =
    le-ltb (slice_index s.places i) (slice_index s.middles (block_at s i)) (subst (λ m. m ≤ slice_index s.places i) (sym (calm (block_at s i) (good.numbered i h))) (good.within i h).0)

-- the partition has as many nodes as before
pub same_count : (n : ℕ) (s : State) → HasBlocks n s → (P : ℕ → Type 0) → P (length s.blocks) → P n
same_count n s good P p = subst P good.blocks_len p

pub none_marked : (n : ℕ) (s : State) → HasBlocks n s → IsCalm s → AreMarked n s s [] []
none_marked n s good calm = record {
  fit = good;
  same = record { blocks = refl; firsts = refl; ends = refl; waiting = refl; flags = refl };
  found = record { all = λ b h l. let e = calm b h in absurd (omega arith); known = λ b h. absurd (false≢true h) };
  marked = λ i h. calm_unmarked n s good calm i h;
}

pub one_more_marked : (n : ℕ) (s t u : State) (touched touched' : List ℕ) (steps : List (ℕ × ℕ)) (k node : ℕ) (d : ℕ × ℕ) → k < length steps → node ≡ (get_or steps k d).1 → AreMarked n s t touched (take k steps) → IsMarked n t u node → AreTouched u touched' → AreMarked n s u touched' (take (k + 1) steps)
one_more_marked n s t u touched touched' steps k node d inside read a m touch = record {
  fit = m.fit;
  same = record { blocks = m.same.blocks ∙ a.same.blocks; firsts = m.same.firsts ∙ a.same.firsts; ends = m.same.ends ∙ a.same.ends; waiting = m.same.waiting ∙ a.same.waiting; flags = m.same.flags ∙ a.same.flags };
  found = touch;
  marked = λ i h.
      let more : take (k + 1) steps ≡ take k steps ++ get_or steps k d ∷ [] = take_more steps k d inside in
      m.marked i h ∙ same_or (is_marked t i) (nat_eq i node) (is_source (take k steps) i) (nat_eq (get_or steps k d).1 i || false) (a.marked i h) (same_number i node ∙ ap (λ x. nat_eq x i) read ∙ sym (or-false (nat_eq (get_or steps k d).1 i)))
      ∙ sym (list_any-append (λ (x : ℕ × ℕ). nat_eq x.1 i) (take k steps) (get_or steps k d ∷ [])) ∙ sym (ap (λ (xs : List (ℕ × ℕ)). is_source xs i) more);
}

pub onward_trans : (n : ℕ) (s t u : State) → IsOnward n s t → IsOnward n t u → IsOnward n s u
onward_trans n s t u a b = record {
  less = let p = a.less in let q = b.less in omega arith;
  kept = λ i h w.
      let later = b.kept i h w in
      let before = a.kept i h later.0 in
      (before.0, λ j k e. later.1 j k (before.1 j k e));
}

-- the blocks of the list up to a place were cut
pub record AreCutUpTo (n : ℕ) (s t : State) (touched : List ℕ) (k : ℕ) : Type 0 where
  pub fit : HasBlocks n t
  pub together : (i j : ℕ) → i < n → j < n → AreTogether t i j ↔ AreTogether s i j
  pub left : (c : ℕ) → c < length t.firsts → slice_index t.firsts c < slice_index t.middles c → has (drop k touched) c ≡ true
  pub known : (c : ℕ) → has touched c ≡ true → c < length t.firsts
  pub onward : IsOnward n s t

pub one_more_cut : (n : ℕ) (s t u : State) (touched : List ℕ) (k b : ℕ) → k < length touched → b ≡ get_or touched k 0 → AreCutUpTo n s t touched k → IsCut n t u b → AreCutUpTo n s u touched (k + 1)
one_more_cut n s t u touched k b inside read a c = record {
  fit = c.fit;
  together = λ i j h l. let p = a.together i j h l in let q = c.together i j h l in (λ r. p.0 (q.0 r), λ r. q.1 (p.1 r));
  left = λ d h l.
      let p = c.left d h l in
      let before = a.left d p.1 p.2 in
      let rest : drop k touched ≡ b ∷ drop (k + 1) touched = drop_more touched k 0 inside ∙ ap (λ x. x ∷ drop (k + 1) touched) (sym read) in
      elim (or_cases (nat_eq b d) (has (drop (k + 1) touched) d) (subst (λ (xs : List ℕ). has xs d ≡ true) rest before)) as (λ _. has (drop (k + 1) touched) d ≡ true) [
        | inl e ↦ absurd (p.0 (sym (eqb-true b d e)))
        | inr later ↦ later
      ];
  known = λ d h. let p = a.known d h in let q = c.more in omega arith;
  onward = onward_trans n s t u a.onward c.onward;
}

-- a block of the list that is read is known
pub read_known : (n : ℕ) (s t : State) (touched : List ℕ) (k b : ℕ) → k < length touched → b ≡ get_or touched k 0 → AreCutUpTo n s t touched k → b < length t.firsts
read_known n s t touched k b inside read a = a.known b (subst (λ x. has touched x ≡ true) (sym read) (has_at touched k 0 inside))
  where
    has_at : (xs : List ℕ) (k d : ℕ) → k < length xs → has xs (get_or xs k d) ≡ true
    has_at [] k d h = absurd (omega arith)
    has_at (x ∷ xs) zero d h = or_left (nat_eq x x) (has xs x) (eq-eqb x x refl)
    has_at (x ∷ xs) (suc k) d h = or_right (nat_eq x (get_or xs k d)) (has xs (get_or xs k d)) (has_at xs k d (omega arith))

same_onward : (n : ℕ) (s t : State) → HaveSameBlocks s t → IsOnward n s t
same_onward n s t a = record {
  less = let p : length t.firsts ≡ length s.firsts = ap (λ (xs : List ℕ). length xs) a.firsts in let q : length t.waiting ≡ length s.waiting = ap (λ (xs : List ℕ). length xs) a.waiting in omega arith;
  kept = λ i h w.
      let e : (k : ℕ) → block_at t k ≡ block_at s k = λ k. ap (λ (xs : List ℕ). slice_index xs k) a.blocks in (
        subst (λ c. waits s c ≡ false) (e i) (subst (λ (xs : List Bool). slice_index_or xs (block_at t i) false ≡ false) a.flags w),
        λ j k f. e j ∙ f ∙ sym (e i),
      );
}

pub split_from : (n : ℕ) (s t u : State) (touched : List ℕ) (steps : List (ℕ × ℕ)) → AreMarked n s t touched steps → AreCut n t u → IsSplit n s u steps
split_from n s t u touched steps m c = record {
  fit = c.fit;
  calm = c.calm;
  exact = λ i j h l.
      let e : (k : ℕ) → block_at t k ≡ block_at s k = λ k. ap (λ (xs : List ℕ). slice_index xs k) m.same.blocks in
      let p = c.together i j h l in (
        λ r. let q = p.0 (r, calm_unmarked n u c.fit c.calm i h ∙ sym (calm_unmarked n u c.fit c.calm j l)) in
            (sym (e i) ∙ q.0 ∙ e j, sym (m.marked i h) ∙ q.1 ∙ m.marked j l),
        λ r. (p.1 (e i ∙ r.0 ∙ sym (e j), m.marked i h ∙ r.1 ∙ sym (m.marked j l))).0,
      );
  onward = onward_trans n s t u (same_onward n s t m.same) c.onward;
}
