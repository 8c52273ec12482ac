-- Refinement by splitters: between two splitters the partition is stable under each block that doesn't wait.
use Rattle.equal_futures.proofs.Prelude.{◌≡◌, ℕ, ◌<◌, inl, inr, List, [], length, get_or, true, false, ◌&&◌, nat_eq, nat_lt, refl, sym, ap, ◌∙◌, subst, slice_index, slice_index_or, ◌↔◌, All, cases_eq, eqb-true, eq-eqb, lt-ltb, ltb-true, and_parts, get_or_default, Node, node_at, is_possible, node_after, AreAllFrom, IsSplitByBlock, IsSplitByMarks, HaveEqualFuture, AreFutureClasses, NodesRise, AreRenumbered, IsSplitByEvents, AreMarkSteps, AreIncoming, AreGathered, AreFrom, has_arrow, State, HasBlocks, IsCalm, IsWhole, IsTaken, block_at, waits, same_tests, both_ways, has, any_of, has_at, any_member}
use Rattle.equal_futures.proofs.RowLists.{target_below}
use Rattle.equal_futures.proofs.Futures.{same_marks, same_events, future_after, AreStable, future_from_stable}

pub future_sym : (nodes : List Node) (marks : List ℕ) (i j : ℕ) → HaveEqualFuture nodes marks i j → HaveEqualFuture nodes marks j i
future_sym nodes marks i j f = record { runs = λ w. sym (f.runs w); ends = λ w r. sym (f.ends w (f.runs w ∙ r)) }

-- The nodes of a block have equal marks, nodes with equal future are in one block, and the partition is stable under each block that doesn't wait.
pub record IsRefined (nodes : List Node) (marks : List ℕ) (s : State) : Type 0 where
  pub fit : HasBlocks (length nodes) s
  pub calm : IsCalm s
  pub told : (i j : ℕ) → i < length nodes → j < length nodes → block_at s i ≡ block_at s j → slice_index marks i ≡ slice_index marks j
  pub kept : (i j : ℕ) → i < length nodes → j < length nodes → HaveEqualFuture nodes marks i j → block_at s i ≡ block_at s j
  pub settled : (i j e : ℕ) → i < length nodes → j < length nodes → block_at s i ≡ block_at s j → is_possible (node_at nodes i).next e ≡ true → waits s (block_at s (node_after nodes i e)) ≡ false
      → (is_possible (node_at nodes j).next e ≡ true) × (block_at s (node_after nodes i e) ≡ block_at s (node_after nodes j e))

pub marks_from : (n : ℕ) (marks : List ℕ) (steps : List (ℕ × ℕ)) → length marks ≡ n → AreMarkSteps marks steps → AreFrom n steps
marks_from n marks steps one_each are e i h = subst (λ m. i < m) one_each (ltb-true i (length marks) (and_parts (nat_lt i (length marks)) (nat_eq (slice_index marks i) e) (sym (are e i) ∙ h)).0)

pub gathered_from : (n k b : ℕ) (s : State) (rows : List (List (ℕ × ℕ))) (members : List ℕ) (steps : List (ℕ × ℕ)) → length rows ≡ n → k ≡ n → AreAllFrom n rows →
    ((i : ℕ) → (has members i ≡ true) ↔ ((i < n) × (block_at s i ≡ b))) → AreGathered rows members steps → AreFrom k steps
gathered_from n k b s rows members steps count is_k sources are gathered e i h =
    let r = any_member (λ t. has_arrow (slice_index_or rows t []) e i) members (sym (gathered e i) ∙ h) in
    subst (λ x. i < x) (sym is_k) (sources r.0 e i (subst (λ x. r.0 < x) (sym count) ((are r.0).0 r.1).0) r.2)

module _ (nodes : List Node) (marks : List ℕ) (rise : NodesRise nodes) (one_each : length marks ≡ length nodes) where
  after_below : (i e : ℕ) → is_possible (node_at nodes i).next e ≡ true → node_after nodes i e < length nodes
  after_below i e h = target_below (length nodes) (node_at nodes i).next e (rise i) h

  mark_step : (steps : List (ℕ × ℕ)) → AreMarkSteps marks steps → (e i : ℕ) → i < length nodes → has_arrow steps e i ≡ nat_eq (slice_index marks i) e
  mark_step steps are e i h = are e i ∙ ap (λ b. b && nat_eq (slice_index marks i) e) (lt-ltb i (length marks) (subst (λ m. i < m) (sym one_each) h))

  pub first_refined : (s t : State) (steps : List (ℕ × ℕ)) → IsWhole (length nodes) s → AreMarkSteps marks steps → IsSplitByEvents (length nodes) s t steps → IsRefined nodes marks t
  first_refined s t steps whole are split = record {
    fit = split.fit;
    calm = split.calm;
    told = λ i j h l e.
        let r = (split.exact i j h l).0 e in
        let m = slice_index marks i in
        sym (eqb-true (slice_index marks j) m (sym (mark_step steps are m j l) ∙ sym (r.1 m) ∙ mark_step steps are m i h ∙ eq-eqb m m refl));
    kept = λ i j h l f. (split.exact i j h l).1 (whole.one i j h l, λ e. mark_step steps are e i h ∙ ap (λ m. nat_eq m e) (same_marks nodes marks i j f) ∙ sym (mark_step steps are e j l));
    settled = λ i j e h l _ p w.
        let t' = after_below i e p in
        absurd (both_ways (waits s (block_at s (node_after nodes i e))) (split.onward.kept (node_after nodes i e) t' w).0 (whole.waiting (node_after nodes i e) t'));
  }

  module _ (s r t : State) (b : ℕ) (steps : List (ℕ × ℕ)) (a : IsRefined nodes marks s) (taken : IsTaken (length nodes) s r b) (enters : (e i : ℕ) → (has_arrow steps e i ≡ true) ↔ ((i < length nodes) × (is_possible (node_at nodes i).next e ≡ true) × (block_at s (node_after nodes i e) ≡ b))) (split : IsSplitByEvents (length nodes) r t steps) where
    same_block : (i : ℕ) → block_at r i ≡ block_at s i
    same_block i = ap (λ (xs : List ℕ). slice_index xs i) taken.blocks

    before : (i j : ℕ) → i < length nodes → j < length nodes → block_at t i ≡ block_at t j → block_at s i ≡ block_at s j
    before i j h l e = sym (same_block i) ∙ ((split.exact i j h l).0 e).0 ∙ same_block j

    enters_along : (i j e : ℕ) → j < length nodes → HaveEqualFuture nodes marks i j → has_arrow steps e i ≡ true → has_arrow steps e j ≡ true
    enters_along i j e l f h =
        let p = (enters e i).0 h in
        let q : is_possible (node_at nodes j).next e ≡ true = sym (same_events nodes marks i j f e) ∙ p.1 in
        (enters e j).1 (l, q, sym (a.kept (node_after nodes i e) (node_after nodes j e) (after_below i e p.1) (after_below j e q) (future_after nodes marks i j e f p.1)) ∙ p.2)

    pub next_refined : IsRefined nodes marks t
    next_refined = record {
      fit = split.fit;
      calm = split.calm;
      told = λ i j h l e. a.told i j h l (before i j h l e);
      kept = λ i j h l f. (split.exact i j h l).1 (
        same_block i ∙ a.kept i j h l f ∙ sym (same_block j),
        λ e. same_tests (has_arrow steps e i) (has_arrow steps e j) (enters_along i j e l f) (enters_along j i e h (future_sym nodes marks i j f)),
      );
      settled = λ i j e h l same p w.
          let x = node_after nodes i e in
          let below = after_below i e p in
          let k = split.onward.kept x below w in
          elim (cases_eq (block_at s x) b) as (λ _. (is_possible (node_at nodes j).next e ≡ true) × (block_at t x ≡ block_at t (node_after nodes j e))) [
            | inl into ↦
                let q = (enters e j).0 (sym (((split.exact i j h l).0 same).1 e) ∙ (enters e i).1 (h, p, into)) in
                (q.1, sym (k.1 (node_after nodes j e) (after_below j e q.1) (same_block (node_after nodes j e) ∙ q.2 ∙ sym into ∙ sym (same_block x))))
            | inr other ↦
                let q = a.settled i j e h l (before i j h l same) p (sym (taken.others (block_at s x) other) ∙ ap (λ c. waits r c) (sym (same_block x)) ∙ k.0) in
                (q.0, sym (k.1 (node_after nodes j e) (after_below j e q.0) (same_block (node_after nodes j e) ∙ sym q.1 ∙ sym (same_block x))))
          ];
    }

  pub gathered_enter : (s : State) (b : ℕ) (rows : List (List (ℕ × ℕ))) (members : List ℕ) (steps : List (ℕ × ℕ)) → AreIncoming nodes rows (length nodes) → ((i : ℕ) → (has members i ≡ true) ↔ ((i < length nodes) × (block_at s i ≡ b))) → AreGathered rows members steps → (e i : ℕ) → (has_arrow steps e i ≡ true) ↔ ((i < length nodes) × (is_possible (node_at nodes i).next e ≡ true) × (block_at s (node_after nodes i e) ≡ b))
  gathered_enter s b rows members steps incoming are gathered e i = (
    λ h.
        let r = any_member (λ t. has_arrow (slice_index_or rows t []) e i) members (sym (gathered e i) ∙ h) in
        let m = (are r.0).0 r.1 in
        let q = (incoming.exact r.0 e i m.0).0 r.2 in
        (q.0, q.1, ap (λ x. block_at s x) q.2 ∙ m.1),
    λ r.
        let t = node_after nodes i e in
        let below = after_below i e r.1 in
        gathered e i ∙ any_of (λ t. has_arrow (slice_index_or rows t []) e i) members t ((are t).1 (below, r.2)) ((incoming.exact t e i below).1 (r.0, r.1, refl)),
  )

  -- where no block waits the partition is stable
  pub stable_then : (s : State) → IsRefined nodes marks s → ((b : ℕ) → waits s b ≡ false) → AreStable nodes marks s.blocks
  stable_then s a none = record {
    told = a.told;
    alike = λ i j h l e. record {
      possible = λ x. same_tests (is_possible (node_at nodes i).next x) (is_possible (node_at nodes j).next x)
          (λ p. (a.settled i j x h l e p (none (block_at s (node_after nodes i x)))).0)
          (λ p. (a.settled j i x l h (sym e) p (none (block_at s (node_after nodes j x)))).0);
      targets = λ x p. (a.settled i j x h l e p (none (block_at s (node_after nodes i x)))).1;
    };
  }

  -- the blocks, numbered anew, then are the classes of nodes with equal future
  pub classes_then : (s : State) (classes : List ℕ) (count : ℕ) → IsRefined nodes marks s → ((b : ℕ) → waits s b ≡ false) → AreRenumbered s.blocks classes count → AreFutureClasses nodes marks classes count
  classes_then s classes count a none t =
      let within : (i : ℕ) → i < length nodes → i < length s.blocks = λ i h. subst (λ n. i < n) (sym a.fit.blocks_len) h in
      record {
        one_each = t.one_each ∙ a.fit.blocks_len;
        exact = λ i j h l. (
          λ e. future_from_stable nodes marks s.blocks rise (stable_then s a none) i j h l ((t.exact i j (within i h) (within j l)).0 e),
          λ f. (t.exact i j (within i h) (within j l)).1 (a.kept i j h l f),
        );
        order = t.order;
      }

-- the same, with the numbers and lists as the code reads them
module _ (nodes : List Node) (marks : List ℕ) (rise : NodesRise nodes) (one_each : length marks ≡ length nodes) (s r t : State) (b m k : ℕ) (rows read : List (List (ℕ × ℕ))) (members : List ℕ) (steps : List (ℕ × ℕ)) (a : IsRefined nodes marks s) (is_m : m ≡ length nodes) (is_k : k ≡ length nodes) (taken : IsTaken m s r b) (incoming : AreIncoming nodes rows (length nodes)) (is_read : read ≡ rows) (are : (i : ℕ) → (has members i ≡ true) ↔ ((i < k) × (block_at r i ≡ b))) (gathered : AreGathered read members steps) where
  are_members : (i : ℕ) → (has members i ≡ true) ↔ ((i < length nodes) × (block_at s i ≡ b))
  are_members i =
      let e : block_at r i ≡ block_at s i = ap (λ (xs : List ℕ). slice_index xs i) taken.blocks in (
        λ h. let p = (are i).0 h in (subst (λ x. i < x) is_k p.0, sym e ∙ p.1),
        λ p. (are i).1 (subst (λ x. i < x) (sym is_k) p.0, e ∙ p.1),
      )

  enters : (e i : ℕ) → (has_arrow steps e i ≡ true) ↔ ((i < length nodes) × (is_possible (node_at nodes i).next e ≡ true) × (block_at s (node_after nodes i e) ≡ b))
  enters = gathered_enter nodes marks rise one_each s b rows members steps incoming are_members (subst (λ (xs : List (List (ℕ × ℕ))). AreGathered xs members steps) is_read gathered)

  pub refined_read : IsSplitByEvents k r t steps → IsRefined nodes marks t
  refined_read split = next_refined nodes marks rise one_each s r t b steps a (subst (λ x. IsTaken x s r b) is_m taken) enters (subst (λ x. IsSplitByEvents x r t steps) is_k split)

-- the members of a block are nodes
pub all_members : (n m b : ℕ) (s : State) (members : List ℕ) → m ≡ n → ((i : ℕ) → (has members i ≡ true) ↔ ((i < n) × (block_at s i ≡ b))) → All (λ i. i < m) members
all_members n m b s members same are k d h =
    let below : get_or members k 0 < n = ((are (get_or members k 0)).0 (has_at members k h)).0 in
    subst (λ x. get_or members k d < x) (sym same) (subst (λ x. x < n) (get_or_default members k 0 d h) below)

-- between the first splitter and the last one
pub marks_refined : (nodes : List Node) (marks : List ℕ) → NodesRise nodes → length marks ≡ length nodes → (n : ℕ) (s t : State) → n ≡ length nodes → IsWhole (length nodes) s → IsSplitByMarks n s t marks → IsRefined nodes marks t
marks_refined nodes marks rise one_each n s t is_n whole e = first_refined nodes marks rise one_each s t e.steps whole e.exact (subst (λ x. IsSplitByEvents x s t e.steps) is_n e.split)

pub block_refined : (nodes : List Node) (marks : List ℕ) → NodesRise nodes → length marks ≡ length nodes → (s r t : State) (b m k : ℕ) (rows read : List (List (ℕ × ℕ))) → IsRefined nodes marks s → m ≡ length nodes → k ≡ length nodes → IsTaken m s r b →
    AreIncoming nodes rows (length nodes) → read ≡ rows → IsSplitByBlock k r t read b → IsRefined nodes marks t
block_refined nodes marks rise one_each s r t b m k rows read a is_m is_k taken incoming is_read e =
    refined_read nodes marks rise one_each s r t b m k rows read e.members e.steps a is_m is_k taken incoming is_read e.exact e.gathered e.split

pub rows_read : (nodes : List Node) (rows read : List (List (ℕ × ℕ))) (k : ℕ) → k ≡ length nodes → AreIncoming nodes rows (length nodes) → read ≡ rows → AreAllFrom k read
rows_read nodes rows read k is_k incoming is_read t e i h a =
    subst (λ x. i < x) (sym is_k) ((incoming.exact t e i (subst (λ x. t < x) incoming.one_each (subst (λ (xs : List (List (ℕ × ℕ))). t < length xs) is_read h))).0 (subst (λ (xs : List (List (ℕ × ℕ))). has_arrow (slice_index_or xs t []) e i ≡ true) is_read a)).0
